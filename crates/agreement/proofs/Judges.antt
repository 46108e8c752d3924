-- The rules of the triple: one for each way that a step is made.
use mathlib.Core.Path.{◌≡◌, refl, sym, ◌∙◌}
use mathlib.Core.Bool.{Bool, true, false, cond, false≢true}
use mathlib.Core.List.{List, [], ◌∷◌, ◌++◌, map, map-append}
use Prim.Native.Nat.{ℕ, ◌+◌}
use lib.ListN.{length}
use Rattle.tables.specs.Values.{Tables}
use Rattle.tables.specs.Outcomes.{is}
use Rattle.tables.specs.Steps.{Ending, on, ends, Went, Step, Act, after, ◌>>=◌, give, end, end_if, each, tables, change}
use Rattle.tables.specs.declared.Outcome.{Outcome}
use Rattle.trace.specs.Kinds.{of_record}
use Rattle.trace.specs.declared.Line.{Line}
use Rattle.keeping.specs.Holds.{After, Holds}
use Rattle.judge_rules.specs.Rules.{Judge}
use Rattle.agreement.specs.Judges.{Reach, Fair, addresses, excused, ReachedBy, Reached, Judges}
use Rattle.agreement.proofs.Reading.{breaks_second, reach_to, reach_then, fair-first, fair_second}

-- from more, and to less
pub judges-from : {A : Type 0} {m : Step A} {P R : Tables → Judge → Type 0} {Q : A → Tables → Judge → Type 0} {E : Outcome → Tables → Judge → Type 0} →
    ((t : Tables) (s : Judge) → R t s → P t s) → Judges P m Q E → Judges R m Q E
judges-from f h = record { reads = λ xs k t s r fair. h.reads xs k t s (f t s r) fair }

pub judges_to : {A : Type 0} {m : Step A} {P : Tables → Judge → Type 0} {Q R : A → Tables → Judge → Type 0} {E : Outcome → Tables → Judge → Type 0} →
    ((a : A) (t : Tables) (s : Judge) → Q a t s → R a t s) → Judges P m Q E → Judges P m R E
judges_to {A} {m} {P} {Q} {R} {E} f h =
    record { reads = λ xs k t s p fair. go s (map of_record (m xs k t).records) (m xs k t).tables (m xs k t).ending (h.reads xs k t s p fair) }
  where
    go : (s : Judge) (ls : List Line) (t : Tables) (e : Ending A) → Reached Q E s ls t e → Reached R E s ls t e
    go s ls t (on a) r = reach_to (f a t) r
    go s ls t (ends o) r = r

-- to less, where the step ends the call
pub judges-ends : {A : Type 0} {m : Step A} {P : Tables → Judge → Type 0} {Q : A → Tables → Judge → Type 0} {E F : Outcome → Tables → Judge → Type 0} →
    ((o : Outcome) (t : Tables) (s : Judge) → E o t s → F o t s) → Judges P m Q E → Judges P m Q F
judges-ends {A} {m} {P} {Q} {E} {F} f h =
    record { reads = λ xs k t s p fair. go s (map of_record (m xs k t).records) (m xs k t).tables (m xs k t).ending (h.reads xs k t s p fair) }
  where
    go : (s : Judge) (ls : List Line) (t : Tables) (e : Ending A) → Reached Q E s ls t e → Reached Q F s ls t e
    go s ls t (on a) r = r
    go s ls t (ends o) r = record { breaks = r.breaks; reaches = λ x. reach_to (f o t) (r.reaches x) }

-- from what never is
pub judges_never : {A : Type 0} {m : Step A} {Q : A → Tables → Judge → Type 0} {E : Outcome → Tables → Judge → Type 0} → Judges (λ _ _. ⊥) m Q E
judges_never = record { reads = λ xs k t s p fair. absurd p }

-- the tables and the state that a step starts from, by name
pub judges-named : {A : Type 0} {m : Step A} {P : Tables → Judge → Type 0} {Q : A → Tables → Judge → Type 0} {E : Outcome → Tables → Judge → Type 0} →
    ((u : Tables) (v : Judge) → P u v → Judges (λ t s. (t ≡ u) × (s ≡ v)) m Q E) → Judges P m Q E
judges-named h = record { reads = λ xs k t s p fair. (h t s p).reads xs k t s (refl, refl) fair }

-- a fact that is about neither
pub judges_given : {A K : Type 0} {m : Step A} {P : Tables → Judge → Type 0} {Q : A → Tables → Judge → Type 0} {E : Outcome → Tables → Judge → Type 0} →
    (K → Judges P m Q E) → Judges (λ t s. K × P t s) m Q E
judges_given h = record { reads = λ xs k t s q fair. (h q.0).reads xs k t s q.1 fair }

-- What is true of the tables alone, by the triple over tables.
pub judges-and : {A : Type 0} {m : Step A} {K : Tables → Type 0} {L : A → Tables → Type 0} {F : Outcome → Tables → Type 0}
    {P : Tables → Judge → Type 0} {Q : A → Tables → Judge → Type 0} {E : Outcome → Tables → Judge → Type 0} →
    Holds K m L F → Judges (λ t s. K t × P t s) m Q E → Judges (λ t s. K t × P t s) m (λ a t s. L a t × Q a t s) (λ o t s. F o t × E o t s)
judges-and {A} {m} {K} {L} {F} {P} {Q} {E} h j =
    record {
      reads = λ xs k t s p fair.
          go s (map of_record (m xs k t).records) (m xs k t).tables (m xs k t).ending (h.leaves xs k t p.0) (j.reads xs k t s p fair);
    }
  where
    go : (s : Judge) (ls : List Line) (t : Tables) (e : Ending A) → After L F t e → Reached Q E s ls t e →
        Reached (λ a t s. L a t × Q a t s) (λ o t s. F o t × E o t s) s ls t e
    go s ls t (on a) l r = reach_to (λ z q. (l, q)) r
    go s ls t (ends o) l r = record { breaks = r.breaks; reaches = λ x. reach_to (λ z q. (l, q)) (r.reaches x) }

-- one step, then another
pub judges_then : {A B : Type 0} {m : Step A} {f : A → Step B} {P : Tables → Judge → Type 0} {E : Outcome → Tables → Judge → Type 0}
    {R : B → Tables → Judge → Type 0} (Q : A → Tables → Judge → Type 0) → Judges P m Q E → ((a : A) → Judges (Q a) (f a) R E) → Judges P (m >>= f) R E
unfolding ◌>>=◌
judges_then {A} {B} {m} {f} {P} {E} {R} Q jm jf = record { reads = λ xs k t s p fair. go xs k s (m xs k t) (m xs k t).ending (jm.reads xs k t s p) fair }
  where
    joins : {K : Judge → Type 0} (s : Judge) (ls rs : List Line) (t : Tables) (e : Ending B) (one : Reach s ls K) → Reached R E one.state rs t e →
        Reached R E s (ls ++ rs) t e
    joins s ls rs t (on b) one r = reach_then one r
    joins s ls rs t (ends o) one r =
        record { breaks = λ e. breaks_second s ls rs one.state one.reads (r.breaks e); reaches = λ x. reach_then one (r.reaches x) }

    go : (xs : List ℕ) (k : ℕ) (s : Judge) (w : Went A) (e : Ending A) →
        (Fair (addresses s.mapped) (map of_record w.records) → Reached Q E s (map of_record w.records) w.tables e) →
        Fair (addresses s.mapped) (map of_record (after f xs k w.tables w.records e).records) →
        Reached R E s (map of_record (after f xs k w.tables w.records e).records) (after f xs k w.tables w.records e).tables
        (after f xs k w.tables w.records e).ending
    go xs k s w (ends o) h fair = h fair
    go xs k s w (on a) h fair =
        let v = f a xs (k + length w.records) w.tables in
        let ls = map of_record w.records in
        let rs = map of_record v.records in
        let split : map of_record (w.records ++ v.records) ≡ ls ++ rs = map-append of_record w.records v.records in
        let g : Fair (addresses s.mapped) (ls ++ rs) = rw split at fair in
        let r = h (fair-first (addresses s.mapped) ls rs g) in
        let rest = fair_second s ls rs r.state r.reads g in
        rw split (joins s ls rs v.tables v.ending r ((jf a).reads xs (k + length w.records) w.tables r.state r.holds rest))

-- Where the number is not 15, what is read is all that there is to show.
pub all_read : (o : Outcome) {s : Judge} {ls : List Line} {R : Judge → Type 0} → is 15 o ≡ false → (excused o ≡ false → Reach s ls R) → ReachedBy o s ls R
all_read o n r = record { breaks = λ e. absurd (false≢true (sym n ∙ e)); reaches = r }

-- nothing is read
here : {s : Judge} {R : Judge → Type 0} → R s → Reach s [] R
here {s} r = record { state = s; reads = refl; credible = refl; holds = r }

module _ {E : Outcome → Tables → Judge → Type 0} where
  pub judges-give : {A : Type 0} (a : A) {Q : A → Tables → Judge → Type 0} → Judges (Q a) (give a) Q E
  judges-give a = record { reads = λ xs k t s q fair. here q }

  pub judges-end : {A : Type 0} (o : Outcome) → is 15 o ≡ false → {Q : A → Tables → Judge → Type 0} → Judges (E o) (end o) Q E
  judges-end o n = record { reads = λ xs k t s q fair. all_read o n (λ _. here q) }

  -- the tables are looked at: from there on they are known
  pub judges_looked : {B : Type 0} {f : Tables → Step B} {P : Tables → Judge → Type 0} {R : B → Tables → Judge → Type 0} →
      ((u : Tables) → Judges (λ t s. (t ≡ u) × P u s) (f u) R E) → Judges P (tables >>= f) R E
  judges_looked {B} {f} {P} h =
      judges_then (λ u t s. (t ≡ u) × P u s) (record { reads = λ xs k t s p fair. here (refl, p) }) h

  -- the same, where something is true of the tables alone
  pub judges_looked-at : {B : Type 0} {f : Tables → Step B} {K : Tables → Type 0} {P : Tables → Judge → Type 0} {R : B → Tables → Judge → Type 0} →
      ((u : Tables) → K u → Judges (λ t s. (t ≡ u) × P u s) (f u) R E) → Judges (λ t s. K t × P t s) (tables >>= f) R E
  judges_looked-at {B} {f} {K} {P} h =
      judges_looked (λ u. judges-from {P = λ t s. K u × ((t ≡ u) × P u s)} (λ t s q. (q.1.0, (q.0, q.1.1))) (judges_given (h u)))

  -- tables that are known are looked at
  pub judges-known : {B : Type 0} {f : Tables → Step B} {P : Judge → Type 0} {R : B → Tables → Judge → Type 0} (u : Tables) →
      ((w : Tables) → w ≡ u → Judges (λ t s. (t ≡ u) × P s) (f w) R E) → Judges (λ t s. (t ≡ u) × P s) (tables >>= f) R E
  judges-known {B} {f} {P} {R} u h =
      judges_then (λ w t s. (w ≡ u) × ((t ≡ u) × P s)) (record { reads = λ xs k t s p fair. here (p.0, p) }) (λ w. judges_given (h w))

  pub judges-change : (f : Tables → Tables) {P : Tables → Judge → Type 0} {Q : Unit {0} → Tables → Judge → Type 0} →
      ((t : Tables) (s : Judge) → P t s → Q tt (f t) s) → Judges P (change f) Q E
  judges-change f h = record { reads = λ xs k t s p fair. here (h t s p) }

  pub judges-cond : {A : Type 0} (b : Bool) {m n : Step A} {P : Tables → Judge → Type 0} {Q : A → Tables → Judge → Type 0} →
      (b ≡ true → Judges P m Q E) → (b ≡ false → Judges P n Q E) → Judges P (cond b m n) Q E
  judges-cond true h g = h refl
  judges-cond false h g = g refl

  pub judges-end_if : (b : Bool) (o : Outcome) {P : Tables → Judge → Type 0} → ((t : Tables) (s : Judge) → P t s → b ≡ true → (is 15 o ≡ false) × E o t s) →
      Judges P (end_if b o) (λ _ t s. P t s × (b ≡ false)) E
  judges-end_if true o h = record { reads = λ xs k t s p fair. let q = h t s p refl in all_read o q.0 (λ _. here q.1) }
  judges-end_if false o h = record { reads = λ xs k t s p fair. here (p, refl) }

  -- a loop: `I` of what is left
  pub judges-each : {A : Type 0} {f : A → Act} (I : List A → Tables → Judge → Type 0) →
      ((x : A) (l : List A) → Judges (I (x ∷ l)) (f x) (λ _. I l) E) → (l : List A) → Judges (I l) (each f l) (λ _. I []) E
  judges-each I h [] = judges-give tt
  judges-each I h (x ∷ l) = judges_then (λ _. I l) (h x l) (λ _. judges-each I h l)
