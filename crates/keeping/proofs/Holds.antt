-- The rules of the triple: one for each way that a step is made.
use mathlib.Core.Path.{◌≡◌, refl, ap}
use mathlib.Core.Bool.{Bool, true, false, cond}
use mathlib.Core.List.{List, [], ◌∷◌}
use Prim.Native.Nat.{ℕ, ◌+◌}
use lib.ListN.{length}
use Rattle.words.specs.Answers.{lent, code_of, failed, complete}
use Rattle.words.specs.declared.Answer.{Answer}
use Rattle.words.specs.declared.Answer.TheVariants.{Done, Failed, Missing}
use Rattle.tables.specs.Values.{Tables}
use Rattle.tables.specs.Steps.{Ending, on, ends, Went, Step, Act, after, ◌>>=◌, give, end, end_if, each, tables, change}
use Rattle.tables.specs.Driver.{heard, must, try, is_complete, reserve, create, map, access, unmap, release, record_event, ask, wait, sync, giveback}
use Rattle.tables.specs.declared.Outcome.{Outcome}
use Rattle.tables.specs.declared.Outcome.TheVariants.{DriverFailed, AnswersRanOut}
use Rattle.keeping.specs.Holds.{After, Holds}

-- from more, and to less
pub holds-from : {A : Type 0} {m : Step A} {E : Outcome → Tables → Type 0} {P R : Tables → Type 0} {Q : A → Tables → Type 0} →
    ((t : Tables) → R t → P t) → Holds P m Q E → Holds R m Q E
holds-from f h = record { leaves = λ xs k t r. h.leaves xs k t (f t r) }

pub holds_to : {A : Type 0} {m : Step A} {E : Outcome → Tables → Type 0} {P : Tables → Type 0} {Q R : A → Tables → Type 0} →
    ((a : A) (t : Tables) → Q a t → R a t) → Holds P m Q E → Holds P m R E
holds_to {A} {m} {E} {P} {Q} {R} f h = record { leaves = λ xs k t p. go (m xs k t).tables (m xs k t).ending (h.leaves xs k t p) }
  where
    go : (t : Tables) (e : Ending A) → After Q E t e → After R E t e
    go t (on a) q = f a t q
    go t (ends o) q = q

-- two triples of one step, as one
pub holds-both : {A : Type 0} {m : Step A} {P R : Tables → Type 0} {Q S : A → Tables → Type 0} {E F G : Outcome → Tables → Type 0} →
    ((o : Outcome) (t : Tables) → E o t → F o t → G o t) → Holds P m Q E → Holds R m S F → Holds (λ t. P t × R t) m (λ a t. Q a t × S a t) G
holds-both {A} {m} {P} {R} {Q} {S} {E} {F} {G} f h g =
    record { leaves = λ xs k t p. go (m xs k t).tables (m xs k t).ending (h.leaves xs k t p.0) (g.leaves xs k t p.1) }
  where
    go : (t : Tables) (e : Ending A) → After Q E t e → After S F t e → After (λ a t. Q a t × S a t) G t e
    go t (on a) q r = (q, r)
    go t (ends o) q r = f o t q r

-- the tables that a step starts from, by name
pub holds_named : {A : Type 0} {m : Step A} {P : Tables → Type 0} {Q : A → Tables → Type 0} {E : Outcome → Tables → Type 0} →
    ((u : Tables) → P u → Holds (λ t. t ≡ u) m Q E) → Holds P m Q E
holds_named h = record { leaves = λ xs k t p. (h t p).leaves xs k t refl }

-- whatever the step
pub holds-any : {A : Type 0} {m : Step A} {P : Tables → Type 0} → Holds P m (λ _ _. Unit {0}) (λ _ _. Unit {0})
holds-any {A} {m} = record { leaves = λ xs k t p. go (m xs k t).tables (m xs k t).ending }
  where
    go : (t : Tables) (e : Ending A) → After (λ _ _. Unit {0}) (λ _ _. Unit {0}) t e
    go t (on a) = tt
    go t (ends o) = tt

-- a fact that is about no table
pub holds_given : {A K : Type 0} {m : Step A} {E : Outcome → Tables → Type 0} {P : Tables → Type 0} {Q : A → Tables → Type 0} →
    (K → Holds P m Q E) → Holds (λ t. K × P t) m Q E
holds_given h = record { leaves = λ xs k t q. (h q.0).leaves xs k t q.1 }

-- one step, then another
pub holds_then : {A B : Type 0} {m : Step A} {f : A → Step B} {P : Tables → Type 0} {E : Outcome → Tables → Type 0} {R : B → Tables → Type 0}
    (Q : A → Tables → Type 0) → Holds P m Q E → ((a : A) → Holds (Q a) (f a) R E) → Holds P (m >>= f) R E
unfolding ◌>>=◌
holds_then {A} {B} {m} {f} {P} {E} {R} Q hm hf = record { leaves = λ xs k t p. go xs k (m xs k t) (m xs k t).ending (hm.leaves xs k t p) }
  where
    go : (xs : List ℕ) (k : ℕ) (w : Went A) (e : Ending A) → After Q E w.tables e →
        After R E (after f xs k w.tables w.records e).tables (after f xs k w.tables w.records e).ending
    go xs k w (on a) q = (hf a).leaves xs (k + length w.records) w.tables q
    go xs k w (ends o) q = q

module _ {E : Outcome → Tables → Type 0} where
  pub holds-give : {A : Type 0} (a : A) {Q : A → Tables → Type 0} → Holds (Q a) (give a) Q E
  holds-give a = record { leaves = λ xs k t q. q }

  pub holds-end : {A : Type 0} (o : Outcome) {Q : A → Tables → Type 0} → Holds (E o) (end o) Q E
  holds-end o = record { leaves = λ xs k t q. q }

  -- the tables are looked at: from there on they are known
  pub holds_looked : {B : Type 0} {f : Tables → Step B} {P : Tables → Type 0} {R : B → Tables → Type 0} →
      ((u : Tables) → P u → Holds (λ t. t ≡ u) (f u) R E) → Holds P (tables >>= f) R E
  unfolding ◌>>=◌
  holds_looked h = record { leaves = λ xs k t p. (h t p).leaves xs (k + 0) t refl }

  pub holds-change : (f : Tables → Tables) {P : Tables → Type 0} {Q : Unit {0} → Tables → Type 0} → ((t : Tables) → P t → Q tt (f t)) → Holds P (change f) Q E
  holds-change f h = record { leaves = λ xs k t p. h t p }

  -- of tables that are known
  pub holds-known : (f : Tables → Tables) (u : Tables) → Holds (λ t. t ≡ u) (change f) (λ _ t. t ≡ f u) E
  holds-known f u = holds-change f (λ t e. ap f e)

  pub holds-cond : {A : Type 0} (b : Bool) {m n : Step A} {P : Tables → Type 0} {Q : A → Tables → Type 0} →
      (b ≡ true → Holds P m Q E) → (b ≡ false → Holds P n Q E) → Holds P (cond b m n) Q E
  holds-cond true h g = h refl
  holds-cond false h g = g refl

  pub holds-end_if : (b : Bool) (o : Outcome) {P : Tables → Type 0} → ((t : Tables) → P t → b ≡ true → E o t) →
      Holds P (end_if b o) (λ _ t. P t × (b ≡ false)) E
  holds-end_if true o h = record { leaves = λ xs k t p. h t p refl }
  holds-end_if false o h = record { leaves = λ xs k t p. (p, refl) }

  -- a loop: `I` of what is left
  pub holds-each : {A : Type 0} {f : A → Act} (I : List A → Tables → Type 0) → ((x : A) (l : List A) → Holds (I (x ∷ l)) (f x) (λ _. I l) E) →
      (l : List A) → Holds (I l) (each f l) (λ _. I []) E
  holds-each I h [] = holds-give tt
  holds-each I h (x ∷ l) = holds_then (λ _. I l) (h x l) (λ _. holds-each I h l)

-- A driver call leaves the tables as they are.
pub record Drives (m : Step Answer) : Type 0 where
  pub tables : (xs : List ℕ) (k : ℕ) (t : Tables) → (m xs k t).tables ≡ t
  pub ending : (xs : List ℕ) (k : ℕ) (t : Tables) → (m xs k t).ending ≡ heard (lent xs k)

module _ {m : Step Answer} {P : Tables → Type 0} {E : Outcome → Tables → Type 0} (d : Drives m) (short : (t : Tables) → P t → E AnswersRanOut t) where
  pub holds_drive : Holds P m (λ _. P) E
  holds_drive = record { leaves = λ xs k t p. rw (d.tables xs k t, d.ending xs k t) (go t p (lent xs k)) }
    where
      go : (t : Tables) → P t → (x : Answer) → After (λ _. P) E t (heard x)
      go t p (Done v) = p
      go t p (Failed c) = p
      go t p Missing = short t p

  pub holds-must : ((c : ℕ) (t : Tables) → P t → E (DriverFailed c) t) → Holds P (must m) (λ _. P) E
  holds-must fails = holds_then (λ _. P) holds_drive (λ x. holds_to (λ _ t q. q.0) (holds-end_if (failed x) (DriverFailed (code_of x)) (λ t p _. fails (code_of x) t p)))

  pub holds-try : Holds P (try m) (λ _. P) E
  holds-try = holds_then (λ _. P) holds_drive (λ _. holds-give tt)

pub drives-reserve : (va : ℕ) → Drives (reserve va)
unfolding reserve
drives-reserve va = record { tables = λ xs k t. refl; ending = λ xs k t. refl }

pub drives-create : (page : ℕ) → Drives (create page)
unfolding create
drives-create page = record { tables = λ xs k t. refl; ending = λ xs k t. refl }

pub drives-map : (a h : ℕ) → Drives (map a h)
unfolding map
drives-map a h = record { tables = λ xs k t. refl; ending = λ xs k t. refl }

pub drives-access : (a n : ℕ) → Drives (access a n)
unfolding access
drives-access a n = record { tables = λ xs k t. refl; ending = λ xs k t. refl }

pub drives-unmap : (a n : ℕ) → Drives (unmap a n)
unfolding unmap
drives-unmap a n = record { tables = λ xs k t. refl; ending = λ xs k t. refl }

pub drives-release : (h : ℕ) → Drives (release h)
unfolding release
drives-release h = record { tables = λ xs k t. refl; ending = λ xs k t. refl }

pub drives-record : (id s : ℕ) → Drives (record_event id s)
unfolding record_event
drives-record id s = record { tables = λ xs k t. refl; ending = λ xs k t. refl }

pub drives-ask : (id : ℕ) → Drives (ask id)
unfolding ask
drives-ask id = record { tables = λ xs k t. refl; ending = λ xs k t. refl }

pub drives-wait : (id s : ℕ) → Drives (wait id s)
unfolding wait
drives-wait id s = record { tables = λ xs k t. refl; ending = λ xs k t. refl }

pub drives-sync : (s : ℕ) → Drives (sync s)
unfolding sync
drives-sync s = record { tables = λ xs k t. refl; ending = λ xs k t. refl }

pub drives-giveback : (a va : ℕ) → Drives (giveback a va)
unfolding giveback
drives-giveback a va = record { tables = λ xs k t. refl; ending = λ xs k t. refl }

pub holds-is_complete : (id : ℕ) {P : Tables → Type 0} {E : Outcome → Tables → Type 0} → ((t : Tables) → P t → E AnswersRanOut t) →
    Holds P (is_complete id) (λ _. P) E
holds-is_complete id {P} short = holds_then (λ _. P) (holds_drive (drives-ask id) short) (λ x. holds-give (complete x))
