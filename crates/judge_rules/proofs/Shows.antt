-- What a lookup finds, and what the page at an address shows, as handles and mapped pages come and go.
use mathlib.Core.Path.{◌≡◌, refl, ap, sym, ◌∙◌, subst}
use mathlib.Core.Bool.{Bool, true, false, cond, ◌||◌, false≢true}
use mathlib.Core.Logic.{⊎_elim}
use mathlib.Core.List.{List, [], ◌∷◌, map}
use mathlib.Core.Option.{Option, none, some}
use Prim.Native.Nat.{ℕ}
use borrow.Author.Tests.{eqb-true, eq-eqb, ne_eqb}
use lib.Dec.{eqb}
use Rattle.lists.specs.Tests.{All, every, any, filter}
use Rattle.lists.proofs.Tests.{cases_eq, both, neither, all_implies}
use Rattle.judge_rules.specs.Rules.{Page, is_in, is_mapped, is_under}
use Rattle.judge_rules.specs.SoFar.{Held, Mapped}
use Rattle.judge_rules.specs.Meaning.{Shown, lookup, created_by, from, shown_by}
use Rattle.judge_rules.specs.Exactly.{plain_page}
use Rattle.judge_rules.proofs.PageLaws.{is_some, some_is, some-not}

module _ {A B : Type 0} (key : A → ℕ) (value : A → Option B) where
  -- those that a test of the key leaves are found as before
  pub lookup-filter : (t : ℕ → Bool) (l : List A) (x : ℕ) → lookup key value (filter (λ y. t (key y)) l) x ≡ cond (t x) (lookup key value l x) none
  lookup-filter t [] x = go (t x)
    where
      go : (b : Bool) → ◌≡◌ {A = Option B} none (cond b none none)
      go true = refl
      go false = refl
  lookup-filter t (y ∷ l) x =
      ⊎_elim
      (λ e. rw (eq-eqb (key y) x e) (here e (t (key y)) (t x) (ap t e) (lookup-filter t l x)))
      (λ e. rw (ne_eqb (key y) x e) (other e (t (key y)) (lookup-filter t l x)))
      (cases_eq (key y) x)
    where
      rest : List A
      rest = filter (λ y. t (key y)) l

      here : key y ≡ x → (b c : Bool) → b ≡ c → lookup key value rest x ≡ cond c (lookup key value l x) none →
          lookup key value (cond b (y ∷ rest) rest) x ≡ cond c (value y) none
      here e true true f r = rw (eq-eqb (key y) x e)
      here e true false f r = absurd (false≢true (sym f))
      here e false true f r = absurd (false≢true f)
      here e false false f r = r

      other : (key y ≡ x → ⊥) → (b : Bool) → lookup key value rest x ≡ cond (t x) (lookup key value l x) none →
          lookup key value (cond b (y ∷ rest) rest) x ≡ cond (t x) (lookup key value l x) none
      other e true r = rw (ne_eqb (key y) x e) r
      other e false r = r

  -- what holds of every key holds of one that is found
  pub lookup_key : (P : ℕ → Type 0) (l : List A) (x : ℕ) (v : B) → All (λ y. P (key y)) l → lookup key value l x ≡ some v → P x
  lookup_key P [] x v a e = absurd (some-not v (sym e))
  lookup_key P (y ∷ l) x v a e = go (eqb (key y) x) refl (lookup_key P l x v a.1) e
    where
      go : (b : Bool) → eqb (key y) x ≡ b → (lookup key value l x ≡ some v → P x) → cond b (value y) (lookup key value l x) ≡ some v → P x
      go true q r e = subst P (eqb-true (key y) x q) a.0
      go false q r e = r e

  -- a value that every element keeps, the one that is found keeps
  pub lookup-stays : (other : A → Option B) (l : List A) → All (λ y. (v : B) → value y ≡ some v → other y ≡ some v) l → (x : ℕ) (v : B) →
      lookup key value l x ≡ some v → lookup key other l x ≡ some v
  lookup-stays other [] a x v e = e
  lookup-stays other (y ∷ l) a x v e = go (eqb (key y) x) (lookup-stays other l a.1 x v) e
    where
      go : (b : Bool) → (lookup key value l x ≡ some v → lookup key other l x ≡ some v) → cond b (value y) (lookup key value l x) ≡ some v →
          cond b (other y) (lookup key other l x) ≡ some v
      go true r e = a.0 v e
      go false r e = r e

  -- where every element has a value, a key that is there has one
  pub lookup-there : (l : List A) (x : ℕ) → All (λ y. is_some (value y) ≡ true) l → is_some (lookup key value l x) ≡ any (λ y. eqb (key y) x) l
  lookup-there [] x a = refl
  lookup-there (y ∷ l) x a = go (eqb (key y) x) a.0 (lookup-there l x a.1)
    where
      go : (b : Bool) → is_some (value y) ≡ true → is_some (lookup key value l x) ≡ any (λ y. eqb (key y) x) l →
          is_some (cond b (value y) (lookup key value l x)) ≡ (b || any (λ y. eqb (key y) x) l)
      go true e r = e
      go false e r = r

pub any-map : {A B : Type 0} (t : B → Bool) (f : A → B) (l : List A) → any t (map f l) ≡ any (λ x. t (f x)) l
any-map t f [] = refl
any-map t f (x ∷ l) = ap (λ b. t (f x) || b) (any-map t f l)

all_true : {A : Type 0} (l : List A) → All (λ y. ◌≡◌ {A = Bool} true true) l
all_true [] = tt
all_true (x ∷ l) = (refl, all_true l)

-- a handle is held where its creation is found
pub created-held : (cs : List Held) (k : ℕ) → is_some (created_by cs k) ≡ is_in k (map (λ c. c.handle) cs)
created-held cs k = lookup-there (λ c. c.handle) (λ c. some c.created) cs k (all_true cs) ∙ sym (any-map (λ x. eqb x k) (λ c. c.handle) cs)

-- Every mapped page is to a handle that is held.
abbrev pub Owned : List Held → List Mapped → Type 0
Owned cs ms = All (λ m. is_some (created_by cs m.handle) ≡ true) ms

pub from_some : (m : Mapped) (o : Option ℕ) → is_some o ≡ true → is_some (from m o) ≡ true
from_some m none e = e
from_some m (some c) e = refl

-- so an address shows something where a page is mapped,
pub shown-mapped : (cs : List Held) (ms : List Mapped) → Owned cs ms → (x : ℕ) → is_some (shown_by cs ms x) ≡ is_mapped (map plain_page ms) x
shown-mapped cs ms o x =
    lookup-there (λ m. m.at) (λ m. from m (created_by cs m.handle)) ms x (all_implies _ _ (λ m e. from_some m (created_by cs m.handle) e) ms o)
    ∙ sym (any-map (λ p. eqb p.at x) plain_page ms)

-- and what it shows is the handle of that page
pub shown-passes : (t : Page → Bool) (cs : List Held) (ms : List Mapped) (x : ℕ) (s : Shown) → every t (map plain_page ms) ≡ true → shown_by cs ms x ≡ some s →
    t (record { at = x; handle = s.handle }) ≡ true
shown-passes t cs [] x s e f = absurd (some-not s (sym f))
shown-passes t cs (m ∷ ms) x s e f =
    let q = both (t (plain_page m)) (every t (map plain_page ms)) e in
    go (eqb m.at x) refl (created_by cs m.handle) q.0 (shown-passes t cs ms x s q.1) f
  where
    go : (b : Bool) → eqb m.at x ≡ b → (o : Option ℕ) → t (plain_page m) ≡ true → (shown_by cs ms x ≡ some s → t (record { at = x; handle = s.handle }) ≡ true) →
        cond b (from m o) (shown_by cs ms x) ≡ some s → t (record { at = x; handle = s.handle }) ≡ true
    go true h none q r f = absurd (some-not s (sym f))
    go true h (some c) q r f =
        let a : m.at ≡ x = eqb-true m.at x h in
        let b : m.handle ≡ s.handle = ap (λ s. s.handle) (some_is (record { handle = m.handle; mapped = m.mapped; created = c }) s f) in
        ap t (λ i. record { at = sym a i; handle = sym b i }) ∙ q
    go false h o q r f = r f

-- A handle that is kept is shown as before.
pub created-stays : (cs ds : List Held) (ms : List Mapped) → All (λ m. (c : ℕ) → created_by cs m.handle ≡ some c → created_by ds m.handle ≡ some c) ms →
    (x : ℕ) (s : Shown) → shown_by cs ms x ≡ some s → shown_by ds ms x ≡ some s
created-stays cs ds ms a x s e =
    lookup-stays (λ m. m.at) (λ m. from m (created_by cs m.handle)) (λ m. from m (created_by ds m.handle)) ms
    (all_implies _ _ (λ m f s e. stays m (created_by cs m.handle) refl s (f) e) ms a) x s e
  where
    stays : (m : Mapped) (o : Option ℕ) → created_by cs m.handle ≡ o → (s : Shown) → ((c : ℕ) → created_by cs m.handle ≡ some c → created_by ds m.handle ≡ some c) →
        from m o ≡ some s → from m (created_by ds m.handle) ≡ some s
    stays m none q s f e = absurd (some-not s (sym e))
    stays m (some c) q s f e = rw (f c q) e

-- the handles of pages that a release passes by
pub under_none : (k : ℕ) (ms : List Mapped) → is_under (map plain_page ms) k ≡ false → All (λ m. eqb m.handle k ≡ false) ms
under_none k [] e = tt
under_none k (m ∷ ms) e = let n = neither (eqb m.handle k) _ e in (n.0, under_none k ms n.1)
