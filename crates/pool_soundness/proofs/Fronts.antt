-- Four lists in order, walked side by side: the lowest of their firsts is the first of all of them in one order, or nothing of them is an address.
use mathlib.Core.Path.{◌≡◌, ap, sym, ◌∙◌}
use mathlib.Core.List.{List, [], ◌∷◌, ◌++◌, append_assoc}
use Prim.Native.Nat.{ℕ, ◌≤◌, ◌<◌}
use native.Mathlib.Omega.{arith}
use borrow.Author.Tests.{lt-leb}
use Rattle.std.specs.Prelude.{Option, Some, None}
use Rattle.lists.specs.Tests.{All}
use Rattle.lists.specs.Order.{put, sorted, Ascends}
use Rattle.lists.proofs.Tests.{all_implies, all_append}
use Rattle.lists.proofs.Order.{put_first, sorted-ascends, all-sorted}
use Rattle.lists.proofs.Pairs.{ascends_above}
use Rattle.tables.specs.WellFormed.{Range}
use Rattle.pool_soundness.specs.declared.walk.Front.{Front}
use Rattle.pool_soundness.specs.Walks.{range_of, start, from_of, highest, High, Took, Next, four}

module _ {A : Type 0} (key : A → ℕ) where
  ascends-from : (b c : ℕ) (l : List A) → Ascends key c l → All (λ x. b ≤ key x) l → Ascends key b l
  ascends-from b c [] a h = tt
  ascends-from b c (x ∷ l) a h = (h.0, a.1)

  pub ascends_rest : (b : ℕ) (x : A) (l : List A) → Ascends key b (x ∷ l) → Ascends key 0 l
  ascends_rest b x [] a = tt
  ascends_rest b x (y ∷ l) a = (omega arith, a.1.1)

  -- the least of all, and the first of equal ones, comes first
  pub comes-first : (y : A) (l m : List A) → All (λ x. key y < key x) l → All (λ x. key y ≤ key x) m → sorted key (l ++ y ∷ m) ≡ y ∷ sorted key (l ++ m)
  comes-first y [] m a b = put_first key y (sorted key m) (ascends-from (key y) 0 (sorted key m) (sorted-ascends key m) (all-sorted key (λ x. key y ≤ key x) m b))
  comes-first y (x ∷ l) m a b = ap (put key x) (comes-first y l m a.1 b) ∙ rw (lt-leb (key x) (key y) a.0)

-- nothing of a list is below its first
all_from : (l : List Range) → Ascends start 0 l → All (λ h. from_of l ≤ h.from) l
all_from [] a = tt
all_from (h ∷ l) a = (omega arith, ascends_above start h.from l a.1)

module _ (m : ℕ) (l : List Range) (a : Ascends start 0 l) where
  pub not-below : m ≤ from_of l → All (λ h. m ≤ h.from) l
  not-below p = all_implies (λ h. from_of l ≤ h.from) (λ h. m ≤ h.from) (λ h q. omega arith) l (all_from l a)

  pub above : m < from_of l → All (λ h. m < h.from) l
  above p = all_implies (λ h. from_of l ≤ h.from) (λ h. m < h.from) (λ h q. omega arith) l (all_from l a)

-- what is strictly above something high is high
pub high : (l : List Range) → All (λ h. highest < h.from) l → All High l
high l = all_implies (λ h. highest < h.from) High (λ h q. omega arith) l

-- what is left of a list after its first is in order too
pub took_ascends : (l m : List Range) (r : Option Front) → Took l r m → Ascends start 0 l → Ascends start 0 m
unfolding Took
took_ascends l m (Some x) t a =
    let b : Ascends start 0 (range_of x ∷ m) = rw t at a in
    ascends_rest start 0 (range_of x) m b
took_ascends l m None t a = rw t.1 tt

-- the first of one of the lists, where it is the lowest, is the first of all
first-taken : (k : Range) (f b h z : List Range) → Ascends start 0 (k ∷ f) → Ascends start 0 b → Ascends start 0 h → Ascends start 0 z →
    k.from ≤ from_of b → k.from ≤ from_of h → k.from ≤ from_of z → sorted start (four (k ∷ f) b h z) ≡ k ∷ sorted start (four f b h z)
first-taken k f b h z af ab ah az p q s =
    comes-first start k [] (four f b h z) tt
    (all_append _ (f ++ b) (h ++ z) (all_append _ f b (ascends_above start k.from f af.1) (not-below _ b ab p))
    (all_append _ h z (not-below _ h ah q) (not-below _ z az s)))

second-taken : (k : Range) (f b h z : List Range) → Ascends start 0 f → Ascends start 0 (k ∷ b) → Ascends start 0 h → Ascends start 0 z →
    k.from < from_of f → k.from ≤ from_of h → k.from ≤ from_of z → sorted start (four f (k ∷ b) h z) ≡ k ∷ sorted start (four f b h z)
second-taken k f b h z af ab ah az p q s =
    ap (sorted start) (append_assoc f (k ∷ b) (h ++ z))
    ∙ comes-first start k f (b ++ (h ++ z)) (above k.from f af p)
    (all_append _ b (h ++ z) (ascends_above start k.from b ab.1) (all_append _ h z (not-below _ h ah q) (not-below _ z az s)))
    ∙ ap (λ l. k ∷ sorted start l) (sym (append_assoc f b (h ++ z)))

third-taken : (k : Range) (f b h z : List Range) → Ascends start 0 f → Ascends start 0 b → Ascends start 0 (k ∷ h) → Ascends start 0 z →
    k.from < from_of f → k.from < from_of b → k.from ≤ from_of z → sorted start (four f b (k ∷ h) z) ≡ k ∷ sorted start (four f b h z)
third-taken k f b h z af ab ah az p q s =
    comes-first start k (f ++ b) (h ++ z) (all_append _ f b (above k.from f af p) (above k.from b ab q))
    (all_append _ h z (ascends_above start k.from h ah.1) (not-below _ z az s))

fourth-taken : (k : Range) (f b h z : List Range) → Ascends start 0 f → Ascends start 0 b → Ascends start 0 h → Ascends start 0 (k ∷ z) →
    k.from < from_of f → k.from < from_of b → k.from < from_of h → sorted start (four f b h (k ∷ z)) ≡ k ∷ sorted start (four f b h z)
fourth-taken k f b h z af ab ah az p q s =
    ap (sorted start) (sym (append_assoc (f ++ b) h (k ∷ z)))
    ∙ comes-first start k ((f ++ b) ++ h) z (all_append _ (f ++ b) h (all_append _ f b (above k.from f af p) (above k.from b ab q)) (above k.from h ah s))
    (ascends_above start k.from z az.1)
    ∙ ap (λ l. k ∷ sorted start l) (append_assoc (f ++ b) h z)

-- where the lowest of them is no address, none is
none_left : (f b h z : List Range) → Ascends start 0 f → Ascends start 0 b → Ascends start 0 h → Ascends start 0 z → highest ≤ from_of f → highest ≤ from_of b →
    highest ≤ from_of h → highest ≤ from_of z → All High (sorted start (four f b h z))
none_left f b h z af ab ah az p q s t =
    all-sorted start High (four f b h z)
    (all_append High (f ++ b) (h ++ z) (all_append High f b (not-below _ f af p) (not-below _ b ab q)) (all_append High h z (not-below _ h ah s) (not-below _ z az t)))

none-from : (l m : List Range) → Took l None m → from_of l ≡ highest
unfolding Took
none-from l m t = ap from_of t.0

module _ (f b h z : List Range) (af : Ascends start 0 f) (ab : Ascends start 0 b) (ah : Ascends start 0 h) (az : Ascends start 0 z) where
  abbrev all : List Range
  all = sorted start (four f b h z)

  pub first-next : (r : Option Front) (m : List Range) → Took f r m → from_of f ≤ from_of b → from_of f ≤ from_of h → from_of f ≤ from_of z →
      Next all r (sorted start (four m b h z))
  unfolding Took Next
  first-next (Some x) m t p q s = rw t (first-taken (range_of x) m b h z (rw t at af) ab ah az (rw t at p) (rw t at q) (rw t at s))
  first-next None m t p q s =
      let e = none-from f m t in
      none_left f b h z af ab ah az (omega (arith, e)) (omega (arith, e, p)) (omega (arith, e, q)) (omega (arith, e, s))

  pub second-next : (r : Option Front) (m : List Range) → Took b r m → from_of b < from_of f → from_of b ≤ from_of h → from_of b ≤ from_of z →
      Next all r (sorted start (four f m h z))
  unfolding Took Next
  second-next (Some x) m t p q s = rw t (second-taken (range_of x) f m h z af (rw t at ab) ah az (rw t at p) (rw t at q) (rw t at s))
  second-next None m t p q s =
      let e = none-from b m t in
      none_left f b h z af ab ah az (omega (arith, e, p)) (omega (arith, e)) (omega (arith, e, q)) (omega (arith, e, s))

  pub third-next : (r : Option Front) (m : List Range) → Took h r m → from_of h < from_of f → from_of h < from_of b → from_of h ≤ from_of z →
      Next all r (sorted start (four f b m z))
  unfolding Took Next
  third-next (Some x) m t p q s = rw t (third-taken (range_of x) f b m z af ab (rw t at ah) az (rw t at p) (rw t at q) (rw t at s))
  third-next None m t p q s =
      let e = none-from h m t in
      none_left f b h z af ab ah az (omega (arith, e, p)) (omega (arith, e, q)) (omega (arith, e)) (omega (arith, e, s))

  pub fourth-next : (r : Option Front) (m : List Range) → Took z r m → from_of z < from_of f → from_of z < from_of b → from_of z < from_of h →
      Next all r (sorted start (four f b h m))
  unfolding Took Next
  fourth-next (Some x) m t p q s = rw t (fourth-taken (range_of x) f b h m af ab ah (rw t at az) (rw t at p) (rw t at q) (rw t at s))
  fourth-next None m t p q s =
      let e = none-from z m t in
      none_left f b h z af ab ah az (omega (arith, e, p)) (omega (arith, e, q)) (omega (arith, e, s)) (omega (arith, e))
