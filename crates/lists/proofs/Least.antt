-- The least element of those that pass a test is what a scan from the front finds. `lesser` is associative, so the least of all is the lesser of the
-- best so far and the least of what is left; that stays the same at each element.
use mathlib.Core.Path.{◌≡◌, refl, ap, ◌∙◌, sym}
use mathlib.Core.Logic.{⊎_elim}
use mathlib.Core.Bool.{Bool, true, false, cond, not, ◌||◌, false≢true}
use mathlib.Core.List.{List, [], ◌∷◌, ◌++◌}
use mathlib.Core.Option.{Option, some, none}
use Prim.Native.Nat.{ℕ, ◌+◌, ◌≤◌, ◌<◌}
use native.Mathlib.Omega.{arith}
use borrow.Author.Tests.{le-leb, lt-leb, lt-ltb, le-ltb}
use lib.Dec.{ltb}
use lib.ListN.{length, get_or, take, drop, length-drop}
use lib.Seq.{get_or-drop, drop-drop}
use Rattle.lists.specs.Tests.{filter}
use Rattle.lists.specs.Order.{smaller, least}
use Rattle.std.specs.Prelude.{Option as Found, Some, None}
use Rattle.lists.specs.Scan.{better, scan, found}
use Rattle.lists.specs.declared.Best.{Best}
use Rattle.lists.proofs.Tests.{cases_lt}
use Rattle.lists.proofs.Cells.{turn, ends}

module _ {A : Type 0} (key : A → ℕ) where
  -- the one of the smaller key, the first on ties
  abbrev pub lesser : Option A → Option A → Option A
  lesser none o = o
  lesser (some x) o = some (smaller key x o)

  pub lesser-none : (o : Option A) → lesser o none ≡ o
  lesser-none none = refl
  lesser-none (some x) = refl

  smaller_assoc : (x y z : A) → smaller key (smaller key x (some y)) (some z) ≡ smaller key x (some (smaller key y (some z)))
  smaller_assoc x y z =
      let c = cases_lt (key z) (key y) in
      ⊎_elim (λ h. ⊎_elim (falls h) (dips h) c) (λ h. ⊎_elim (peaks h) (rises h) c) (cases_lt (key y) (key x))
    where
      Same : Type 0
      Same = smaller key (smaller key x (some y)) (some z) ≡ smaller key x (some (smaller key y (some z)))

      falls : key y < key x → key z < key y → Same
      falls h k = rw (lt-leb (key x) (key y) h, lt-leb (key y) (key z) k, lt-leb (key x) (key z) (omega arith))

      dips : key y < key x → key y ≤ key z → Same
      dips h k = rw (lt-leb (key x) (key y) h, le-leb (key y) (key z) k, lt-leb (key x) (key y) h)

      peaks : key x ≤ key y → key z < key y → Same
      peaks h k = rw (le-leb (key x) (key y) h, lt-leb (key y) (key z) k)

      rises : key x ≤ key y → key y ≤ key z → Same
      rises h k = rw (le-leb (key x) (key y) h, le-leb (key y) (key z) k, le-leb (key x) (key y) h, le-leb (key x) (key z) (omega arith))

  pub lesser_assoc : (a b c : Option A) → lesser (lesser a b) c ≡ lesser a (lesser b c)
  lesser_assoc none b c = refl
  lesser_assoc (some x) none c = refl
  lesser_assoc (some x) (some y) none = refl
  lesser_assoc (some x) (some y) (some z) = ap some (smaller_assoc x y z)

  pub least-append : (l m : List A) → least key (l ++ m) ≡ lesser (least key l) (least key m)
  least-append [] m = refl
  least-append (x ∷ l) m = ap (lesser (some x)) (least-append l m) ∙ sym (lesser_assoc (some x) (least key l) (least key m))

  -- What a best says of the list `l` after its first `i` places: its place is one of them, and its key is that element's.
  abbrev pub Marks : A → List A → ℕ → Found Best → Type 0
  Marks z l i None = Unit {0}
  Marks z l i (Some b) = (b.at < i) × (b.least ≡ key (get_or l b.at z))

  module _ (z : A) (l : List A) where
    -- An element is passed over, or looked at.
    pub marks-on : (i : ℕ) (b : Found Best) → Marks z l i b → Marks z l (i + 1) b
    marks-on i None m = tt
    marks-on i (Some b) m = (omega (arith, m.0), m.1)

    pub marks-better : (i : ℕ) (b : Found Best) → Marks z l i b → Marks z l (i + 1) (better i (key (get_or l i z)) b)
    marks-better i None m = (omega arith, refl)
    marks-better i (Some b) m = go (ltb (key (get_or l i z)) b.least)
      where
        go : (t : Bool) → Marks z l (i + 1) (cond t (Some (record { at = i; least = key (get_or l i z) })) (Some b))
        go true = (omega arith, refl)
        go false = (omega (arith, m.0), m.1)

    pub found-better : (i : ℕ) (b : Found Best) → Marks z l i b →
        found z l (better i (key (get_or l i z)) b) ≡ lesser (found z l b) (some (get_or l i z))
    found-better i None m = refl
    found-better i (Some b) m =
        let x = get_or l i z in
        let y = get_or l b.at z in
        ⊎_elim
        (λ h. rw (lt-ltb (key x) b.least h, lt-leb (key y) (key x) (omega (arith, m.1, h))) refl)
        (λ h. rw (le-ltb (key x) b.least h, le-leb (key y) (key x) (omega (arith, m.1, h))) refl)
        (cases_lt (key x) b.least)

    -- The least of the best so far and of what is left stays the same where an element is looked at.
    pub better-turn : (i : ℕ) (b : Found Best) (m : List A) → Marks z l i b →
        lesser (found z l b) (least key (get_or l i z ∷ m)) ≡ lesser (found z l (better i (key (get_or l i z)) b)) (least key m)
    better-turn i b m k =
        sym (lesser_assoc (found z l b) (some (get_or l i z)) (least key m)) ∙ ap (λ o. lesser o (least key m)) (sym (found-better i b k))

    -- the best `e` is the lesser of the best `b` and the least of `m`
    abbrev Ends : Found Best → List A → Found Best → Type 0
    Ends b m e = (found z l e ≡ lesser (found z l b) (least key m)) × Marks z l (length l) e

    left : (i : ℕ) (x : A) (m : List A) → drop i l ≡ x ∷ m → (get_or l i z ≡ x) × ((drop (i + 1) l ≡ m) × (i < length l))
    left i x m e =
        let e₀ : i + 0 ≡ i = omega arith in (
          sym (rw e₀ at (get_or-drop i l 0 z)) ∙ ap (λ q. get_or q 0 z) e,
          (sym (drop-drop 1 i l) ∙ ap (drop 1) e, omega (arith, simp length-drop at (ap length e))),
        )

    -- the scan of what is left, from a best that marks what was passed
    scanned : (p : A → Bool) (i : ℕ) (b : Found Best) (m : List A) → drop i l ≡ m → i ≤ length l → Marks z l i b → Ends b (filter p m) (scan key p i b m)
    scanned p i b [] e h k =
        let n : i ≡ length l = omega (arith, simp length-drop at (ap length e)) in
        (sym (lesser-none (found z l b)), rw n at k)
    scanned p i b (x ∷ m) e h k = go (p x) (left i x m e) (λ d. scanned p (i + 1) d m)
      where
        go : (t : Bool) → (get_or l i z ≡ x) × ((drop (i + 1) l ≡ m) × (i < length l)) →
            ((d : Found Best) → drop (i + 1) l ≡ m → i + 1 ≤ length l → Marks z l (i + 1) d → Ends d (filter p m) (scan key p (i + 1) d m)) →
            Ends b (cond t (x ∷ filter p m) (filter p m)) (scan key p (i + 1) (cond t (better i (key x) b) b) m)
        go false (here, (rest, low)) f = f b rest (omega arith) (marks-on i b k)
        go true (here, (rest, low)) f =
            let r = f (better i (key x) b) rest (omega arith) (rw here at (marks-better i b k)) in
            (r.0 ∙ sym (rw here at (better-turn i b (filter p m) k)), r.1)

  -- What a scan finds is the least of those that pass, and it is at one of the list's places.
  pub scan-least : (p : A → Bool) (z : A) (l : List A) → found z l (scan key p 0 None l) ≡ least key (filter p l)
  scan-least p z l = (scanned z l p 0 None l refl (omega arith) tt).0

  pub scan-placed : (p : A → Bool) (l : List A) (b : Best) → scan key p 0 None l ≡ Some b → b.at < length l
  scan-placed p [] b e = absurd (none-some e)
    where
      none-some : None ≡ Some b → ⊥
      none-some q = let z : ◌≡◌ {A = ℕ} 0 1 = cc in omega arith
  scan-placed p (x ∷ l) b e =
      (rw e at (scanned x (x ∷ l) p 0 None (x ∷ l) refl (omega arith) tt).1).0

  -- A scan of the first `n` cells as a loop: where it stands before place `i`, at a turn, and at the end.
  module _ (p : A → Bool) (n : ℕ) (cells : List A) where
    abbrev pub Scanned : ℕ → Found Best → Type 0
    Scanned i b = scan key p 0 None (take n cells) ≡ scan key p i b (drop i (take n cells))

    pub scan-turn : (i : ℕ) (b : Found Best) (z : A) → i < n → n ≤ length cells → Scanned i b →
        Scanned (i + 1) (cond (p (get_or cells i z)) (better i (key (get_or cells i z)) b) b)
    scan-turn i b z h k s = s ∙ rw (turn n cells i z h k)

    pub scan-whole : (i : ℕ) (b : Found Best) → n ≤ i → Scanned i b → b ≡ scan key p 0 None (take n cells)
    scan-whole i b h s = sym (s ∙ rw (ends n cells i h))
