-- A scan of the free regions for the least of those that pass a test, turn by turn: the place of the best chooses what the scan has found.
use mathlib.Core.Path.{◌≡◌, refl, ap, sym, ◌∙◌}
use mathlib.Core.Bool.{Bool, true, false, cond}
use mathlib.Core.List.{List}
use Prim.Native.Nat.{ℕ, ◌+◌, ◌≤◌, ◌<◌}
use lib.ListN.{length, get_or, drop, drop_of_length-le}
use Rattle.std.specs.Prelude.{Option as Found, Some, None}
use Rattle.std.specs.Option.{MatchOption, IsSomeAnd, option_or}
use Rattle.lists.specs.Tests.{filter}
use Rattle.lists.specs.Order.{least}
use Rattle.lists.specs.Front.{or_else}
use Rattle.lists.specs.Scan.{better, scan, found}
use Rattle.lists.specs.declared.Best.{Best}
use Rattle.lists.proofs.Cells.{turn-all}
use Rattle.lists.proofs.Least.{scan-least, scan-placed}
use Rattle.cells.specs.Table.{Choice, chosen, Placed}
use Rattle.tables.specs.Values.{empty_region}
use Rattle.tables.specs.declared.FreeRegion.{FreeRegion}

-- the place of the best, if there is one
abbrev pub place_of : Found Best → Choice
place_of None = None
place_of (Some b) = Some b.at

-- what a map to the place gives
pub mapped-place : {P : Best → ℕ → Type 0} (b : Found Best) (r : Choice) → MatchOption b (r ≡ None) (λ x. IsSomeAnd r (P x)) →
    ((x : Best) (i : ℕ) → P x i → i ≡ x.at) → r ≡ place_of b
mapped-place None r m f = m
mapped-place (Some b) None m f = absurd m
mapped-place (Some b) (Some i) m f = ap Some (f b i m)

module _ {A : Type 0} (z : A) (l : List A) where
  pub place_found : (b : Found Best) → chosen z l (place_of b) ≡ found z l b
  unfolding chosen
  place_found None = refl
  place_found (Some b) = refl

  pub place-placed : (b : Found Best) → ((x : Best) → b ≡ Some x → x.at < length l) → Placed l (place_of b)
  unfolding Placed
  place-placed None h = tt
  place-placed (Some b) h = h b refl

  -- the one best, or where there is none the other
  pub chosen-or : (a b : Found Best) → chosen z l (place_of (option_or a b)) ≡ or_else (chosen z l (place_of a)) (chosen z l (place_of b))
  unfolding chosen
  chosen-or None b = refl
  chosen-or (Some a) b = refl

  pub placed-or : (a b : Found Best) → Placed l (place_of a) → Placed l (place_of b) → Placed l (place_of (option_or a b))
  placed-or None b h k = k
  placed-or (Some a) b h k = h

module _ (key : FreeRegion → ℕ) (p : FreeRegion → Bool) (l : List FreeRegion) where
  -- where the scan stands before place `i`
  abbrev pub Scanned : ℕ → Found Best → Type 0
  Scanned i b = scan key p 0 None l ≡ scan key p i b (drop i l)

  -- what the scan of all regions chooses
  pub scan_chooses : (i : ℕ) (b : Found Best) → length l ≤ i → Scanned i b →
      (chosen empty_region l (place_of b) ≡ least key (filter p l)) × Placed l (place_of b)
  scan_chooses i b h s =
      let e : b ≡ scan key p 0 None l = sym (s ∙ rw (drop_of_length-le l {i = i} h)) in (
        place_found empty_region l b ∙ ap (found empty_region l) e ∙ scan-least key p empty_region l,
        place-placed empty_region l b (λ x f. scan-placed key p l x (sym e ∙ f)),
      )

  -- A region that fails the test is passed over, one that passes is looked at.
  module _ (i : ℕ) (b : Found Best) (h : i < length l) (s : Scanned i b) where
    turned : Scanned (i + 1) (cond (p (get_or l i empty_region)) (better i (key (get_or l i empty_region)) b) b)
    turned = s ∙ rw (turn-all l i empty_region h)

    pub scan_passed : p (get_or l i empty_region) ≡ false → Scanned (i + 1) b
    scan_passed e = turned ∙ ap (λ (t : Bool). scan key p (i + 1) (cond t (better i (key (get_or l i empty_region)) b) b) (drop (i + 1) l)) e

    pub scan_looked : p (get_or l i empty_region) ≡ true → Scanned (i + 1) (better i (key (get_or l i empty_region)) b)
    scan_looked e = turned ∙ ap (λ (t : Bool). scan key p (i + 1) (cond t (better i (key (get_or l i empty_region)) b) b) (drop (i + 1) l)) e
