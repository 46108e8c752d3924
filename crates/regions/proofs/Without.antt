-- The region of a start taken out, as the code does it: at the place where it is found, and where none is found the list stays.
use mathlib.Core.Path.{◌≡◌, sym, ap, ◌∙◌}
use mathlib.Core.List.{List}
use mathlib.Core.Option.{some, none}
use Prim.Native.Nat.{ℕ, ◌<◌}
use borrow.Author.Tests.{eqb-true}
use lib.Dec.{eqb}
use lib.ListN.{length, get_or}
use Rattle.lists.specs.Places.{remove_at, place}
use Rattle.lists.specs.Tests.{first}
use Rattle.lists.specs.Order.{Rises}
use Rattle.lists.proofs.Order.{without_is}
use Rattle.lists.proofs.Keys.{without_key}
use Rattle.lists.proofs.Found.{first-passes, none-first, remove_at-past}
use Rattle.tables.specs.Values.{empty_region}
use Rattle.tables.specs.InsertFree.{from, without_free}
use Rattle.tables.specs.declared.FreeRegion.{FreeRegion}

module _ (a : ℕ) (l : List FreeRegion) (rises : Rises from 0 l) where
  pub without_found : (i : ℕ) → i < length l → first (λ q. eqb (from q) a) l ≡ some (get_or l i empty_region) → without_free a l ≡ remove_at i l
  without_found i h e =
      let starts : from (get_or l i empty_region) ≡ a = eqb-true (from (get_or l i empty_region)) a (first-passes (λ q. eqb (from q) a) l (get_or l i empty_region) e) in
      ap (λ b. without_free b l) (sym starts) ∙ without_key from 0 l i empty_region rises h

  pub without_none : first (λ q. eqb (from q) a) l ≡ none → without_free a l ≡ l
  without_none e =
      without_is from a 0 l rises ∙ remove_at-past (place (λ q. eqb (from q) a) l) l (none-first (λ q. eqb (from q) a) l empty_region e)
