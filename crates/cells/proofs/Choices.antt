-- What a choice by place chose, by how it came out.
use mathlib.Core.Path.{◌≡◌, sym}
use mathlib.Core.List.{List}
use mathlib.Core.Option.{Option, some, none}
use Prim.Native.Nat.{ℕ, ◌<◌}
use lib.ListN.{length, get_or}
use Rattle.cells.specs.Table.{chosen, Placed}
use Rattle.cells.specs.Table.{Choice}
use Rattle.std.specs.Prelude.{Some, None}

module _ {A : Type 0} (z : A) (l : List A) (c : Choice) (o : Option A) (same : chosen z l c ≡ o) where
  pub chosen-some : (i : ℕ) → c ≡ Some i → o ≡ some (get_or l i z)
  unfolding chosen
  chosen-some i e = sym (rw e at same)

  pub chosen_none : c ≡ None → o ≡ none
  unfolding chosen
  chosen_none e = sym (rw e at same)

pub placed_at : {A : Type 0} (l : List A) (c : Choice) (i : ℕ) → Placed l c → c ≡ Some i → i < length l
unfolding Placed
placed_at l c i p e = rw e at p
