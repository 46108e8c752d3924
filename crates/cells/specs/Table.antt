-- A table and its list, and what a choice by place chooses.
use Rattle.std.specs.Prelude.{◌≡◌, Bool, true, ℕ, List, ◌<◌, take, length, get_or, Some, None, Option as Place}
use Rattle.std.proofs.Math.Option.{Option, some, none}
use Rattle.lists.specs.Cells.{packed, Filled}
use Rattle.cells.specs.declared.Table.{Table}

-- the place of an entry in a table, or none
abbrev pub Choice : Type 0
Choice = Place ℕ

module _ {A : Type 0} where
  -- the element of `l` at the chosen place; `z` stands for none there
  unfoldable pub chosen : A → List A → Choice → Option A
  chosen z l (Some i) = some (get_or l i z)
  chosen z l None = none

  -- a chosen place is one of the list's
  unfoldable pub Placed : List A → Choice → Type 0
  Placed l (Some i) = i < length l
  Placed l None = Unit {0}

  module _ {n : ℕ} where
    -- A table's list: the first cells, as many as its count.
    unfoldable pub entries : Table A n → List A
    entries t = take t.count t.cells

    -- The table that holds a list: every cell past it is `z`.
    unfoldable pub pack : A → List A → Table A n
    pack z l = record { cells = packed n z l; count = length l }

    -- The count is within the ceiling, and every cell past it is `z`.
    abbrev pub Kept : A → Table A n → Type 0
    Kept z t = Filled n z t.cells t.count

-- A test says yes exactly where `P` is so.
pub record Tells (r : Bool) (P : Type 0) : Type 0 where
  pub yes : r ≡ true → P
  pub no : P → r ≡ true
