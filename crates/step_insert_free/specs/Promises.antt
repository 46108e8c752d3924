-- What the code that inserts a range as free needs, and what it promises.
use Rattle.std.specs.Prelude.{Result, ℕ, ◌+◌, ◌≤◌, ◌<◌}
use Rattle.lists.specs.Tests.{All}
use Rattle.tables.specs.Bounds.{END, SPANS}
use Rattle.tables.specs.Values.{Tables, free_of, with_free, with_counter}
use Rattle.tables.specs.Kept.{KeptFree}
use Rattle.tables.specs.InsertFree.{upto, bytes, insert_free}
use Rattle.tables.specs.declared.FreeRegion.{FreeRegion}
use Rattle.tables.specs.declared.Outcome.{Outcome}
use Rattle.tables.specs.Values.{FreeRegions}
use Rattle.driving.specs.Ran.{Ran, Lent, stands}
use Rattle.driving.specs.Endings.{ending}
use Rattle.driving.specs.declared.Driver.{Driver}

-- the tables `t`, with these free regions and this counter
abbrev pub inserting : FreeRegions → ℕ → Tables → Tables
inserting f c t = with_counter c (with_free (free_of f) t)

-- The table is kept and has room for one region more; no address, no sum of sizes and no id passes a word's end.
pub record Insertable (a n c : ℕ) (f : FreeRegions) : Type 0 where
  pub free : KeptFree f
  pub room : f.count < SPANS
  pub end : All (λ q. upto q ≤ END) (free_of f)
  pub range_end : a + n ≤ END
  pub sizes : n + bytes (free_of f) ≤ END
  pub counter : c < END

-- The range from `a` of `n` bytes is inserted as free on stream `s`, with one driver call.
pub record Inserts (a n s : ℕ) (d : Driver) (f : FreeRegions) (c : ℕ) (r : Result FreeRegion Outcome) (d' : Driver) (f' : FreeRegions) (c' : ℕ) : Type 0 where
  pub lent : Lent d d'
  pub ran : (t : Tables) → Ran (insert_free a n s) d.answers.now (stands d (inserting f c t)) (ending r) (stands d' (inserting f' c' t))
  pub free : KeptFree f'
  pub most : d'.made ≤ d.made + 1
