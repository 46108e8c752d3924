-- docs/RULES.md 3.15: free. `xs` are the lent answers, `log` counts the records that the log has room for.
use Rattle.std.specs.Prelude.{List, ℕ, eqb}
use Rattle.std.proofs.Math.Option.{Option, some, none}
use Rattle.lists.specs.Tests.{first}
use Rattle.lists.specs.Order.{without}
use Rattle.tables.specs.Values.{address, at_entry}
use Rattle.tables.specs.Steps.{Step, ◌>>◌, give, change_live}
use Rattle.tables.specs.InsertFree.{insert_free}
use Rattle.tables.specs.HandsBack.{Reply, refused, finished, admitted}
use Rattle.tables.specs.declared.LiveBuffer.{LiveBuffer}
use Rattle.tables.specs.declared.Pool.{Pool}
use Rattle.tables.specs.declared.Outcome.{Outcome}
use Rattle.tables.specs.declared.Outcome.TheVariants.{Freed, InvalidPointer}

-- The buffer's range is free, on the buffer's own stream.
unfoldable pub free_steps : LiveBuffer → Step Outcome
free_steps b = do
  change_live (without (λ c. c.start.0) b.start.0)
  insert_free b.start.0 b.size b.stream
  give (Freed b.size b.stream)

-- 16 where no live buffer starts at the address.
unfoldable pub free_found : Pool → ℕ → List ℕ → Option LiveBuffer → Reply
free_found p a xs none = refused p (InvalidPointer (address a))
free_found p a xs (some b) = finished p (free_steps b xs 0 (at_entry p))

-- docs/RULES.md 4.2: 1 to 5, and then 16.
unfoldable pub free : Pool → ℕ → List ℕ → ℕ → Reply
free p a xs log = admitted p log (free_found p a xs (first (λ b. eqb b.start.0 a) (at_entry p).live))
