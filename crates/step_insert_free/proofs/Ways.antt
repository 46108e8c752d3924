-- The two ways of insert free, each its steps in order: the event is recorded, or its record ends the call.
use mathlib.Core.Path.{◌≡◌}
use mathlib.Core.Bool.{not}
use mathlib.Core.List.{List}
use Prim.Native.Nat.{ℕ, ◌+◌}
use Rattle.lists.specs.Tests.{filter}
use Rattle.tables.specs.Values.{with_free, with_counter}
use Rattle.tables.specs.Steps.{on, ends}
use Rattle.tables.specs.Driver.{must, record_event}
use Rattle.tables.specs.InsertFree.{put_free, merges, merged, insert_free}
use Rattle.tables.specs.declared.FreeRegion.{FreeRegion}
use Rattle.tables.specs.declared.Outcome.{Outcome}
use Rattle.driving.specs.Ran.{Ran, Point, point}
use Rattle.driving.proofs.Ran.{next, stop, gave, looked, changed}

-- without the neighbours of the range
abbrev pub apart : ℕ → ℕ → ℕ → Point → Point
apart a n st s = point s.made (with_free (filter (λ q. not (merges a n st q)) s.tables.free) s.tables) s.log

pub insert-on : {xs : List ℕ} {s v : Point} (a n st : ℕ) (r : FreeRegion) → r ≡ merged a n st s.tables.fields.counter (filter (merges a n st) s.tables.free) →
    Ran (must (record_event s.tables.fields.counter st)) xs (apart a n st s) (on tt) v →
    Ran (insert_free a n st) xs s (on r) (point v.made (with_counter (v.tables.fields.counter + 1) (with_free (put_free r v.tables.free) v.tables)) v.log)
unfolding insert_free
insert-on a n st r q told = rw q (next _ looked (next _ (changed _) (next _ told (next _ (changed _) (next _ (changed _) gave)))))

pub insert-stop : {xs : List ℕ} {s v : Point} (a n st : ℕ) {o : Outcome} →
    Ran (must (record_event s.tables.fields.counter st)) xs (apart a n st s) (ends o) v → Ran (insert_free a n st) xs s (ends o) v
unfolding insert_free
insert-stop a n st told = next _ looked (next _ (changed _) (stop _ told))
