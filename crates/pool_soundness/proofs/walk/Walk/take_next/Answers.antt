-- `pool_soundness::walk::Walk::take_next` meets its contract: the lowest of four starts is the first of all.
use native.Mathlib.Omega.{arith}
use Rattle.pool_soundness.proofs.Fronts.{first-next, second-next, third-next, fourth-next, took_ascends}
use Rattle.pool_soundness.proofs.walk.Walk.take_next.Goals as goal

pub returns-then-zombies-holes : goal.returns-then-zombies-holes
returns-then-zombies-holes c =
    let o = c.requires in
    let t = c.take.ensures in record {
      next = fourth-next _ _ _ _ o.free o.live o.holes o.zombies c.take.result _ t (omega arith) (omega arith) (omega arith);
      ordered = record { free = o.free; live = o.live; holes = o.holes; zombies = took_ascends _ _ c.take.result t o.zombies };
    }

pub returns-else-zombies-holes : goal.returns-else-zombies-holes
returns-else-zombies-holes c =
    let o = c.requires in
    let t = c.take-else-zombies-holes.ensures in record {
      next = third-next _ _ _ _ o.free o.live o.holes o.zombies c.take-else-zombies-holes.result _ t (omega arith) (omega arith) (omega arith);
      ordered = record { free = o.free; live = o.live; holes = took_ascends _ _ c.take-else-zombies-holes.result t o.holes; zombies = o.zombies };
    }

pub returns-then-live-free : goal.returns-then-live-free
returns-then-live-free c =
    let o = c.requires in
    let t = c.take-then-live-free.ensures in record {
      next = second-next _ _ _ _ o.free o.live o.holes o.zombies c.take-then-live-free.result _ t (omega arith) (omega arith) (omega arith);
      ordered = record { free = o.free; live = took_ascends _ _ c.take-then-live-free.result t o.live; holes = o.holes; zombies = o.zombies };
    }

pub returns-else-live-free : goal.returns-else-live-free
returns-else-live-free c =
    let o = c.requires in
    let t = c.take-else-live-free.ensures in record {
      next = first-next _ _ _ _ o.free o.live o.holes o.zombies c.take-else-live-free.result _ t (omega arith) (omega arith) (omega arith);
      ordered = record { free = took_ascends _ _ c.take-else-live-free.result t o.free; live = o.live; holes = o.holes; zombies = o.zombies };
    }
