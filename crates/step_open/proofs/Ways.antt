-- The ways through the rule, each its steps in order: no root is reserved, the root is all, its initial pages or their sync end the call, or all went on.
use mathlib.Core.Path.{◌≡◌}
use mathlib.Core.List.{List}
use Prim.Native.Nat.{ℕ, ◌*◌, ◌<◌}
use native.Mathlib.Omega.{arith}
use borrow.Author.Tests.{eq-eqb, ne_eqb}
use Rattle.tables.specs.Values.{address}
use Rattle.tables.specs.Steps.{on, ends}
use Rattle.tables.specs.Driver.{must, sync}
use Rattle.tables.specs.TakeRange.{reserve_root}
use Rattle.tables.specs.MakeRoom.{make_room}
use Rattle.tables.specs.Open.{open_steps}
use Rattle.tables.specs.declared.FreeRegion.{FreeRegion}
use Rattle.tables.specs.declared.Outcome.{Outcome}
use Rattle.tables.specs.declared.Outcome.TheVariants.{Opened}
use Rattle.driving.specs.Ran.{Ran, Point}
use Rattle.driving.proofs.Ran.{next, stop, gave, looked, taken, passed}

module _ {xs : List ℕ} {s u : Point} (initial stream : ℕ) where
  pub root-stops : {o : Outcome} → Ran (reserve_root 0) xs s (ends o) u → Ran (open_steps initial stream) xs s (ends o) u
  unfolding open_steps
  root-stops r = stop _ r

  -- the root is at `b`
  module _ {b : ℕ} (page : ℕ) (known : u.tables.fields.page ≡ page) (r : Ran (reserve_root 0) xs s (on b) u) where
    pub root-opens : initial ≡ 0 → Ran (open_steps initial stream) xs s (on (Opened (address b) page)) u
    unfolding open_steps
    root-opens e = rw (← known) (next _ r (next _ looked (next _ (taken _ (eq-eqb initial 0 e) gave) gave)))

    -- initial pages are asked for
    module _ {v : Point} (some : 0 < initial) where
      pub room-stops : {o : Outcome} → Ran (make_room (initial * page) stream) xs u (ends o) v → Ran (open_steps initial stream) xs s (ends o) v
      unfolding open_steps
      room-stops q = next _ r (next _ looked (stop _ (passed _ (ne_eqb initial 0 (λ e. omega arith)) (stop _ (rw (← known) at q)))))

      module _ {w : Point} {a : FreeRegion} (q : Ran (make_room (initial * page) stream) xs u (on a) v) where
        pub sync-stops : {o : Outcome} → Ran (must (sync stream)) xs v (ends o) w → Ran (open_steps initial stream) xs s (ends o) w
        unfolding open_steps
        sync-stops y = next _ r (next _ looked (stop _ (passed _ (ne_eqb initial 0 (λ e. omega arith)) (next _ (rw (← known) at q) y))))

        pub pages-open : Ran (must (sync stream)) xs v (on tt) w → Ran (open_steps initial stream) xs s (on (Opened (address b) page)) w
        unfolding open_steps
        pages-open y =
            rw (← known)
            (next _ r (next _ looked (next _ (passed _ (ne_eqb initial 0 (λ e. omega arith)) (next _ (rw (← known) at q) y)) gave)))
