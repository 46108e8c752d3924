-- The ways where nothing fits: refused, no room made, or what was made handed over. What is not refused can be made room for, and the room made can be
-- handed over.
use mathlib.Core.Path.{◌≡◌, refl, ◌∙◌}
use Prim.Native.Nat.{ℕ, ◌-◌, ◌≤◌}
use native.Mathlib.Omega.{arith}
use Rattle.tables.specs.Bounds.{END, SPANS}
use Rattle.tables.specs.Values.{tables_of}
use Rattle.tables.specs.Steps.{on, ends}
use Rattle.tables.specs.MakeRoom.{missing, make_room}
use Rattle.tables.specs.Malloc.{room_refused, or_room}
use Rattle.std.specs.Prelude.{Ok, Err}
use Rattle.tables.specs.declared.FreeRegion.{FreeRegion}
use Rattle.tables.specs.declared.Pool.{Pool}
use Rattle.tables.specs.declared.Outcome.{Outcome}
use Rattle.keeping.specs.Sound.{Whole}
use Rattle.keeping.proofs.Cover.{within_none}
use Rattle.keeping.proofs.Bounds.{free-sizes}
use Rattle.keeping.proofs.Fit.{Fitting}
use Rattle.keeping.proofs.MakeRoom.{makes-room}
use Rattle.keeping.proofs.MakeRoom as Triple
use Rattle.keeping.proofs.Malloc.{losing, admits-room, made, begins}
use Rattle.driving.specs.Ran.{Ran, stands}
use Rattle.driving.specs.Pools.{PoolRan}
use Rattle.driving.specs.declared.Driver.{Driver}
use Rattle.driving.proofs.Lent.{lent-same}
use Rattle.driving.proofs.Ran.{next, stop}
use Rattle.driving.proofs.Holds.{holds-ran}
use Rattle.step_new_room.specs.Promises.{free_bytes, CanTake, Roomable}
use Rattle.step_make_room.specs.Promises.{make_room_calls, Readable, Refuses}
use Rattle.step_malloc.specs.Promises.{Mallocable, Handable, HandsOut, RoomsOut}

module _ {n : ℕ} {p : Pool} (g : Mallocable n p) where
  -- the free bytes are no more than the roots have
  pub bytes_most : free_bytes p ≤ END
  unfolding tables_of
  bytes_most =
      let k = g.asked.0 in
      omega (arith, free-sizes k.sound 0 0 (omega arith) (λ x. omega (arith, within_none 0 x)) k.ceilings.roots)

  pub size : Whole p.page n
  unfolding tables_of
  size = g.asked.1.0

  -- what stands through cleanup and fit
  pub fitting : Fitting g.lost p.page (free_bytes p) (SPANS - 1) (tables_of p)
  unfolding tables_of
  fitting = begins g.lost n (free_bytes p) (tables_of p) g.asked refl

  -- `m` bytes are missing
  module _ {m : ℕ} (lack : m ≡ n - free_bytes p) where
    lacks : m ≡ missing n (tables_of p)
    unfolding tables_of
    lacks = lack

    pub readable : Readable n m p
    readable = record { tables = g.tables; lost = g.lost; kept = g.asked.0; lacks = lacks }

  module _ {m : ℕ} (lack : m ≡ n - free_bytes p) (s : ℕ) (d : Driver) where
    pub refused-stops : {o : Outcome} → Refuses n p (Err o) → RoomsOut n s d p (Err o) d p
    unfolding or_room
    refused-stops w =
        record { lent = lent-same d; ran = stop _ (stop _ (w.ran d.answers.now d.made d.log.now)); kept = g.tables; state = refl; most = omega arith }

    module _ (w : Refuses n p (Ok tt)) where
      admitted : Ran (room_refused n) d.answers.now (stands d (tables_of p)) (on tt) (stands d (tables_of p))
      admitted = w.ran d.answers.now d.made d.log.now

      can-take : CanTake g.lost n p
      can-take = holds-ran (admits-room g.lost p.page (free_bytes p) n s size) admitted fitting

      pub roomable : Roomable n m p
      roomable = record { kept = g.tables; ids = g.ids; lost = g.lost; takes = can-take; lacks = lacks lack }

      -- room was asked for: `q` and `d₁` are what that left
      module _ {d₁ : Driver} {q : Pool} where
        pub room-stops : {o : Outcome} → PoolRan (make_room n s) make_room_calls d p (ends o) d₁ q → RoomsOut n s d p (Err o) d₁ q
        unfolding or_room
        room-stops v = record { lent = v.lent; ran = stop _ (next _ admitted v.ran); kept = v.kept; state = v.state; most = v.most }

        module _ {r : FreeRegion} (v : PoolRan (make_room n s) make_room_calls d p (on r) d₁ q) where
          roomed : Triple.Roomed g.lost (free_bytes p) n s r (tables_of q)
          roomed = holds-ran (makes-room g.lost p.page (free_bytes p) n s) v.ran can-take

          pub room-handable : Handable n r q
          room-handable =
              let x = made g.lost p.page (free_bytes p) n s size r (tables_of q) roomed in
              record { tables = v.kept; lost = losing g.lost x.0; due = x.1.1 }

          pub room-handed : {o : Outcome} {x : Pool} → HandsOut n s r q o x → RoomsOut n s d p (Ok o) d₁ x
          unfolding or_room
          room-handed y =
              let z = y.walked d₁ in
              record {
                lent = v.lent;
                ran = next _ (next _ admitted v.ran) (rw v.lent.answers at z.ran);
                kept = z.kept;
                state = z.state ∙ v.state;
                most = v.most;
              }
