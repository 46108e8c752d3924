-- The ways through the rule, by where its parts end it, and what each part leans on.
use mathlib.Core.Path.{◌≡◌, refl, sym, subst, ◌∙◌}
use mathlib.Core.Logic.{inl}
use mathlib.Core.List.{[], ◌∷◌}
use Prim.Native.Nat.{ℕ, ◌+◌, ◌-◌, ◌≤◌, ◌<◌}
use native.Mathlib.Omega.{arith}
use borrow.Author.Tests.{eq-eqb, le-leb, lt-leb}
use Rattle.std.specs.Prelude.{Result, Ok, Err, Some, None}
use Rattle.tables.specs.Bounds.{SPANS}
use Rattle.tables.specs.Values.{tables_of, free_of}
use Rattle.tables.specs.Steps.{on, ends}
use Rattle.tables.specs.NewPages.{insert_new}
use Rattle.tables.specs.Pull.{pull_in}
use Rattle.tables.specs.MakeRoom.{fill, make_room}
use Rattle.tables.specs.declared.FreeRegion.{FreeRegion}
use Rattle.tables.specs.declared.Pool.{Pool}
use Rattle.tables.specs.declared.Outcome.{Outcome}
use Rattle.keeping.specs.Sound.{none}
use Rattle.keeping.proofs.Fill.{Newly, inserts-new, all-range, all-due, left, behind-range, behind-spare, behind-due}
use Rattle.driving.specs.Endings.{ending}
use Rattle.driving.specs.Pools.{PoolRan}
use Rattle.driving.specs.declared.Driver.{Driver}
use Rattle.driving.proofs.Lent.{lent-then}
use Rattle.driving.proofs.Ran.{next, stop, gave, looked, taken, passed}
use Rattle.driving.proofs.Holds.{holds-ran}
use Rattle.regions.specs.Pulling.{besides}
use Rattle.step_new_pages.specs.Promises.{room_of}
use Rattle.step_new_pages.specs.declared.Room.{Room}
use Rattle.step_new_room.specs.Promises.{free_bytes, Roomable, PagesMade, TakesRoom, Insertable, InsertsNew}
use Rattle.step_pull_in.specs.Promises.{pull_in_calls, Fillable}
use Rattle.step_make_room.specs.Promises.{make_room_calls}

-- `q` and `d₁` are what taking the range left.
module _ {n lack s : ℕ} {d d₁ : Driver} {p q : Pool} (g : Roomable n lack p) where
  pub take-stopped : {o : Outcome} → TakesRoom n s d p (Err o) d₁ q → PoolRan (make_room n s) make_room_calls d p (ends o) d₁ q
  take-stopped w = record { lent = w.lent; ran = w.stops _ refl; kept = w.kept; state = w.state; most = omega (arith, w.most) }

  -- the range was taken
  module _ {o : Room} (w : TakesRoom n s d p (Ok o) d₁ q) where
    made : PagesMade g.lost (free_bytes p) o q
    made = w.taken g.lost g.takes o refl

    size-is : o.size ≡ n
    size-is = w.size o refl

    -- the whole range is filled from what is free
    module _ (z : o.missing ≡ 0) where
      sized : Fillable o None o.size q
      unfolding besides tables_of
      sized =
          record {
            kept = w.kept;
            ids = omega (arith, g.ids, w.ids);
            lost = g.lost;
            rest = none;
            spans = SPANS - 1;
            keep = [];
            range = all-range g.lost _ _ _ made.1 z;
            spare = inl (omega arith);
            due = all-due g.lost _ _ _ made.1 z (tables_of q) made.0;
          }

      pub fillable-all : Fillable o None n q
      fillable-all = subst (λ m. Fillable o None m q) size-is sized

      pub filled-all : (r : Result FreeRegion Outcome) {d₂ : Driver} {x : Pool} →
          PoolRan (pull_in (room_of o) n (besides None (free_of q.free))) pull_in_calls d₁ q (ending r) d₂ x →
          PoolRan (make_room n s) make_room_calls d p (ending r) d₂ x
      unfolding insert_new fill besides tables_of
      filled-all r v =
          record {
            lent = lent-then w.lent v.lent;
            ran = w.goes o refl _ _ (next _ (taken _ (eq-eqb o.missing 0 z) gave) (next _ looked (rw (← size-is, w.lent.answers) at v.ran)));
            kept = v.kept;
            state = v.state ∙ w.state;
            most = omega (arith, v.most, w.most);
          }

    -- the pages made are inserted as free
    module _ (some-missing : 0 < o.missing) where
      pub insertable : Insertable o q
      insertable = record { kept = w.kept; ids = omega (arith, g.ids, w.ids); some = some-missing; lost = g.lost; free = free_bytes p; pages = made }

      module _ {d₂ : Driver} {x : Pool} where
        pub new-stopped : {f : Outcome} → InsertsNew o d₁ q (Err f) d₂ x → PoolRan (make_room n s) make_room_calls d p (ends f) d₂ x
        new-stopped i =
            let v = i.walked in
            record {
              lent = lent-then w.lent v.lent;
              ran = w.goes o refl _ _ (stop _ (rw w.lent.answers at v.ran));
              kept = v.kept;
              state = v.state ∙ w.state;
              most = omega (arith, v.most, w.most);
            }

        -- the new region
        module _ {r : FreeRegion} (i : InsertsNew o d₁ q (Ok r) d₂ x) where
          -- it is enough
          pub new-enough : n ≤ r.size → PoolRan (make_room n s) make_room_calls d p (on r) d₂ x
          unfolding fill
          new-enough c =
              let v = i.walked in
              let enough = le-leb o.size r.size (omega (arith, size-is)) in
              record {
                lent = lent-then w.lent v.lent;
                ran = w.goes o refl _ _ (next _ (rw w.lent.answers at v.ran) (next _ looked (taken _ enough gave)));
                kept = v.kept;
                state = v.state ∙ w.state;
                most = omega (arith, v.most, w.most);
              }

          -- regions are pulled behind it
          module _ (short : r.size < n) where
            newly : Newly g.lost q.page (free_bytes p) (room_of o) r (tables_of x)
            newly = holds-ran (inserts-new g.lost q.page (free_bytes p) (room_of o)) i.walked.ran made.0

            same-page : q.page ≡ x.page
            unfolding tables_of
            same-page = sym newly.known.page

            lacking : r.size < o.size
            lacking = omega (arith, size-is)

            sized-rest : Fillable o (Some r.start) (o.size - r.size) x
            unfolding besides tables_of
            sized-rest =
                record {
                  kept = i.walked.kept;
                  ids = omega (arith, g.ids, w.ids, i.spent);
                  lost = g.lost;
                  rest = left _ _ _ _ made.1 _ _ newly lacking;
                  spans = SPANS;
                  keep = r ∷ [];
                  range = rw same-page at (behind-range _ _ _ _ made.1 _ _ newly lacking);
                  spare = behind-spare _ _ _ _ made.1 _ _ newly lacking;
                  due = rw same-page at (behind-due _ _ _ _ made.1 _ _ newly lacking);
                }

            pub fillable-rest : Fillable o (Some r.start) (n - r.size) x
            fillable-rest = subst (λ m. Fillable o (Some r.start) (m - r.size) x) size-is sized-rest

            pub filled-rest : (e : Result FreeRegion Outcome) {d₃ : Driver} {y : Pool} →
                PoolRan (pull_in (room_of o) (n - r.size) (besides (Some r.start) (free_of x.free))) pull_in_calls d₂ x (ending e) d₃ y →
                PoolRan (make_room n s) make_room_calls d p (ending e) d₃ y
            unfolding fill besides tables_of
            filled-rest e u =
                let v = i.walked in
                let not-enough = lt-leb o.size r.size lacking in
                record {
                  lent = lent-then w.lent (lent-then v.lent u.lent);
                  ran = w.goes o refl _ _ (next _ (rw w.lent.answers at v.ran)
                      (next _ looked (passed _ not-enough (rw (← size-is, v.lent.answers, w.lent.answers) at u.ran))));
                  kept = u.kept;
                  state = u.state ∙ v.state ∙ w.state;
                  most = omega (arith, u.most, v.most, w.most);
                }
