-- What the steps leave of every pool, once the range was inserted as free or its record ended the call.
use mathlib.Core.Path.{◌≡◌, refl}
use mathlib.Core.List.{List}
use Prim.Native.Nat.{ℕ}
use lib.ListN.{get_or}
use Rattle.std.specs.Prelude.{Result, Ok, Err}
use Rattle.lists.specs.Order.{without}
use Rattle.lists.specs.Places.{remove_at}
use Rattle.tables.specs.Values.{FreeRegions, LiveBuffers, live_of, pack_live, tables_of, with_live, empty_buffer}
use Rattle.tables.specs.Steps.{on, ends}
use Rattle.tables.specs.InsertFree.{insert_free}
use Rattle.tables.specs.Free.{free_steps}
use Rattle.tables.specs.declared.FreeRegion.{FreeRegion}
use Rattle.tables.specs.declared.LiveBuffer.{LiveBuffer}
use Rattle.tables.specs.declared.Outcome.{Outcome}
use Rattle.tables.specs.declared.Outcome.TheVariants.{Freed}
use Rattle.tables.proofs.Packs.{live_cell}
use Rattle.driving.specs.Ran.{Ran, Point, point}
use Rattle.driving.specs.Endings.{ending}
use Rattle.driving.specs.declared.Driver.{Driver}
use Rattle.driving.proofs.Ran.{next, stop, gave, changed}
use Rattle.step_insert_free.specs.Promises.{Inserts}
use Rattle.step_free.specs.Promises.{Freeable, FreeRan}
use Rattle.step_free.proofs.Sounds.{others_are, kept-after}

-- the buffers but `z`
abbrev but : LiveBuffer → List LiveBuffer → List LiveBuffer
but z = without (λ y. y.start.0) z.start.0

-- without the buffer `z`
abbrev pub taken_out : LiveBuffer → Point → Point
taken_out z s = point s.made (with_live (without (λ y. y.start.0) z.start.0 s.tables.live) s.tables) s.log

-- the two ways of the steps, by the rule: the range is inserted as free, or its record ends the call
module _ {xs : List ℕ} {s u : Point} (z : LiveBuffer) where
  pub freed : (r : FreeRegion) → Ran (insert_free z.start.0 z.size z.stream) xs (taken_out z s) (on r) u → Ran (free_steps z) xs s (on (Freed z.size z.stream)) u
  unfolding free_steps
  freed r inserted = next _ (changed _) (next _ inserted gave)

  pub freed-stop : {o : Outcome} → Ran (insert_free z.start.0 z.size z.stream) xs (taken_out z s) (ends o) u → Ran (free_steps z) xs s (ends o) u
  unfolding free_steps
  freed-stop inserted = next _ (changed _) (stop _ inserted)

-- what the steps hand back, by what the insert does
abbrev handed : LiveBuffer → Result FreeRegion Outcome → Result Outcome Outcome
handed z (Ok r) = Ok (Freed z.size z.stream)
handed z (Err o) = Err o

-- the rule of the whole, by that of the insert
whole-ran : {xs : List ℕ} {s u : Point} (z : LiveBuffer) (r : Result FreeRegion Outcome) →
    Ran (insert_free z.start.0 z.size z.stream) xs (taken_out z s) (ending r) u → Ran (free_steps z) xs s (ending (handed z r)) u
whole-ran z (Ok r) w = freed z r w
whole-ran z (Err o) w = freed-stop z w

-- the buffer in a cell
abbrev cell : LiveBuffers → ℕ → LiveBuffer
cell b i = get_or b.cells i empty_buffer

-- `o` are the live buffers but that at the place `i`, whose range was inserted
pub steps-left : {i : ℕ} {b o : LiveBuffers} {f g : FreeRegions} {c n : ℕ} {d d' : Driver} {r : Result FreeRegion Outcome} → Freeable i b f c →
    o ≡ pack_live (remove_at i (live_of b)) → Inserts (cell b i).start.0 (cell b i).size (cell b i).stream d f c r d' g n →
    FreeRan i b f c d (handed (cell b i) r) d' o g n
unfolding tables_of
steps-left {i} {b} {r = r} h e w =
    record {
      lent = w.lent;
      ran = λ p whole.
          record {
            lent = w.lent;
            ran =
                rw (others_are h e, live_cell b i h.placed)
                (whole-ran (cell b i) r (w.ran (with_live (but (cell b i) (live_of b)) (tables_of p))));
            kept = kept-after h e p _ _ whole w.free;
            state = refl;
            most = w.most;
          };
    }
