-- What the code leans on, read off the pool: the buffer is one of the live ones, and its range can be inserted as free.
use mathlib.Core.Path.{◌≡◌, ap, sym, ◌∙◌}
use mathlib.Core.Bool.{not}
use Prim.Native.Nat.{ℕ, ◌≤◌, ◌<◌}
use native.Mathlib.Omega.{arith}
use lib.Dec.{eqb}
use lib.ListN.{length, get_or}
use Rattle.lists.specs.Order.{without}
use Rattle.lists.specs.Places.{remove_at}
use Rattle.lists.proofs.Keys.{without_key}
use Rattle.lists.proofs.Tests.{length-filter}
use Rattle.lists.proofs.Members.{member-at}
use Rattle.tables.specs.Bounds.{SPANS}
use Rattle.tables.specs.Values.{FreeRegions, LiveBuffers, live_of, pack_live, tables_of, empty_buffer}
use Rattle.tables.specs.Kept.{KeptFree, KeptLive, KeptPool}
use Rattle.tables.specs.declared.LiveBuffer.{LiveBuffer}
use Rattle.tables.specs.declared.Pool.{Pool}
use Rattle.tables.proofs.Packs.{free-count, live-count, live-kept, live_pack}
use Rattle.keeping.proofs.FreeCall.{inserting}
use Rattle.keeping.proofs.Bounds.{inserting_bounds}
use Rattle.step_insert_free.specs.Promises.{Insertable}
use Rattle.step_free.specs.Promises.{Freeable, holding}

module _ {i : ℕ} {b : LiveBuffers} {f : FreeRegions} {c : ℕ} (h : Freeable i b f c) where
  abbrev it : LiveBuffer
  it = get_or (live_of b) i empty_buffer

  within : i < length (live_of b)
  within = omega (arith, h.placed, live-count b h.tables.live)

  pub insertable : Insertable it.start.0 it.size c f
  unfolding tables_of
  insertable =
      let w = inserting_bounds (inserting it (tables_of (holding b f c h.around)) h.kept (member-at (live_of b) i empty_buffer within)) in
      record {
        free = h.tables.free;
        room = omega (arith, w.few, free-count f h.tables.free);
        end = w.ends;
        range_end = w.range_end;
        sizes = w.sizes;
        counter = h.ids;
      }

  -- the buffer taken out at its place
  module _ {o : LiveBuffers} (e : o ≡ pack_live (remove_at i (live_of b))) where
    same : remove_at i (live_of b) ≡ without (λ z. z.start.0) it.start.0 (live_of b)
    unfolding tables_of
    same = sym (without_key (λ z. z.start.0) 0 (live_of b) i empty_buffer h.kept.sound.live_rises within)

    pub others_are : live_of o ≡ without (λ z. z.start.0) it.start.0 (live_of b)
    others_are = ap live_of e ∙ live_pack _ ∙ same

    pub others-kept : KeptLive o
    others-kept =
        let few : length (without (λ z. z.start.0) it.start.0 (live_of b)) ≤ SPANS =
        omega (arith, length-filter (λ z. not (eqb z.start.0 it.start.0)) (live_of b), live-count b h.tables.live, h.tables.live.most) in
        rw (e, same) (live-kept _ few)

    -- what the steps leave of a pool: free regions, a counter, and the other buffers
    pub kept-after : (p : Pool) (g : FreeRegions) (n : ℕ) → KeptPool (holding b f c p) → KeptFree g → KeptPool (holding o g n p)
    kept-after p g n k r =
        record {
          free = r;
          live = others-kept;
          holes = k.holes;
          zombies = k.zombies;
          pages = k.pages;
          roots = k.roots;
        }
