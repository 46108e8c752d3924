-- What the code leans on, read off the tables around it: any part of the region may be taken at its place, and what is put in has room.
use Prim.Native.Nat.{ℕ, ◌≤◌, ◌<◌}
use native.Mathlib.Omega.{arith}
use Rattle.lists.specs.Order.{put}
use Rattle.lists.proofs.Members.{member-all, length_without}
use Rattle.tables.specs.Bounds.{END, SPANS}
use Rattle.tables.specs.Values.{buffer, free_of, pack_free, live_of, pack_live, empty_region}
use Rattle.tables.specs.Kept.{KeptFree, KeptLive}
use Rattle.tables.specs.InsertFree.{from, upto}
use Rattle.tables.specs.declared.FreeRegion.{FreeRegion}
use Rattle.tables.specs.Values.{FreeRegions}
use Rattle.tables.specs.Values.{LiveBuffers}
use Rattle.tables.proofs.Packs.{free-kept, free-count, live-kept, live-count}
use Rattle.keeping.proofs.Sounds.{sound-next}
use Rattle.keeping.proofs.Bounds.{free-ends}
use Rattle.keeping.proofs.HandOver.{hand-kept}
use Rattle.regions.specs.Cutting.{region_at, cut_free, Cuttable}
use Rattle.step_hand_over.specs.Promises.{handing, Handable}

module _ {n i : ℕ} {f : FreeRegions} {b : LiveBuffers} (h : Handable n i f b) where
  abbrev it : FreeRegion
  it = region_at f i

  pub cuttable : Cuttable f i n
  cuttable =
      record {
        kept = h.free;
        rises = h.due.sound.free_rises;
        placed = h.placed;
        enough = h.due.most;
        ends = member-all (λ q. upto q ≤ END) it (free_of f) h.due.member (free-ends h.due.sound);
        apart = λ j. sound-next h.due.sound i empty_region (omega (arith, free-count f h.free));
      }

  -- where there is a region, there is room for a buffer
  pub buffer-room : b.count < SPANS
  buffer-room =
      omega (
        arith,
        length_without from 0 it (free_of f) h.due.sound.free_rises h.due.member,
        h.due.few.spans,
        live-count b h.live,
      )

  pub rest-kept : KeptFree (pack_free (cut_free n it (free_of f)))
  rest-kept = free-kept _ (omega (arith, (hand-kept n 0 it (handing f b h.around) h.due).ceilings.spans))

  pub buffers-kept : (s : ℕ) → KeptLive (pack_live (put (λ c. c.start.0) (buffer (from it) n s) (live_of b)))
  buffers-kept s = live-kept _ (omega (arith, (hand-kept n s it (handing f b h.around) h.due).ceilings.spans))
