-- Handing over: the region's first bytes become a live buffer and a rest stays free, so that together they cover what the region covered.
-- Nothing else starts in the region, so both have their place by address.
use mathlib.Core.Path.{◌≡◌}
use mathlib.Core.Logic.{⊎_elim}
use mathlib.Core.List.{List}
use Prim.Native.Nat.{ℕ, ◌+◌, ◌-◌, ◌≤◌, ◌<◌}
use native.Mathlib.Omega.{arith}
use lib.ListN.{length}
use Rattle.lists.specs.Tests.{All}
use Rattle.lists.specs.Order.{put}
use Rattle.lists.proofs.Order.{length-put, sum-put, all-put}
use Rattle.lists.proofs.Members.{member-all, all_without, rises-without, sum-without, length_without, rises-put}
use Rattle.tables.specs.Bounds.{SPANS}
use Rattle.tables.specs.Values.{Tables, buffer, with_free, with_live}
use Rattle.tables.specs.Steps.{◌>>=◌}
use Rattle.tables.specs.InsertFree.{from, put_rest, without_free}
use Rattle.tables.specs.Malloc.{hand_over}
use Rattle.tables.specs.declared.FreeRegion.{FreeRegion}
use Rattle.tables.specs.declared.LiveBuffer.{LiveBuffer}
use Rattle.tables.specs.declared.Outcome.{Outcome}
use Rattle.keeping.specs.Cover.{within, equal, cover_free, cover_live}
use Rattle.keeping.specs.Sound.{none, WholeRange, Kept}
use Rattle.keeping.specs.Holds.{Holds}
use Rattle.keeping.specs.Malloc.{Handing}
use Rattle.keeping.proofs.Whole.{whole_upper}
use Rattle.keeping.proofs.Counts.{few-spans, few-ceilings}
use Rattle.keeping.proofs.Rest.{cover-put_rest, ids-put_rest, length_put_none, length-put_rest, all-put_rest, rises-put_rest}
use Rattle.keeping.proofs.Counting.{none-starts}
use Rattle.keeping.proofs.Sounds.{sound-alone, Spans, sound-spans}

-- the free regions but `r`, then with the rest of `r`, and the live buffers with the one handed over
abbrev others : FreeRegion → Tables → List FreeRegion
others r t = without_free (from r) t.free

abbrev regions : ℕ → FreeRegion → Tables → List FreeRegion
regions n r t = put_rest n r (others r t)

abbrev buffers : ℕ → ℕ → FreeRegion → Tables → List LiveBuffer
buffers n s r t = put (λ b. b.start.0) (buffer (from r) n s) t.live

module _ {lost : ℕ → ℕ} (n s : ℕ) (r : FreeRegion) (t : Tables) (h : Handing lost n r t) where
  range : WholeRange t.fields.page (from r) r.size
  range = member-all (λ q. WholeRange t.fields.page q.start.0 q.size) r t.free h.member h.sound.free

  others-whole : All (λ q. WholeRange t.fields.page (from q) q.size) (others r t)
  others-whole = all_without from (λ q. WholeRange t.fields.page (from q) q.size) (from r) t.free h.sound.free

  rest-whole : n < r.size → WholeRange t.fields.page (from r + n) (r.size - n)
  rest-whole e = whole_upper n range h.size.aligned e

  -- no other region starts where the rest does
  rest-new : n < r.size → All (λ q. from q ≡ from r + n → ⊥) (others r t)
  rest-new e =
      none-starts from (λ q. q.size) t.fields.page (from r + n) (others r t) others-whole
      (sound-alone h.sound r h.member (from r + n) (omega arith) (omega arith)).0

  -- no buffer starts where the region does
  buffer-new : All (λ b. b.start.0 ≡ from r → ⊥) t.live
  buffer-new =
      none-starts (λ b. b.start.0) (λ b. b.size) t.fields.page (from r) t.live h.sound.live
      (sound-alone h.sound r h.member (from r) (omega arith) (omega (arith, range.size.positive))).1

  covers : (x : ℕ) → cover_free (regions n r t) x + cover_live (buffers n s r t) x ≡ cover_free t.free x + cover_live t.live x
  covers x =
      omega (
        arith,
        cover-put_rest n r (others r t) h.most x,
        sum-without from (λ q. within q.start.0 q.size x) 0 r t.free h.sound.free_rises h.member,
        sum-put (λ b. b.start.0) (λ b. within b.start.0 b.size x) (buffer (from r) n s) t.live,
      )

  hand-spans : Spans none none none none (regions n r t) (buffers n s r t) t
  hand-spans =
      record {
        free = all-put_rest n r (others r t) h.most (λ q. WholeRange t.fields.page (from q) q.size) rest-whole others-whole;
        live =
            all-put (λ b. b.start.0) (λ b. WholeRange t.fields.page b.start.0 b.size) (buffer (from r) n s) t.live
            (record { start = range.start; size = h.size })
            h.sound.live;
        free_rises =
            rises-put_rest n r (others r t) h.most 0 (omega (arith, range.start.positive)) rest-new
            (rises-without from (from r) 0 t.free h.sound.free_rises);
        live_rises = rises-put (λ b. b.start.0) 0 (buffer (from r) n s) t.live range.start.positive buffer-new h.sound.live_rises;
        covered = λ x. omega (arith, covers x);
        bared = λ x _. omega (arith, covers x);
        ids = λ i.
            omega (
              arith,
              h.sound.ids_once i,
              ids-put_rest n r (others r t) h.most i,
              sum-without from (λ q. equal q.id.0 i) 0 r t.free h.sound.free_rises h.member,
            );
        free_ids =
            all-put_rest n r (others r t) h.most (λ q. q.id.0 < t.fields.counter)
            (λ _. member-all (λ q. q.id.0 < t.fields.counter) r t.free h.member h.sound.free_ids)
            (all_without from (λ q. q.id.0 < t.fields.counter) (from r) t.free h.sound.free_ids);
      }

  spans : length (regions n r t) + length (buffers n s r t) ≤ SPANS
  spans =
      let fewer = length_without from 0 r t.free h.sound.free_rises h.member in
      let more = length-put (λ b. b.start.0) (buffer (from r) n s) t.live in
      ⊎_elim
      (λ e. omega (arith, fewer, more, length_put_none n r (others r t) h.most e, h.few.spans))
      (λ e. omega (arith, fewer, more, length-put_rest n r (others r t) h.most))
      h.room

  pub hand-kept : Kept lost (with_live (buffers n s r t) (with_free (regions n r t) t))
  hand-kept =
      record {
        sound = sound-spans h.sound hand-spans;
        ceilings = few-ceilings (omega arith) (few-spans (regions n r t) (buffers n s r t) h.few spans);
      }

-- Handing over never ends the call.
pub hands-over : (lost : ℕ → ℕ) (n s : ℕ) (r : FreeRegion) {E : Outcome → Tables → Type 0} → Holds (Handing lost n r) (hand_over n s r) (λ _. Kept lost) E
unfolding hand_over ◌>>=◌
hands-over lost n s r = record { leaves = λ xs k t h. hand-kept n s r t h }
