-- Insert free: the range in hand and the regions that it merges with become one region of the free table, which covers what they covered; a failed
-- record leaves the others only.
use mathlib.Core.Path.{◌≡◌, refl, ap, sym, subst}
use mathlib.Core.Logic.{◌⊎◌, inl, inr, ⊎_elim}
use mathlib.Core.Bool.{true, not}
use mathlib.Core.List.{List, [], ◌∷◌}
use Prim.Native.Nat.{ℕ, suc, ◌+◌, ◌-◌, ◌≤◌, ◌<◌}
use native.Mathlib.Omega.{arith}
use lib.ListN.{length}
use Rattle.lists.specs.Tests.{All, Member, filter}
use Rattle.lists.specs.Order.{without, Rises}
use Rattle.lists.specs.Walks.{sum}
use Rattle.lists.proofs.Tests.{cases_eq, all_filter, all_implies}
use Rattle.lists.proofs.Order.{sum-put, length-put, all-put}
use Rattle.lists.proofs.Walks.{sum-filter, sum-none}
use Rattle.lists.proofs.Members.{member_filter, filter-member, member-put, put-member, rises-put, length_without, sum-member}
use Rattle.lists.proofs.Filters.{all-passed, rises-filter, length_filters}
use Rattle.tables.specs.Bounds.{HOLES, SPANS, ZOMBIES}
use Rattle.tables.specs.Values.{Tables, with_free, with_counter}
use Rattle.tables.specs.InsertFree.{from, upto, bytes, put_free, without_free, merges, merged, insert_free}
use Rattle.tables.specs.declared.FreeRegion.{FreeRegion}
use Rattle.keeping.specs.Cover.{within, equal, cover_free, ids_at}
use Rattle.keeping.specs.Sound.{WholeRange, Sound, Ceilings, Left}
use Rattle.keeping.specs.Counts.{Few, Pullable, Known}
use Rattle.keeping.specs.Holds.{Holds}
use Rattle.keeping.proofs.Holds.{
  holds-from,
  holds_to,
  holds_then,
  holds-give,
  holds_looked,
  holds-change,
  holds-known,
  holds-must,
  drives-record,
}
use Rattle.keeping.proofs.Cover.{within_in, equal-other, equal_le}
use Rattle.keeping.proofs.Sounds.{sound-free, sound-counter}
use Rattle.keeping.proofs.Whole.{whole-least, whole-bytes}
use Rattle.keeping.proofs.Counting.{none-starts}
use Rattle.keeping.proofs.Regions.{Touches, merges_touches, merges_previous, Beside, beside, cover-merged, ends-merged}

-- before: the range is in hand, and its pages are active beside what free and live say
pub record Inserting (lost hand bare : ℕ → ℕ) (p f a n : ℕ) (l : List FreeRegion) (t : Tables) : Type 0 where
  pub sound : Sound lost (λ x. hand x + within a n x) (λ x. bare x + within a n x) t
  pub range : WholeRange t.fields.page a n
  pub few : Few 0 (SPANS - 1) t
  pub known : Known p f t
  pub list : t.free ≡ l

-- after: `r` is free
pub record Inserted (lost hand bare : ℕ → ℕ) (p f a n s : ℕ) (l : List FreeRegion) (r : FreeRegion) (t : Tables) : Type 0 where
  pub sound : Sound lost hand bare t
  pub member : Member r t.free
  pub stream : r.stream ≡ s
  pub size : n ≤ r.size
  pub few : Few 0 SPANS t
  -- a merge leaves room for a tail
  pub room : (r.size ≡ n) ⊎ (length t.free + length t.live ≤ SPANS - 1)
  pub known : Known p (f + n) t
  -- nothing follows where the next address is in hand
  pub ends : hand (a + n) ≡ 1 → r.start.0 + r.size ≡ a + n
  -- a previous one is merged
  pub grows : (q : FreeRegion) → Member q l → q.stream ≡ s → q.start.0 + q.size ≡ a → q.size + n ≤ r.size
  -- the others were there before, and are no more than before
  pub others : (q : FreeRegion) → Member q t.free → (q ≡ r) ⊎ Member q l
  pub fewer : length (without (λ q. q.start.0) r.start.0 t.free) ≤ length l

-- the regions that are merged, and the others
abbrev near : ℕ → ℕ → ℕ → Tables → List FreeRegion
near a n s u = filter (merges a n s) u.free

abbrev rest : ℕ → ℕ → ℕ → Tables → List FreeRegion
rest a n s u = filter (λ q. not (merges a n s q)) u.free

abbrev new : ℕ → ℕ → ℕ → Tables → FreeRegion
new a n s u = merged a n s u.fields.counter (near a n s u)

-- what is left where the record fails, and what is reached where it does not
abbrev taken : ℕ → ℕ → ℕ → Tables → Tables
taken a n s u = with_free (rest a n s u) u

abbrev done : ℕ → ℕ → ℕ → Tables → Tables
done a n s u = with_counter (u.fields.counter + 1) (with_free (put_free (new a n s u) (rest a n s u)) u)

abbrev WholeIn : Tables → FreeRegion → Type 0
WholeIn u q = WholeRange u.fields.page q.start.0 q.size

-- from the tables `u` on
module _ (lost hand bare : ℕ → ℕ) (p f a n s : ℕ) (l : List FreeRegion) (u : Tables) (i : Inserting lost hand bare p f a n l u) where
  parts : (g : FreeRegion → ℕ) → sum g (near a n s u) + sum g (rest a n s u) ≡ sum g u.free
  parts g = sum-filter g (merges a n s) u.free

  once : (x : ℕ) → within a n x + cover_free u.free x + hand x ≤ 1
  once x = omega (arith, i.sound.covered x, i.sound.roots_once x)

  whole_near : All (WholeIn u) (near a n s u)
  whole_near = all_filter (WholeIn u) (merges a n s) u.free i.sound.free

  whole-rest : All (WholeIn u) (rest a n s u)
  whole-rest = all_filter (WholeIn u) (λ q. not (merges a n s q)) u.free i.sound.free

  whole-new : WholeIn u (new a n s u)
  whole-new = record {
    start = whole-least u.fields.page a (near a n s u) i.range.start whole_near;
    size = whole-bytes u.fields.page n (near a n s u) i.range.size whole_near;
  }

  besides : Beside a n (near a n s u)
  besides =
      beside
      a
      n
      u.fields.page
      0
      (near a n s u)
      i.range.size.positive
      (rises-filter from (merges a n s) 0 u.free i.sound.free_rises)
      whole_near
      (λ x. omega (arith, once x, parts (λ r. within r.start.0 r.size x)))
      (all_implies (λ q. merges a n s q ≡ true) (Touches a n) (merges_touches a n s) (near a n s u) (all-passed (merges a n s) u.free))

  -- the range moves from the hand into the free table
  cover_done : (x : ℕ) → cover_free (done a n s u).free x ≡ within a n x + cover_free u.free x
  cover_done x =
      let g : FreeRegion → ℕ = λ r. within r.start.0 r.size x in
      omega (arith, sum-put from g (new a n s u) (rest a n s u), cover-merged a n (near a n s u) besides x, parts g)

  new_apart : All (λ q. from q ≡ from (new a n s u) → ⊥) (rest a n s u)
  new_apart =
      let x = from (new a n s u) in
      let g : FreeRegion → ℕ = λ r. within r.start.0 r.size x in
      none-starts from (λ q. q.size) u.fields.page x (rest a n s u) whole-rest
      (omega (arith, once x, parts g, cover-merged a n (near a n s u) besides x, within_in x (new a n s u).size x (omega arith) (omega (arith, whole-new.size.positive))))

  rises_done : Rises from 0 (done a n s u).free
  rises_done =
      rises-put from 0 (new a n s u) (rest a n s u) whole-new.start.positive new_apart
      (rises-filter from (λ q. not (merges a n s q)) 0 u.free i.sound.free_rises)

  -- the counter is no region's id
  ids_done : (k : ℕ) → ids_at (done a n s u).free k ≤ 1
  ids_done k =
      ⊎_elim
      (λ e. omega (arith, put-ids, equal_le u.fields.counter k, rw e at fresh))
      (λ e. omega (arith, put-ids, equal-other u.fields.counter k e, parts (λ r. equal r.id.0 k), i.sound.ids_once k))
      (cases_eq u.fields.counter k)
    where
      put-ids : ids_at (done a n s u).free k ≡ equal u.fields.counter k + ids_at (rest a n s u) k
      put-ids = sum-put from (λ r. equal r.id.0 k) (new a n s u) (rest a n s u)

      fresh : ids_at (rest a n s u) u.fields.counter ≡ 0
      fresh =
          sum-none (λ r. equal r.id.0 u.fields.counter) (rest a n s u)
          (all_filter (λ r. equal r.id.0 u.fields.counter ≡ 0) (λ q. not (merges a n s q)) u.free
          (all_implies (λ r. r.id.0 < u.fields.counter) (λ r. equal r.id.0 u.fields.counter ≡ 0) (λ r h. equal-other r.id.0 u.fields.counter (λ e. omega arith)) u.free i.sound.free_ids))

  sound_done : Sound lost hand bare (done a n s u)
  sound_done =
      sound-free (sound-counter i.sound (u.fields.counter + 1) (omega arith)) (put_free (new a n s u) (rest a n s u))
      (all-put from (WholeIn u) (new a n s u) (rest a n s u) whole-new whole-rest)
      rises_done
      (λ x. omega (arith, cover_done x))
      (λ x h. omega (arith, cover_done x))
      ids_done
      (all-put from (λ r. r.id.0 < u.fields.counter + 1) (new a n s u) (rest a n s u) (omega arith)
      (all_filter (λ r. r.id.0 < u.fields.counter + 1) (λ q. not (merges a n s q)) u.free
      (all_implies (λ r. r.id.0 < u.fields.counter) (λ r. r.id.0 < u.fields.counter + 1) (λ r h. omega arith) u.free i.sound.free_ids)))

  length_rest : length (near a n s u) + length (rest a n s u) ≡ length u.free
  length_rest = length_filters (merges a n s) u.free

  length_done : length (done a n s u).free ≡ suc (length (rest a n s u))
  length_done = length-put from (new a n s u) (rest a n s u)

  ceilings-taken : Ceilings (taken a n s u)
  ceilings-taken = record {
    pages = omega arith;
    spans = omega (arith, length_rest);
    zombies = i.few.zombies;
    holes = i.few.holes;
    roots = i.few.roots;
  }

  room_done : ((new a n s u).size ≡ n) ⊎ (length (done a n s u).free + length u.live ≤ SPANS - 1)
  room_done = go (near a n s u) length_rest
    where
      go : (k : List FreeRegion) → length k + length (rest a n s u) ≡ length u.free →
          (n + bytes k ≡ n) ⊎ (length (done a n s u).free + length u.live ≤ SPANS - 1)
      go [] h = inl (omega arith)
      go (q ∷ k) h = inr (omega (arith, length_done))

  ends_done : hand (a + n) ≡ 1 → upto (new a n s u) ≡ a + n
  ends_done h =
      ends-merged a n (near a n s u) besides
      (none-starts from (λ q. q.size) u.fields.page (a + n) (near a n s u) whole_near (omega (arith, once (a + n), parts (λ r. within r.start.0 r.size (a + n)))))

  grows_done : (q : FreeRegion) → Member q u.free → q.stream ≡ s → upto q ≡ a → q.size + n ≤ (new a n s u).size
  grows_done q m e h = omega (arith, sum-member (λ r. r.size) q (near a n s u) (filter-member (merges a n s) q u.free m (merges_previous a n s q e h)))

  inserted_done : Inserted lost hand bare p f a n s l (new a n s u) (done a n s u)
  inserted_done = record {
    sound = sound_done;
    member = put-member from (new a n s u) (rest a n s u);
    stream = refl;
    size = omega arith;
    few = record {
      pages = i.few.pages;
      spans = omega (arith, length_rest, length_done);
      zombies = i.few.zombies;
      holes = i.few.holes;
      roots = i.few.roots;
    };
    room = room_done;
    known = record {
      page = i.known.page;
      free = omega (arith, sum-put from (λ r. r.size) (new a n s u) (rest a n s u), parts (λ r. r.size), i.known.free);
    };
    ends = ends_done;
    grows = λ q m. grows_done q (rw i.list m);
    others = λ q m.
        ⊎_elim (λ e. inl e) (λ k. inr (rw i.list at (member_filter (λ q. not (merges a n s q)) q u.free k).0))
        (member-put from q (new a n s u) (rest a n s u) m);
    fewer = omega (
      arith,
      length_without from 0 (new a n s u) (done a n s u).free rises_done (put-member from (new a n s u) (rest a n s u)),
      length_done,
      length_rest,
      ap length i.list,
    );
  }

-- Insert free, and whatever else is true of the tables that speaks of neither the free table nor the counter.
pub inserts-free-and : (R : Tables → Type 0) → ((k : List FreeRegion) (c : ℕ) (t : Tables) → R t → R (with_counter c (with_free k t))) →
    (lost hand bare : ℕ → ℕ) (p f a n s : ℕ) (l : List FreeRegion) →
    Holds (λ t. Inserting lost hand bare p f a n l t × R t) (insert_free a n s) (λ r t. Inserted lost hand bare p f a n s l r t × R t) (Left lost)
unfolding insert_free
inserts-free-and R keeps lost hand bare p f a n s l =
    holds_looked (λ u i.
    let r = new a n s u in
    let reached : Tables = with_free (put_free r (rest a n s u)) u in
    holds_then (λ _ t. t ≡ taken a n s u) (holds-known (λ t. with_free (filter (λ q. not (merges a n s q)) t.free) t) u) (λ _.
    holds_then (λ _ t. t ≡ taken a n s u)
    (holds-must (drives-record u.fields.counter s) (λ t e. tt) (λ c t e. subst Ceilings (sym e) (ceilings-taken lost hand bare p f a n s l u i.0)))
    (λ _.
    holds_then (λ _ t. t ≡ reached) (holds-known (λ t. with_free (put_free r t.free) t) (taken a n s u)) (λ _.
    holds_then (λ _ t. t ≡ done a n s u) (holds-known (λ t. with_counter (t.fields.counter + 1) t) reached) (λ _.
    holds-from
    (λ t e.
    subst (λ t. Inserted lost hand bare p f a n s l r t × R t) (sym e)
    (inserted_done lost hand bare p f a n s l u i.0, keeps (put_free r (rest a n s u)) (u.fields.counter + 1) u i.1))
    (holds-give r))))))

pub inserts-free : (lost hand bare : ℕ → ℕ) (p f a n s : ℕ) (l : List FreeRegion) →
    Holds (Inserting lost hand bare p f a n l) (insert_free a n s) (Inserted lost hand bare p f a n s l) (Left lost)
inserts-free lost hand bare p f a n s l =
    holds-from (λ t i. (i, tt)) (holds_to (λ r t q. q.0) (inserts-free-and (λ _. Unit {0}) (λ k c t q. tt) lost hand bare p f a n s l))

-- While room is made, what was pullable is so again once the region is taken out.
pub inserts-free-pullable : (lost hand bare : ℕ → ℕ) (p f a n s : ℕ) (l : List FreeRegion) →
    Holds
    (λ t. Inserting lost hand bare p f a n l t × Pullable t)
    (insert_free a n s)
    (λ r t. Inserted lost hand bare p f a n s l r t × Pullable (with_free (without_free r.start.0 t.free) t))
    (Left lost)
inserts-free-pullable lost hand bare p f a n s l =
    holds-from (λ t i. (i.0, (omega (arith, i.1.zombies, ap length i.0.list), omega (arith, i.1.holes, ap length i.0.list))))
    (holds_to (λ r t q. (q.0, record { zombies = omega (arith, q.0.fewer, q.1.0); holes = omega (arith, q.0.fewer, q.1.1) }))
    (inserts-free-and
    (λ t. (length t.zombies + length l ≤ ZOMBIES) × (length t.zombies + length l + length t.holes ≤ HOLES))
    (λ k c t q. q)
    lost hand bare p f a n s l))

-- At most one id is spent.
pub insert-counts : (a n s c : ℕ) → Holds (λ t. t.fields.counter ≡ c) (insert_free a n s) (λ _ t. t.fields.counter ≤ c + 1) (λ _ t. t.fields.counter ≤ c + 1)
unfolding insert_free
insert-counts a n s c =
    holds_looked (λ u e.
    holds-from (λ t q. rw q e)
    (holds_then (λ _ t. t.fields.counter ≡ c) (holds-change _ (λ t q. q)) (λ _.
    holds_then (λ _ t. t.fields.counter ≡ c) (holds-must (drives-record u.fields.counter s) (λ t q. omega arith) (λ k t q. omega arith)) (λ _.
    holds_then (λ _ t. t.fields.counter ≡ c) (holds-change _ (λ t q. q)) (λ _.
    holds_then (λ _ t. t.fields.counter ≤ c + 1) (holds-change _ (λ t q. omega arith)) (λ _. holds-give _))))))
