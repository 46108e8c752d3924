-- Make room: a range is taken, the missing pages are made in it, and the free bytes fill the rest. Less than the range is used where the new pages merge
-- with what was free.
use mathlib.Core.Path.{◌≡◌, refl}
use mathlib.Core.Logic.{◌⊎◌, ⊎_elim}
use mathlib.Core.Option.{Option, some, none}
use Prim.Native.Nat.{ℕ, ◌+◌, ◌-◌, ◌≤◌, ◌%◌, ◌/◌}
use native.Mathlib.Omega.{arith}
use native.Mathlib.Nat.{div-add-mod', zero-mod}
use lib.ListN.{length}
use Rattle.lists.specs.Tests.{Member}
use Rattle.lists.proofs.Tests.{cases_lt}
use Rattle.tables.specs.Bounds.{SPANS}
use Rattle.tables.specs.Values.{Tables}
use Rattle.tables.specs.Steps.{◌>>=◌, ◌>>◌}
use Rattle.tables.specs.InsertFree.{bytes}
use Rattle.tables.specs.NewPages.{Room, make_pages, insert_new}
use Rattle.tables.specs.MakeRoom.{fill, make_room}
use Rattle.tables.specs.declared.FreeRegion.{FreeRegion}
use Rattle.keeping.specs.Cover.{within}
use Rattle.keeping.specs.Sound as S
use Rattle.keeping.specs.Sound.{Whole, Sound, Left}
use Rattle.keeping.specs.Counts.{Few}
use Rattle.keeping.specs.Holds.{Holds}
use Rattle.keeping.specs.MakeRoom.{TakesFrom, PagesTo, Made, Measured}
use Rattle.keeping.proofs.Whole.{aligned-rest, aligned_sub, whole-bytes}
use Rattle.keeping.proofs.TakeRange.{TakenRange, takes-range}
use Rattle.keeping.proofs.NewPages.{pages-begin, makes-missing}
use Rattle.keeping.proofs.Fill.{Newly, Filled, Ready, inserts-new, newly-most, fills-all, fills-rest}
use Rattle.keeping.proofs.Holds.{holds-from, holds_to, holds_named, holds_then, holds_looked}

-- At most what was free is dropped, and nothing where the free bytes suffice.
pub record Dropped (f n d : ℕ) : Type 0 where
  pub most : d ≤ f
  pub enough : n ≤ f → d ≡ 0

-- What make room leaves, where `f` bytes were free: `r` has at least `n` bytes on stream `s`. `dropped` is a range that is dropped from all tables, start
-- and size.
pub record Roomed (lost : ℕ → ℕ) (f n s : ℕ) (r : FreeRegion) (t : Tables) : Type 0 where
  pub dropped : ℕ × ℕ
  pub bounded : Dropped f n dropped.1
  pub sound : Sound (λ x. lost x + within dropped.0 dropped.1 x) S.none S.none t
  pub member : Member r t.free
  pub stream : r.stream ≡ s
  pub size : Whole t.fields.page n
  pub most : n ≤ r.size
  pub few : Few 0 SPANS t
  pub room : (r.size ≡ n) ⊎ (length t.free + length t.live ≤ SPANS - 1)

-- what is dropped, within its bound
pub filled-roomed : (lost : ℕ → ℕ) (f n s d : ℕ) (r : FreeRegion) (t : Tables) → Dropped f n d → Filled lost n s d r t → Roomed lost f n s r t
filled-roomed lost f n s d r t h w =
    record {
      dropped = (w.dropped, d);
      bounded = h;
      sound = w.sound;
      member = w.member;
      stream = w.stream;
      size = w.size;
      most = w.most;
      few = w.few;
      room = w.room;
    }

-- what the new region has past the missing pages was free before
pub newly-dropped : (lost : ℕ → ℕ) (p f : ℕ) (o : Room) → Measured p f o → (r : FreeRegion) (t : Tables) → Newly lost p f o r t →
    Dropped f o.size (r.size - o.missing)
newly-dropped lost p f o g r t w =
    let most = newly-most lost p f o g r t w in
    record { most = omega (arith, g.rest); enough = λ h. absurd (omega (arith, g.rest, w.least.0)) }

fills : (lost : ℕ → ℕ) (p f : ℕ) (o : Room) → Measured p f o → (x : Option FreeRegion) →
    Holds (Ready lost p f o x) (fill o x) (Roomed lost f o.size o.stream) (Left lost)
fills lost p f o g none =
    holds_named (λ u w.
    holds-from (λ t e. rw e w.1)
    (holds_to (λ r t. filled-roomed lost f o.size o.stream 0 r t (record { most = omega arith; enough = λ h. refl })) (fills-all lost p f o g w.0)))
fills lost p f o g (some r) =
    holds_named (λ u w.
    holds-from (λ t e. rw e w)
    (holds_to (λ q t. filled-roomed lost f o.size o.stream (r.size - o.missing) q t (newly-dropped lost p f o g r u w)) (fills-rest lost p f o g r)))

-- the free regions are of whole pages, and so is what is missing
pub aligned-missing : (lost : ℕ → ℕ) (p f k n : ℕ) (t : Tables) → TakesFrom lost p f k n t → (n - f) % p ≡ 0
aligned-missing lost p f k n t w =
    ⊎_elim
    (λ h. aligned_sub p n f (omega arith) size.aligned (rw (w.known.page, w.known.free) at bytes-aligned))
    (λ h. let e : n - f ≡ 0 = omega arith in rw e (zero-mod p))
    (cases_lt f n)
  where
    size : Whole p n
    size = rw w.known.page at w.size

    bytes-aligned : bytes t.free % t.fields.page ≡ 0
    bytes-aligned = aligned-rest t.fields.page n (bytes t.free) w.size.aligned (whole-bytes t.fields.page n t.free w.size w.sound.free).aligned

module _ (lost : ℕ → ℕ) (p f n s : ℕ) where
  abbrev pub count : ℕ
  count = (n - f) / p

  -- the room of the range from `a` on
  abbrev pub taken : ℕ → Room
  taken a = record { start = a; size = n; missing = n - f; stream = s }

  module _ (size : Whole p n) (pages : (n - f) % p ≡ 0) (a : ℕ) where
    -- the range is taken, and no page of it is made
    pub taken-begins : (u : Tables) → TakenRange lost p f count n a u → PagesTo lost p f count a n a u
    taken-begins u w =
        pages-begin lost p f count a n u w.sound w.start (rw w.making.known.page size) (omega (arith, div-add-mod' (n - f) p)) w.making

    pub taken-measured : (u : Tables) → TakenRange lost p f count n a u → Measured p f (taken a)
    taken-measured u w = record { start = rw w.making.known.page at w.start; size = size; pages = pages; rest = refl }

    makes-taken :
        Holds (TakenRange lost p f count n a) (make_pages count (taken a) a >> (insert_new (taken a) >>= λ r. fill (taken a) r)) (Roomed lost f n s) (Left lost)
    makes-taken =
        holds_named (λ u w.
        holds-from (λ t e. rw e (taken-begins u w))
        (holds_then (λ _. Made lost p f (taken a)) (makes-missing lost p f (taken a) pages)
        (λ _. holds_then (Ready lost p f (taken a)) (inserts-new lost p f (taken a)) (fills lost p f (taken a) (taken-measured u w)))))

  pub makes-room : Holds (TakesFrom lost p f count n) (make_room n s) (Roomed lost f n s) (Left lost)
  unfolding make_room
  makes-room =
      holds_looked (λ u w.
      holds-from {P = TakesFrom lost p f count n} (λ t e. rw e w)
      (rw (w.known.page, w.known.free)
      (holds_then (TakenRange lost p f count n) (takes-range lost p f count n)
      (makes-taken (rw w.known.page at w.size) (aligned-missing lost p f count n u w)))))
