-- Open: a pool with no tables is kept, its first root is one hole, and initial pages are made there as room is made in any pool.
use mathlib.Core.Path.{◌≡◌, refl, ◌∙◌}
use mathlib.Core.Logic.{inl}
use mathlib.Core.Bool.{false, not}
use mathlib.Core.List.{[]}
use Prim.Native.Nat.{ℕ, ◌+◌, ◌-◌, ◌*◌, ◌<◌, ◌/◌, ◌%◌}
use native.Mathlib.Omega.{arith}
use native.Mathlib.Nat.{mul-div_cancel, mul-mod_left, mul-pos}
use borrow.Author.Tests.{eqb-false, ltb-false, not-false}
use lib.Dec.{ltb, eqb}
use lib.ListN.{length}
use Rattle.lists.proofs.Tests.{neither}
use Rattle.lists.proofs.Walks.{sum-some}
use Rattle.lists.proofs.Members.{member-all, sum-member}
use Rattle.tables.specs.Bounds.{PAGES}
use Rattle.tables.specs.Values.{Tables, address, no_tables}
use Rattle.tables.specs.Steps.{◌>>◌}
use Rattle.tables.specs.Driver.{must, sync}
use Rattle.tables.specs.MakeRoom.{make_room}
use Rattle.tables.specs.Open.{page_size, bad_configuration, open_steps}
use Rattle.tables.specs.WellFormed.{allowed}
use Rattle.tables.specs.declared.FreeRegion.{FreeRegion}
use Rattle.tables.specs.declared.Outcome.TheVariants.{Opened}
use Rattle.keeping.specs.Cover.{within, cover_roots}
use Rattle.keeping.specs.Sound.{none, WholeRange, Sound, Kept, Left}
use Rattle.keeping.specs.Holds.{Holds}
use Rattle.keeping.specs.MakeRoom.{TakesFrom}
use Rattle.keeping.specs.Open.{Configured}
use Rattle.keeping.proofs.Cover.{within_in, within_none}
use Rattle.keeping.proofs.Holes.{length-hole}
use Rattle.keeping.proofs.Sounds.{sound_as, sound_undropped}
use Rattle.keeping.proofs.Counts.{few-ceilings}
use Rattle.keeping.proofs.WellFormedTests.{allowed_of}
use Rattle.keeping.proofs.TakeRange.{Reserved, rooted, reserves-root}
use Rattle.keeping.proofs.MakeRoom.{Roomed, makes-room}
use Rattle.keeping.proofs.Holds.{holds-from, holds_to, holds_then, holds-give, holds_looked, holds-cond, holds-must, drives-sync}

-- 19 is what refuses every other configuration.
pub configured : (granularity override va initial : ℕ) → bad_configuration granularity override va initial ≡ false →
    Configured (page_size granularity override) va initial
unfolding bad_configuration
configured granularity override va initial e =
    let page = page_size granularity override in
    let a = (neither (eqb granularity 0) _ e).1 in
    let b = (neither (not (eqb (override % granularity) 0)) _ a).1 in
    let c = neither (not (allowed page va)) _ b in
    let d = neither (ltb PAGES initial) (ltb va (initial * page)) c.1 in
    let f = allowed_of page va (not-false (allowed page va) c.0) in
    record {
      positive = f.0;
      whole = f.1.0;
      small = f.1.1;
      few = ltb-false PAGES initial d.0;
      fits = ltb-false va (initial * page) d.1;
    }

-- An opened pool has its root.
pub record OpenedKept (t : Tables) : Type 0 where
  pub kept : Kept none t
  pub rooted : 0 < length t.roots

module _ (page va initial : ℕ) (c : Configured page va initial) where
  abbrev empty : Tables
  empty = no_tables page va

  pub empty-kept : Kept none empty
  empty-kept =
      record {
        sound =
            record {
              page = c.positive;
              va = c.whole;
              small = c.small;
              roots = tt;
              free = tt;
              live = tt;
              holes = tt;
              zombies = tt;
              pages = tt;
              free_rises = tt;
              live_rises = tt;
              holes_apart = omega arith;
              pages_rise = tt;
              roots_once = λ x. omega arith;
              covered = λ x. refl;
              pages_match = λ x h. refl;
              handles_once = λ h. omega arith;
              ids_once = λ i. omega arith;
              free_ids = tt;
              zombie_ids = tt;
            };
        ceilings = record { pages = omega arith; spans = omega arith; zombies = omega arith; holes = omega arith; roots = omega arith };
      }

  reserved-sound : (b : ℕ) (t : Tables) → Reserved none 0 empty b t → Sound none none none (rooted 0 b empty)
  reserved-sound b t w = rw w.tables at (sound_as w.sound (λ x. within_none b x) (λ x. refl))

  -- initial pages are asked for: the root's hole has room for them
  pub takes-from : 0 < initial → (b : ℕ) (t : Tables) → Reserved none 0 empty b t →
      TakesFrom none page 0 ((initial * page - 0) / page) (initial * page) (rooted 0 b empty)
  takes-from some b t w =
      let holes = length-hole (b + 0) (va - 0) [] in
      record {
        sound = reserved-sound b t w;
        size = record { positive = positive; aligned = mul-mod_left initial page };
        most = c.fits;
        few = record { pages = rw pages (omega (arith, c.few)); spans = omega arith; zombies = omega arith; holes = omega arith; roots = omega arith };
        zombies = omega arith;
        holes = omega arith;
        root = λ e. omega arith;
        known = record { page = refl; free = refl };
      }
    where
      positive : 0 < initial * page
      positive = mul-pos some c.positive

      pages : (initial * page - 0) / page ≡ initial
      pages = let e : initial * page - 0 ≡ initial * page = omega arith in rw e (mul-div_cancel initial c.positive)

  -- the root alone
  rooted-kept : (b : ℕ) (t : Tables) → Reserved none 0 empty b t → OpenedKept (rooted 0 b empty)
  rooted-kept b t w =
      let holes = length-hole (b + 0) (va - 0) [] in
      record {
        kept =
            record {
              sound = reserved-sound b t w;
              ceilings = record { pages = omega arith; spans = omega arith; zombies = omega arith; holes = omega arith; roots = omega arith };
            };
        rooted = omega arith;
      }

-- Initial pages are of a root, and as nothing was free, nothing is dropped.
roomed-kept : (n s : ℕ) (r : FreeRegion) (t : Tables) → Roomed none 0 n s r t → OpenedKept t
roomed-kept n s r t w =
    record {
      kept = record { sound = sound_undropped (within w.dropped.0 w.dropped.1) w.sound nothing; ceilings = few-ceilings (omega arith) w.few };
      rooted = sum-some (λ b. within b.0 t.fields.va a) t.roots held;
    }
  where
    nothing : (x : ℕ) → within w.dropped.0 w.dropped.1 x ≡ 0
    nothing x = let e : w.dropped.1 ≡ 0 = omega (arith, w.bounded.most) in rw e (within_none w.dropped.0 x)

    a : ℕ
    a = r.start.0

    held : 0 < cover_roots t.fields.va t.roots a
    held =
        let whole = member-all (λ q. WholeRange t.fields.page q.start.0 q.size) r t.free w.member w.sound.free in
        omega (
          arith,
          w.sound.covered a,
          sum-member (λ q. within q.start.0 q.size a) r t.free w.member,
          within_in a r.size a (omega arith) (omega (arith, whole.size.positive)),
        )

pub opens_kept : (page va initial stream : ℕ) → Configured page va initial →
    Holds (λ t. t ≡ no_tables page va) (open_steps initial stream) (λ _. OpenedKept) (Left none)
unfolding open_steps
opens_kept page va initial stream c =
    holds_then (Reserved none 0 u) (reserves-root none 0 u (empty-kept page va initial c) (omega arith) (inl refl))
    (λ b. holds_looked (λ v w.
    holds-from {P = λ t. t ≡ rooted 0 b u} (λ t e. e ∙ w.tables)
    (rw w.tables
    (holds_then (λ _. OpenedKept)
    (holds-cond (eqb initial 0)
    (λ e. holds-from (λ t e. rw e (rooted-kept page va initial c b v w)) (holds-give tt))
    (λ e. starts b v w (omega (arith, eqb-false initial 0 e))))
    (λ _. holds-give (Opened (address b) page))))))
  where
    u : Tables
    u = no_tables page va

    starts : (b : ℕ) (v : Tables) → Reserved none 0 u b v → 0 < initial →
        Holds (λ t. t ≡ rooted 0 b u) (make_room (initial * page) stream >> must (sync stream)) (λ _. OpenedKept) (Left none)
    starts b v w some =
        holds_then (λ _. OpenedKept)
        (holds-from (λ t e. rw e (takes-from page va initial c some b v w)) (holds_to (roomed-kept (initial * page) stream) (makes-room none page 0 (initial * page) stream)))
        (λ _. holds-must (drives-sync stream) (λ t w. tt) (λ k t w. w.kept.ceilings))
