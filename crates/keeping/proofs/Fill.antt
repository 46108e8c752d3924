-- Fill. Where the free bytes fall short, the pages made become a region, with what it merges with; every other region is pulled whole, and what they
-- give is put right behind. Where the free bytes suffice, they fill the range.
use mathlib.Core.Path.{◌≡◌, refl}
use mathlib.Core.Logic.{◌⊎◌, inl, inr, ⊎_elim}
use mathlib.Core.List.{List, [], ◌∷◌}
use mathlib.Core.Option.{Option, some, none}
use Prim.Native.Nat.{ℕ, ◌+◌, ◌-◌, ◌≤◌, ◌<◌, ◌%◌}
use native.Mathlib.Omega.{arith}
use borrow.Author.Tests.{leb-true, leb-false, eqb-true, eqb-false}
use lib.Dec.{leb, eqb}
use lib.ListN.{length}
use Rattle.lists.specs.Tests.{Member}
use Rattle.lists.proofs.Walks.{sum-some}
use Rattle.lists.proofs.Members.{member-all, sum-without, sum-member}
use Rattle.tables.specs.Bounds.{SPANS}
use Rattle.tables.specs.Values.{Tables, with_free}
use Rattle.tables.specs.Steps.{◌>>=◌, ◌>>◌, give}
use Rattle.tables.specs.Driver.{must, access}
use Rattle.tables.specs.InsertFree.{from, upto, bytes, without_free, insert_free}
use Rattle.tables.specs.Pull.{pull_order, pull_in}
use Rattle.tables.specs.NewPages.{Room, insert_new}
use Rattle.tables.specs.MakeRoom.{fill}
use Rattle.tables.specs.declared.FreeRegion.{FreeRegion}
use Rattle.keeping.specs.Cover.{within}
use Rattle.keeping.specs.Sound as S
use Rattle.keeping.specs.Sound.{Whole, WholeRange, Sound, Left}
use Rattle.keeping.specs.Counts.{Few, Pullable, Known}
use Rattle.keeping.specs.Holds.{Holds}
use Rattle.keeping.specs.MakeRoom.{Made, Measured}
use Rattle.keeping.specs.Pull.{Pulling, Spare}
use Rattle.keeping.proofs.Cover.{within_in, within_none, within_cut}
use Rattle.keeping.proofs.Whole.{aligned_sub, whole-past}
use Rattle.keeping.proofs.Sounds.{sound_as, sound-drop, sound-drop-none}
use Rattle.keeping.proofs.NewPages.{making-ceilings, made-sound, made-whole}
use Rattle.keeping.proofs.InsertFree.{Inserting, Inserted, inserts-free-pullable}
use Rattle.keeping.proofs.PullOrder.{pulling-all, pulling-others}
use Rattle.keeping.proofs.PullIn.{PulledIn, pulls-in}
use Rattle.keeping.proofs.Holds.{holds-from, holds_to, holds_named, holds_then, holds-give, holds_looked, holds-cond, holds-must, drives-access}

-- What was missing is free as part of `r`; the rest of the range is in hand, and the other regions can be pulled.
pub record Newly (lost : ℕ → ℕ) (p f : ℕ) (o : Room) (r : FreeRegion) (t : Tables) : Type 0 where
  pub sound : Sound lost (within (o.start + o.missing) (o.size - o.missing)) S.none t
  pub member : Member r t.free
  pub stream : r.stream ≡ o.stream
  pub least : (0 < o.missing) × (o.missing ≤ r.size)
  pub few : Few 0 SPANS t
  pub room : (r.size ≡ o.missing) ⊎ (length t.free + length t.live ≤ SPANS - 1)
  pub known : Known p (f + o.missing) t
  pub ends : o.missing < o.size → upto r ≡ o.start + o.missing
  pub pullable : Pullable (with_free (without_free (from r) t.free) t)

-- `r` is free with at least `n` bytes on stream `s`, and a range of `d` bytes is dropped from all tables.
pub record Filled (lost : ℕ → ℕ) (n s d : ℕ) (r : FreeRegion) (t : Tables) : Type 0 where
  pub dropped : ℕ
  pub sound : Sound (λ x. lost x + within dropped d x) S.none S.none t
  pub member : Member r t.free
  pub stream : r.stream ≡ s
  pub size : Whole t.fields.page n
  pub most : n ≤ r.size
  pub few : Few 0 SPANS t
  pub room : (r.size ≡ n) ⊎ (length t.free + length t.live ≤ SPANS - 1)

module _ (lost : ℕ → ℕ) (p f : ℕ) (o : Room) where
  abbrev pub Ready : Option FreeRegion → Tables → Type 0
  Ready none t = (o.missing ≡ 0) × Made lost p f o t
  Ready (some r) t = Newly lost p f o r t

  -- the pages made are in hand, bare
  pub made-inserting : 0 < o.missing → (u : Tables) → Made lost p f o u →
      Inserting lost (within (o.start + o.missing) (o.size - o.missing)) S.none p f o.start o.missing u.free u
  made-inserting pos u w =
      record {
        sound = made-sound lost p f o.start o.size o.missing u w;
        range = made-whole lost p f o.start o.size o.missing u w pos;
        few = w.making.few;
        known = w.making.known;
        list = refl;
      }

  pub inserts-new : Holds (Made lost p f o) (insert_new o) Ready (Left lost)
  unfolding insert_new
  inserts-new =
      holds-cond (eqb o.missing 0) (λ e. holds-from (λ t w. (eqb-true o.missing 0 e, w)) (holds-give none))
      (λ e. inserts (omega (arith, eqb-false o.missing 0 e)))
    where
      a : ℕ
      a = o.start

      m : ℕ
      m = o.missing

      rest : ℕ → ℕ
      rest = within (a + m) (o.size - m)

      newly : 0 < m → (l : List FreeRegion) (r : FreeRegion) (t : Tables) → Inserted lost rest S.none p f a m o.stream l r t →
          Pullable (with_free (without_free (from r) t.free) t) → Newly lost p f o r t
      newly pos l r t i h =
          record {
            sound = i.sound;
            member = i.member;
            stream = i.stream;
            least = (pos, i.size);
            few = i.few;
            room = i.room;
            known = i.known;
            ends = λ lt. i.ends (within_in (a + m) (o.size - m) (a + m) (omega arith) (omega arith));
            pullable = h;
          }

      inserts : 0 < m →
          Holds (Made lost p f o) (must (access a m) >> (insert_free a m o.stream >>= λ r. give (some r))) Ready (Left lost)
      inserts pos =
          holds_then (λ _. Made lost p f o) (holds-must (drives-access a m) (λ t w. tt) (λ c t w. making-ceilings w.making))
          (λ _. holds_named (λ u w.
          holds-from (λ t e. rw e (made-inserting pos u w, w.making.pullable))
          (holds_then _ (inserts-free-pullable lost rest S.none p f a m o.stream u.free)
          (λ r. holds-from (λ t i. newly pos u.free r t i.0 i.1) (holds-give (some r))))))

-- The free bytes suffice: the whole range is filled from them, and nothing is dropped.
module _ (lost : ℕ → ℕ) (p f : ℕ) (o : Room) (g : Measured p f o) where
  abbrev end : ℕ
  end = o.start + o.missing

  filled-all : (r : FreeRegion) (t : Tables) → PulledIn lost S.none p end o.size o.stream [] r t → Filled lost o.size o.stream 0 r t
  filled-all r t w =
      let i = w.inserted in
      record {
        dropped = 0;
        sound = sound-drop-none i.sound;
        member = i.member;
        stream = i.stream;
        size = rw i.known.page g.size;
        most = i.size;
        few = i.few;
        room = i.room;
      }

  module _ (z : o.missing ≡ 0) where
    here : end ≡ o.start
    here = omega arith

    pub all-range : WholeRange p end o.size
    all-range = record { start = rw here g.start; size = g.size }

    pub all-due : (u : Tables) → Made lost p f o u →
        Pulling lost (λ x. S.none x + within end o.size x) S.none p o.size (SPANS - 1) [] (pull_order o.stream u.free) u
    all-due u w =
        let made : end - o.start ≡ 0 = omega arith in
        pulling-all lost (λ x. S.none x + within end o.size x) p o.stream o.size (SPANS - 1) u
        (sound_as w.sound (λ x. rw here (omega arith)) (λ x. rw made (within_none o.start x)))
        w.making.few w.making.known.page g.size.aligned w.making.pullable
        (omega (arith, w.making.known.free, g.rest))

    pub fills-all : Holds (Made lost p f o) (fill o none) (Filled lost o.size o.stream 0) (Left lost)
    unfolding fill
    fills-all =
        holds_looked (λ u w.
        holds-from (λ t e. rw e (all-due u w))
        (holds_to filled-all (pulls-in lost S.none p o.size (SPANS - 1) [] u.free o all-range (inl (omega arith)))))

-- Pages were missing: as many bytes as the new region merged with need not be pulled, and are dropped at the end of the range.
module _ (lost : ℕ → ℕ) (p f : ℕ) (o : Room) (g : Measured p f o) (r : FreeRegion) where
  -- how much the new region merged with
  abbrev pub extra : ℕ
  extra = r.size - o.missing

  -- the free regions have no more than was asked for
  pub newly-most : (t : Tables) → Newly lost p f o r t → r.size ≤ o.size
  newly-most t w = omega (arith, sum-member (λ q. q.size) r t.free w.member, w.known.free, g.rest, w.least.0)

  -- the region is enough
  filled-at-once : (t : Tables) → Newly lost p f o r t → o.size ≤ r.size → Filled lost o.size o.stream extra r t
  filled-at-once t w h =
      let most = newly-most t w in
      let e : o.size - o.missing ≡ extra = omega arith in
      record {
        dropped = o.start + o.missing;
        sound = sound-drop (within (o.start + o.missing) extra) (sound_as w.sound (λ x. rw e (omega arith)) (λ x. refl));
        member = w.member;
        stream = w.stream;
        size = rw w.known.page g.size;
        most = h;
        few = w.few;
        room = ⊎_elim (λ q. inl (omega (arith, g.rest))) (λ q. inr q) w.room;
      }

  module _ (u : Tables) (w : Newly lost p f o r u) (short : r.size < o.size) where
    abbrev pub place : ℕ
    place = o.start + o.missing

    abbrev pub lacks : ℕ
    lacks = o.size - r.size

    abbrev pub others : List FreeRegion
    others = without_free (from r) u.free

    -- what is left of the range
    abbrev pub left : ℕ → ℕ
    left = within (place + lacks) extra

    aligned : lacks % p ≡ 0
    aligned =
        let whole = member-all (λ q. WholeRange u.fields.page (from q) q.size) r u.free w.member w.sound.free in
        aligned_sub p o.size r.size (omega arith) g.size.aligned (rw w.known.page at whole.size.aligned)

    -- the others have just what lacks
    others-all : lacks ≡ bytes others
    others-all = omega (arith, sum-without from (λ q. q.size) 0 r u.free w.sound.free_rises w.member, w.known.free, g.rest, w.least.0)

    others-some : 0 < length others
    others-some = sum-some (λ q. q.size) others (omega (arith, others-all))

    pub behind-due : Pulling lost (λ x. left x + within place lacks x) S.none p lacks SPANS (r ∷ []) (pull_order o.stream others) u
    behind-due =
        let size : o.size - o.missing - lacks ≡ extra = omega (arith, w.least.1) in
        pulling-others lost _ p o.stream lacks SPANS u
        (sound_as w.sound (λ x. rw size at (cut x)) (λ x. refl))
        w.few w.known.page aligned r w.member w.pullable (omega (arith, others-all))
      where
        cut : (x : ℕ) → within place (o.size - o.missing) x ≡ within (place + lacks) (o.size - o.missing - lacks) x + within place lacks x
        cut x = omega (arith, within_cut place (o.size - o.missing) lacks x (omega (arith, w.least.1)))

    filled-behind : (q : FreeRegion) (t : Tables) → PulledIn lost left p place lacks o.stream (r ∷ []) q t →
        Filled lost o.size o.stream extra q t
    filled-behind q t v =
        let i = v.inserted in
        let grown : r.size + lacks ≤ q.size = i.grows r v.kept.0 w.stream (w.ends (omega (arith, w.least.1))) in
        record {
          dropped = place + lacks;
          sound = sound-drop left (sound_as i.sound (λ x. omega arith) (λ x. refl));
          member = i.member;
          stream = i.stream;
          size = rw i.known.page g.size;
          most = omega arith;
          few = i.few;
          room = ⊎_elim (λ e. absurd (omega (arith, w.least))) (λ e. inr e) i.room;
        }

    pub behind-range : WholeRange p place lacks
    behind-range =
        record {
          start = whole-past o.missing g.start g.pages;
          size = record { positive = omega arith; aligned = aligned };
        }

    -- every other region is pulled whole
    pub behind-spare : Spare lacks SPANS others
    behind-spare = inr (others-all, (others-some, omega arith))

    fills-behind : Holds (λ t. t ≡ u) (pull_in o lacks others) (Filled lost o.size o.stream extra) (Left lost)
    fills-behind =
        holds-from (λ t e. rw e behind-due)
        (holds_to filled-behind (pulls-in lost left p lacks SPANS (r ∷ []) others o behind-range behind-spare))

  -- What is dropped is as much as the new region merged with.
  pub fills-rest : Holds (Newly lost p f o r) (fill o (some r)) (Filled lost o.size o.stream extra) (Left lost)
  unfolding fill
  fills-rest =
      holds_looked (λ u w.
      holds-cond (leb o.size r.size)
      (λ e. holds-from (λ t q. rw q (filled-at-once u w (leb-true o.size r.size e))) (holds-give r))
      (λ e. fills-behind u w (leb-false o.size r.size e)))
