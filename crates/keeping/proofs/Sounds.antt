-- How a change of one table, or of the free and the live together, keeps the tables sound: only the fields that speak of it are to be shown anew, and
-- the two equations by what the change moves between the table and what is in hand or bare.
use mathlib.Core.Path.{◌≡◌, refl}
use mathlib.Core.Logic.{⊎_elim}
use mathlib.Core.List.{List, [], ◌∷◌, ◌++◌}
use Prim.Native.Nat.{ℕ, ◌+◌, ◌-◌, ◌≤◌, ◌<◌, ◌%◌}
use native.Mathlib.Omega.{arith}
use lib.ListN.{length, get_or}
use Rattle.lists.specs.Tests.{All, Member}
use Rattle.lists.specs.Order.{Rises}
use Rattle.lists.proofs.Tests.{cases_lt, cases_eq, all_implies, all_append}
use Rattle.lists.proofs.Walks.{sum-append}
use Rattle.lists.proofs.Members.{member-all, member-at, sum-member, sum-without, without-keeps}
use Rattle.lists.proofs.Keys.{rises_next}
use Rattle.words.specs.declared.Address.{Address}
use Rattle.tables.specs.Bounds.{END}
use Rattle.tables.specs.Values.{Tables, address, with_free, with_live, with_holes, with_zombies, with_pages, with_roots, with_counter}
use Rattle.tables.specs.declared.FreeRegion.{FreeRegion}
use Rattle.tables.specs.declared.LiveBuffer.{LiveBuffer}
use Rattle.tables.specs.declared.Hole.{Hole}
use Rattle.tables.specs.declared.Zombie.{Zombie}
use Rattle.tables.specs.declared.Page.{Page}
use Rattle.tables.specs.InsertFree.{from, upto, without_free}
use Rattle.tables.specs.InsertHole.{insert_hole, Apart}
use Rattle.keeping.specs.Cover.{within, cover_free, cover_live, cover_holes, cover_zombies, cover_roots, pages_at, handles_at, ids_at}
use Rattle.keeping.specs.Sound.{Whole, WholeRange, Sound}
use Rattle.keeping.proofs.Cover.{within_in, within_none}
use Rattle.keeping.proofs.Counting.{cover-past}
use Rattle.keeping.proofs.Holes.{hole-none, all-hole, apart-hole, cover-hole}

-- What is in hand and what is lost are counted together.
sound-lost : {lost hand bare lost' hand' : ℕ → ℕ} {t : Tables} →
    Sound lost hand bare t → ((x : ℕ) → hand x + lost x ≡ hand' x + lost' x) → Sound lost' hand' bare t
sound-lost s e =
    record {
      page = s.page;
      va = s.va;
      small = s.small;
      roots = s.roots;
      free = s.free;
      live = s.live;
      holes = s.holes;
      zombies = s.zombies;
      pages = s.pages;
      free_rises = s.free_rises;
      live_rises = s.live_rises;
      holes_apart = s.holes_apart;
      pages_rise = s.pages_rise;
      roots_once = s.roots_once;
      covered = λ x. omega (arith, s.covered x, e x);
      pages_match = s.pages_match;
      handles_once = s.handles_once;
      ids_once = s.ids_once;
      free_ids = s.free_ids;
      zombie_ids = s.zombie_ids;
    }

-- What is in hand and is not put back is lost.
pub sound-drop : {lost hand bare : ℕ → ℕ} {t : Tables} (gone : ℕ → ℕ) →
    Sound lost (λ x. hand x + gone x) bare t → Sound (λ x. lost x + gone x) hand bare t
sound-drop gone s = sound-lost s (λ x. omega arith)

-- What is lost of nothing is not lost.
pub sound_undropped : {lost hand bare : ℕ → ℕ} {t : Tables} (gone : ℕ → ℕ) →
    Sound (λ x. lost x + gone x) hand bare t → ((x : ℕ) → gone x ≡ 0) → Sound lost hand bare t
sound_undropped gone s e = sound-lost s (λ x. omega (arith, e x))

-- `rs` and `bs` in place of the free regions and the live buffers of `t`: with what is then in hand, or bare, they cover what was covered.
pub record Spans (hand bare hand' bare' : ℕ → ℕ) (rs : List FreeRegion) (bs : List LiveBuffer) (t : Tables) : Type 0 where
  pub free : All (λ r. WholeRange t.fields.page r.start.0 r.size) rs
  pub live : All (λ b. WholeRange t.fields.page b.start.0 b.size) bs
  pub free_rises : Rises (λ r. r.start.0) 0 rs
  pub live_rises : Rises (λ b. b.start.0) 0 bs
  pub covered : (x : ℕ) → cover_free rs x + cover_live bs x + hand' x ≡ cover_free t.free x + cover_live t.live x + hand x
  pub bared : (x : ℕ) → x % t.fields.page ≡ 0 → cover_free rs x + cover_live bs x + bare' x ≡ cover_free t.free x + cover_live t.live x + bare x
  pub ids : (i : ℕ) → ids_at rs i ≤ 1
  pub free_ids : All (λ r. r.id.0 < t.fields.counter) rs

pub sound-spans : {lost hand bare hand' bare' : ℕ → ℕ} {rs : List FreeRegion} {bs : List LiveBuffer} {t : Tables} →
    Sound lost hand bare t → Spans hand bare hand' bare' rs bs t → Sound lost hand' bare' (with_live bs (with_free rs t))
sound-spans {t = t} h c =
    record {
      page = h.page;
      va = h.va;
      small = h.small;
      roots = h.roots;
      free = c.free;
      live = c.live;
      holes = h.holes;
      zombies = h.zombies;
      pages = h.pages;
      free_rises = c.free_rises;
      live_rises = c.live_rises;
      holes_apart = h.holes_apart;
      pages_rise = h.pages_rise;
      roots_once = h.roots_once;
      covered = λ x. omega (arith, h.covered x, c.covered x);
      pages_match = λ x e. omega (arith, h.pages_match x e, c.bared x e);
      handles_once = h.handles_once;
      ids_once = c.ids;
      free_ids = c.free_ids;
      zombie_ids = h.zombie_ids;
    }

module _ {lost hand bare : ℕ → ℕ} {t : Tables} (s : Sound lost hand bare t) where
  -- no address is in two places
  pub sound-once : (x : ℕ) →
      cover_free t.free x + cover_live t.live x + cover_holes t.holes x + cover_zombies t.zombies x + hand x + lost x ≤ 1
  sound-once x = omega (arith, s.covered x, s.roots_once x)

  -- What a free region holds, no other holds, nor a live buffer.
  pub sound-alone : (r : FreeRegion) → Member r t.free → (x : ℕ) → from r ≤ x → x < from r + r.size →
      (cover_free (without_free (from r) t.free) x ≡ 0) × (cover_live t.live x ≡ 0)
  sound-alone r m x p q =
      let held = within_in (from r) r.size x p q in
      let out = sum-without from (λ q. within q.start.0 q.size x) 0 r t.free s.free_rises m in
      (omega (arith, sound-once x), omega (arith, sound-once x))

  -- A free region ends where the next one starts, or lower.
  pub sound-next : (i : ℕ) (d : FreeRegion) → i + 1 < length t.free → upto (get_or t.free i d) ≤ from (get_or t.free (i + 1) d)
  sound-next i d h =
      let r = get_or t.free i d in
      let q = get_or t.free (i + 1) d in
      let above : from r < from q = rises_next from 0 t.free i d s.free_rises h in
      let here : Member q t.free = member-at t.free (i + 1) d h in
      let held = within_in (from q) q.size (from q) (omega arith) (omega (arith, (member-all _ q t.free here s.free).size.positive)) in
      let counted = sum-member (λ p. within p.start.0 p.size (from q)) q (without_free (from r) t.free)
      (without-keeps from (from r) q t.free here (λ e. omega arith)) in
      ⊎_elim
      (λ p. absurd (omega (arith, (sound-alone r (member-at t.free i d (omega arith)) (from q) (omega arith) p).0)))
      (λ p. p)
      (cases_lt (from q) (upto r))

  pub sound-free : {hand' bare' : ℕ → ℕ} (l : List FreeRegion) → All (λ r. WholeRange t.fields.page r.start.0 r.size) l →
      Rises (λ r. r.start.0) 0 l → ((x : ℕ) → cover_free l x + hand' x ≡ cover_free t.free x + hand x) →
      ((x : ℕ) → x % t.fields.page ≡ 0 → cover_free l x + bare' x ≡ cover_free t.free x + bare x) → ((i : ℕ) → ids_at l i ≤ 1) →
      All (λ r. r.id.0 < t.fields.counter) l → Sound lost hand' bare' (with_free l t)
  sound-free l whole rises covers matches once ids =
      sound-spans s
      (record {
        free = whole;
        live = s.live;
        free_rises = rises;
        live_rises = s.live_rises;
        covered = λ x. omega (arith, covers x);
        bared = λ x e. omega (arith, matches x e);
        ids = once;
        free_ids = ids;
      })

  pub sound-holes : {hand' : ℕ → ℕ} (l : List Hole) → All (λ h. WholeRange t.fields.page h.start.0 h.size) l → Apart 0 END l →
      ((x : ℕ) → cover_holes l x + hand' x ≡ cover_holes t.holes x + hand x) → Sound lost hand' bare (with_holes l t)
  sound-holes l whole apart covers =
      record {
        page = s.page;
        va = s.va;
        small = s.small;
        roots = s.roots;
        free = s.free;
        live = s.live;
        holes = whole;
        zombies = s.zombies;
        pages = s.pages;
        free_rises = s.free_rises;
        live_rises = s.live_rises;
        holes_apart = apart;
        pages_rise = s.pages_rise;
        roots_once = s.roots_once;
        covered = λ x. omega (arith, s.covered x, covers x);
        pages_match = s.pages_match;
        handles_once = s.handles_once;
        ids_once = s.ids_once;
        free_ids = s.free_ids;
        zombie_ids = s.zombie_ids;
      }

  pub sound-zombies : {hand' : ℕ → ℕ} (l : List Zombie) → All (λ z. WholeRange t.fields.page z.start.0 z.size) l →
      ((x : ℕ) → cover_zombies l x + hand' x ≡ cover_zombies t.zombies x + hand x) → All (λ z. z.id.0 < t.fields.counter) l →
      Sound lost hand' bare (with_zombies l t)
  sound-zombies l whole covers ids =
      record {
        page = s.page;
        va = s.va;
        small = s.small;
        roots = s.roots;
        free = s.free;
        live = s.live;
        holes = s.holes;
        zombies = whole;
        pages = s.pages;
        free_rises = s.free_rises;
        live_rises = s.live_rises;
        holes_apart = s.holes_apart;
        pages_rise = s.pages_rise;
        roots_once = s.roots_once;
        covered = λ x. omega (arith, s.covered x, covers x);
        pages_match = s.pages_match;
        handles_once = s.handles_once;
        ids_once = s.ids_once;
        free_ids = s.free_ids;
        zombie_ids = ids;
      }

  pub sound-pages : {bare' : ℕ → ℕ} (l : List Page) → All (λ g. Whole t.fields.page g.start.0) l → Rises (λ g. g.start.0) 0 l →
      ((x : ℕ) → x % t.fields.page ≡ 0 → pages_at l x + bare x ≡ pages_at t.pages x + bare' x) → ((h : ℕ) → handles_at l h ≤ 1) →
      Sound lost hand bare' (with_pages l t)
  sound-pages l whole rises matches once =
      record {
        page = s.page;
        va = s.va;
        small = s.small;
        roots = s.roots;
        free = s.free;
        live = s.live;
        holes = s.holes;
        zombies = s.zombies;
        pages = whole;
        free_rises = s.free_rises;
        live_rises = s.live_rises;
        holes_apart = s.holes_apart;
        pages_rise = rises;
        roots_once = s.roots_once;
        covered = s.covered;
        pages_match = λ x e. omega (arith, s.pages_match x e, matches x e);
        handles_once = once;
        ids_once = s.ids_once;
        free_ids = s.free_ids;
        zombie_ids = s.zombie_ids;
      }

  sound-roots : {hand' : ℕ → ℕ} (l : List Address) → All (λ a. Whole t.fields.page a.0 × (a.0 + t.fields.va ≤ END)) l →
      ((x : ℕ) → cover_roots t.fields.va l x ≤ 1) →
      ((x : ℕ) → cover_roots t.fields.va l x + hand x ≡ cover_roots t.fields.va t.roots x + hand' x) → Sound lost hand' bare (with_roots l t)
  sound-roots l whole once covers =
      record {
        page = s.page;
        va = s.va;
        small = s.small;
        roots = whole;
        free = s.free;
        live = s.live;
        holes = s.holes;
        zombies = s.zombies;
        pages = s.pages;
        free_rises = s.free_rises;
        live_rises = s.live_rises;
        holes_apart = s.holes_apart;
        pages_rise = s.pages_rise;
        roots_once = once;
        covered = λ x. omega (arith, s.covered x, covers x);
        pages_match = s.pages_match;
        handles_once = s.handles_once;
        ids_once = s.ids_once;
        free_ids = s.free_ids;
        zombie_ids = s.zombie_ids;
      }

  -- A root is added, and all of it comes into the hand.
  pub sound-root : (b : ℕ) → Whole t.fields.page b → b + t.fields.va ≤ END → ((x : ℕ) → within b t.fields.va x + cover_roots t.fields.va t.roots x ≤ 1) →
      Sound lost (λ x. within b t.fields.va x + hand x) bare (with_roots (t.roots ++ address b ∷ []) t)
  sound-root b whole fits once =
      sound-roots (t.roots ++ address b ∷ []) (all_append _ t.roots (address b ∷ []) s.roots ((whole, fits), tt))
      (λ x. omega (arith, once x, more x)) (λ x. omega (arith, more x))
    where
      more : (x : ℕ) → cover_roots t.fields.va (t.roots ++ address b ∷ []) x ≡ cover_roots t.fields.va t.roots x + within b t.fields.va x
      more x = omega (arith, sum-append (λ a. within a.0 t.fields.va x) t.roots (address b ∷ []))

  -- Ids below the counter stay below a greater one.
  pub sound-counter : (n : ℕ) → t.fields.counter ≤ n → Sound lost hand bare (with_counter n t)
  sound-counter n le =
      record {
        page = s.page;
        va = s.va;
        small = s.small;
        roots = s.roots;
        free = s.free;
        live = s.live;
        holes = s.holes;
        zombies = s.zombies;
        pages = s.pages;
        free_rises = s.free_rises;
        live_rises = s.live_rises;
        holes_apart = s.holes_apart;
        pages_rise = s.pages_rise;
        roots_once = s.roots_once;
        covered = s.covered;
        pages_match = s.pages_match;
        handles_once = s.handles_once;
        ids_once = s.ids_once;
        free_ids = all_implies (λ r. r.id.0 < t.fields.counter) (λ r. r.id.0 < n) (λ r h. omega arith) t.free s.free_ids;
        zombie_ids = all_implies (λ z. z.id.0 < t.fields.counter) (λ z. z.id.0 < n) (λ z h. omega arith) t.zombies s.zombie_ids;
      }

  -- A page is asked for only at page starts, so only there does it count which are bare.
  pub sound-bare : {bare' : ℕ → ℕ} → ((x : ℕ) → x % t.fields.page ≡ 0 → bare x ≡ bare' x) → Sound lost hand bare' t
  sound-bare e = sound-pages t.pages s.pages s.pages_rise (λ x h. omega (arith, e x h)) s.handles_once

  -- What is in hand is of a root, and so below 2^63.
  sound-below : (x : ℕ) → 0 < hand x → x < END
  sound-below x h =
      ⊎_elim (λ p. p)
      (λ p. absurd (omega (arith, s.covered x, cover-past (λ a. a.0) (λ a. t.fields.va) END x t.roots (all_implies _ _ (λ a w. w.1) t.roots s.roots) p)))
      (cases_lt x END)

  pub sound-range : (a n : ℕ) → 0 < n → ((x : ℕ) → within a n x ≤ hand x) → a + n ≤ END
  sound-range a n h le = omega (arith, sound-below (a + n - 1) (omega (arith, le (a + n - 1), within_in a n (a + n - 1) (omega arith) (omega arith))))

  -- What is in hand is in no hole.
  pub hand_once : (a n : ℕ) → ((x : ℕ) → within a n x ≤ hand x) → (x : ℕ) → within a n x + cover_holes t.holes x ≤ 1
  hand_once a n le x = omega (arith, le x, sound-once x)

  -- A range in hand becomes a hole.
  pub sound-hole : {hand' : ℕ → ℕ} (a n : ℕ) → ((x : ℕ) → hand x ≡ within a n x + hand' x) → (0 < n → WholeRange t.fields.page a n) →
      Sound lost hand' bare (with_holes (insert_hole a n t.holes) t)
  sound-hole a n held whole =
      ⊎_elim
      (λ e. rw (hole-none a n t.holes e) (sound-holes t.holes s.holes s.holes_apart (λ x. omega (arith, held x, nothing x e))))
      (λ e.
      let p : 0 < n = omega arith in
      let w = whole p in
      let le : (x : ℕ) → within a n x ≤ hand x = λ x. omega (arith, held x) in
      sound-holes (insert_hole a n t.holes) (all-hole t.fields.page a n t.holes w s.holes)
      (apart-hole a n 0 END t.holes s.holes_apart w.start.positive (sound-range a n p le) (hand_once a n le))
      (λ x. omega (arith, held x, cover-hole a n t.holes x)))
      (cases_eq n 0)
    where
      nothing : (x : ℕ) → n ≡ 0 → within a n x ≡ 0
      nothing x e = rw e (within_none a x)

-- What is in hand, and what is bare, may be said in another way.
pub sound_as : {lost hand bare hand' bare' : ℕ → ℕ} {t : Tables} →
    Sound lost hand bare t → ((x : ℕ) → hand x ≡ hand' x) → ((x : ℕ) → bare x ≡ bare' x) → Sound lost hand' bare' t
sound_as s h b = sound-bare (sound-lost s (λ x. omega (arith, h x))) (λ x _. b x)

-- No byte is dropped.
pub sound-drop-none : {lost hand bare : ℕ → ℕ} {t : Tables} → Sound lost hand bare t → Sound (λ x. lost x + within 0 0 x) hand bare t
sound-drop-none s = sound-drop (within 0 0) (sound_as s (λ x. omega (arith, within_none 0 x)) (λ x. refl))
