-- The ranges of the four tables as one list: what they cover, and what holds of each of them.
use mathlib.Core.Path.{◌≡◌, ◌∙◌}
use mathlib.Core.List.{List, map, ◌++◌}
use Prim.Native.Nat.{ℕ, ◌+◌}
use native.Mathlib.Omega.{arith}
use Rattle.lists.specs.Tests.{All}
use Rattle.lists.specs.Order.{sorted}
use Rattle.lists.proofs.Tests.{all_append, all_first, all_second}
use Rattle.lists.proofs.Maps.{all_map, all-unmap, sum-map}
use Rattle.lists.proofs.Order.{all-sorted, sum-sorted}
use Rattle.lists.proofs.Walks.{sum-append}
use Rattle.tables.specs.Values.{Tables}
use Rattle.tables.specs.WellFormed.{Range, range, spans, ranges, holes_in}
use Rattle.tables.specs.declared.FreeRegion.{FreeRegion}
use Rattle.tables.specs.declared.LiveBuffer.{LiveBuffer}
use Rattle.tables.specs.declared.Hole.{Hole}
use Rattle.tables.specs.declared.Zombie.{Zombie}
use Rattle.keeping.specs.Cover.{within, cover_free, cover_live, cover_holes, cover_zombies, cover_roots}
use Rattle.keeping.proofs.PageStarts.{cover_spans}

-- the range of an element of each table
abbrev pub of_free : FreeRegion → Range
of_free r = range r.start.0 r.size

abbrev pub of_live : LiveBuffer → Range
of_live b = range b.start.0 b.size

abbrev pub of_hole : Hole → Range
of_hole h = range h.start.0 h.size

abbrev pub of_zombie : Zombie → Range
of_zombie z = range z.start.0 z.size

-- `P` of every range of every table
pub record OfEach (P : Range → Type 0) (t : Tables) : Type 0 where
  pub free : All (λ r. P (of_free r)) t.free
  pub live : All (λ b. P (of_live b)) t.live
  pub holes : All (λ h. P (of_hole h)) t.holes
  pub zombies : All (λ z. P (of_zombie z)) t.zombies

-- how often the four tables hold an address, and how often the roots
abbrev pub tables_at : Tables → ℕ → ℕ
tables_at t x = cover_free t.free x + cover_live t.live x + cover_holes t.holes x + cover_zombies t.zombies x

abbrev pub roots_at : Tables → ℕ → ℕ
roots_at t x = cover_roots t.fields.va t.roots x

module _ (t : Tables) where
  pub cover-spans : (x : ℕ) → cover_spans (spans t) x ≡ cover_free t.free x + cover_live t.live x
  cover-spans x =
      let f : Range → ℕ = λ h. within h.from h.size x in
      omega (arith, sum-append f (map of_free t.free) (map of_live t.live), sum-map of_free f t.free, sum-map of_live f t.live)

  pub cover-ranges : (x : ℕ) → cover_spans (ranges t) x ≡ tables_at t x
  cover-ranges x =
      let f : Range → ℕ = λ h. within h.from h.size x in
      omega (
        arith,
        cover-spans x,
        sum-append f (spans t) (holes_in t ++ map of_zombie t.zombies),
        sum-append f (holes_in t) (map of_zombie t.zombies),
        sum-map of_hole f t.holes,
        sum-map of_zombie f t.zombies,
      )

  module _ (P : Range → Type 0) where
    pub each_of : All P (ranges t) → OfEach P t
    each_of a =
        let s = all_first P (spans t) (holes_in t ++ map of_zombie t.zombies) a in
        let u = all_second P (spans t) (holes_in t ++ map of_zombie t.zombies) a in
        record {
          free = all-unmap of_free P t.free (all_first P (map of_free t.free) (map of_live t.live) s);
          live = all-unmap of_live P t.live (all_second P (map of_free t.free) (map of_live t.live) s);
          holes = all-unmap of_hole P t.holes (all_first P (holes_in t) (map of_zombie t.zombies) u);
          zombies = all-unmap of_zombie P t.zombies (all_second P (holes_in t) (map of_zombie t.zombies) u);
        }

    pub of-each : OfEach P t → All P (ranges t)
    of-each a =
        all_append P (spans t) (holes_in t ++ map of_zombie t.zombies)
        (all_append P (map of_free t.free) (map of_live t.live) (all_map of_free P t.free a.free) (all_map of_live P t.live a.live))
        (all_append P (holes_in t) (map of_zombie t.zombies) (all_map of_hole P t.holes a.holes) (all_map of_zombie P t.zombies a.zombies))

  -- free and live in one list, in order
  abbrev pub spans_in_order : List Range
  spans_in_order = sorted (λ h. h.from) (spans t)

  pub cover-in_order : (x : ℕ) → cover_spans spans_in_order x ≡ cover_free t.free x + cover_live t.live x
  cover-in_order x = sum-sorted (λ h. h.from) (λ h. within h.from h.size x) (spans t) ∙ cover-spans x

  pub all-in_order : (P : Range → Type 0) → All P (ranges t) → All P spans_in_order
  all-in_order P a = all-sorted (λ h. h.from) P (spans t) (all_first P (spans t) (holes_in t ++ map of_zombie t.zombies) a)
