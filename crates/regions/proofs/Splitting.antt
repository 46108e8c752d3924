-- A walk over the free regions that leaves out those that merge with a range: the regions kept, the lowest start and the bytes so far, with what is left,
-- make up the whole at each turn. With the counter as id, what it has at the end is the merged region of the rule.
use mathlib.Core.Path.{◌≡◌, refl, ap, sym, ◌∙◌}
use mathlib.Core.Bool.{Bool, true, false, not}
use mathlib.Core.List.{List, [], ◌∷◌, ◌++◌, foldr, append-nil, append_assoc}
use Prim.Native.Nat.{ℕ, ◌+◌, ◌≤◌, ◌<◌, min}
use native.Mathlib.Omega.{arith}
use lib.ListN.{length, length-append}
use Rattle.lists.specs.Tests.{filter}
use Rattle.lists.proofs.Tests.{length-filter}
use Rattle.lists.proofs.Walks.{sum-filter}
use Rattle.lists.proofs.Lowest.{foldr-min}
use Rattle.tables.specs.Values.{region, pack_free}
use Rattle.tables.specs.InsertFree.{from, bytes, merges, merged}
use Rattle.tables.specs.declared.FreeRegion.{FreeRegion}
use Rattle.tables.specs.Values.{FreeRegions}
use Rattle.regions.specs.Merging.{Splits}
use Rattle.regions.specs.declared.Merged.{Merged}

abbrev lowest : ℕ → List FreeRegion → ℕ
lowest = foldr (λ q b. min (from q) b)

module _ (a n s : ℕ) (l : List FreeRegion) where
  abbrev near : FreeRegion → Bool
  near = merges a n s

  abbrev far : FreeRegion → Bool
  far q = not (merges a n s q)

  -- where the walk stands with `left` still to come
  pub record Split (others : List FreeRegion) (m : Merged) (left : List FreeRegion) : Type 0 where
    pub apart : filter far l ≡ others ++ filter far left
    pub least : lowest a (filter near l) ≡ lowest m.start.0 (filter near left)
    pub all : n + bytes (filter near l) ≡ m.size + bytes (filter near left)

pub split-starts : (a n s : ℕ) (l : List FreeRegion) → Split a n s l [] (record { start = record { 0 = a }; size = n }) l
split-starts a n s l = record { apart = refl; least = refl; all = refl }

-- A turn, at the region `x`.
module _ {a n s : ℕ} {l others : List FreeRegion} {m : Merged} {left rest : List FreeRegion} (x : FreeRegion) (here : left ≡ x ∷ rest)
    (sp : Split a n s l others m left) where
  module _ (e : merges a n s x ≡ true) where
    near_here : filter (merges a n s) left ≡ x ∷ filter (merges a n s) rest
    near_here = rw (here, e)

    pub merging-fits : m.size + x.size ≤ n + bytes l
    merging-fits = omega (arith, sp.all, ap bytes near_here, sum-filter (λ r. r.size) (merges a n s) l)

    pub split-merges : Split a n s l others (record { start = record { 0 = min (from x) m.start.0 }; size = m.size + x.size }) rest
    split-merges =
        record {
          apart = sp.apart ∙ rw (here, e);
          least = sp.least ∙ ap (lowest m.start.0) near_here ∙ foldr-min from m.start.0 x (filter (merges a n s) rest);
          all = omega (arith, sp.all, ap bytes near_here);
        }

  module _ (e : merges a n s x ≡ false) where
    pub others-fit : length others < length l
    others-fit =
        let far_here : filter (λ q. not (merges a n s q)) l ≡ others ++ x ∷ filter (λ q. not (merges a n s q)) rest = sp.apart ∙ rw (here, e) in
        omega (arith, length-filter (λ q. not (merges a n s q)) l, simp length-append at (ap length far_here))

    pub split-keeps : Split a n s l (others ++ x ∷ []) m rest
    split-keeps =
        let none_here : filter (merges a n s) left ≡ filter (merges a n s) rest = rw (here, e) in
        record {
          apart = sp.apart ∙ rw (here, e, append_assoc);
          least = sp.least ∙ ap (lowest m.start.0) none_here;
          all = sp.all ∙ ap (λ r. m.size + bytes r) none_here;
        }

pub split-ends : {a n s : ℕ} {l others : List FreeRegion} (m : Merged) → Split a n s l others m [] → Splits a n s l m (pack_free others)
split-ends m sp =
    record {
      apart = ap pack_free (sym (sp.apart ∙ append-nil _));
      start = sym sp.least;
      size = sym (omega (arith, sp.all));
    }

-- the region of the rule
pub split-merged : (a n s i : ℕ) (l : List FreeRegion) (m : Merged) (others : FreeRegions) → Splits a n s l m others →
    region m.start.0 m.size s i ≡ merged a n s i (filter (merges a n s) l)
split-merged a n s i l m others p = rw (p.start, p.size)
