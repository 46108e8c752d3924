-- A turn of the search for the smallest complete region: what it has found so far, with what the asking of the rest finds, is what the whole finds.
use mathlib.Core.Path.{◌≡◌, refl}
use mathlib.Core.Bool.{Bool, true, false, cond}
use mathlib.Core.List.{List, [], ◌∷◌}
use mathlib.Core.Option.{Option, some}
use Prim.Native.Nat.{ℕ, ◌+◌, ◌≤◌, ◌<◌}
use borrow.Author.Tests.{le-leb, lt-leb}
use lib.ListN.{length, get_or, drop}
use Rattle.std.specs.Prelude.{Option as Found}
use Rattle.lists.specs.Scan.{better, found}
use Rattle.lists.specs.declared.Best.{Best}
use Rattle.lists.proofs.Cells.{turn-all}
use Rattle.lists.proofs.Least.{lesser, lesser-none, lesser_assoc, Marks, found-better}
use Rattle.tables.specs.Values.{empty_region}
use Rattle.tables.specs.Steps.{Ending, on, ends, Step, ◌>>=◌, give}
use Rattle.tables.specs.Driver.{is_complete}
use Rattle.tables.specs.Fit.{candidates, ask_all, smallest}
use Rattle.tables.specs.declared.FreeRegion.{FreeRegion}
use Rattle.tables.specs.declared.Outcome.{Outcome}
use Rattle.driving.specs.Ran.{Ran, Point}
use Rattle.driving.proofs.Ran.{next, stop, gave, ran-once}
use Rattle.step_fit.proofs.Runs.{runs}

-- the search with what is found so far: `b`
abbrev pub searching : Option FreeRegion → List FreeRegion → Step (Option FreeRegion)
searching b l = ask_all l >>= λ done. give (lesser (λ q. q.size) b (smallest done))

pub search-ends : {xs : List ℕ} {s : Point} (b : Option FreeRegion) → Ran (searching b []) xs s (on b) s
search-ends b = next _ gave (rw (lesser-none (λ q. q.size) b) gave)

-- the region `x` was asked after
module _ (b : Option FreeRegion) (x : FreeRegion) (l : List FreeRegion) where
  counted : (c : Bool) (done : List FreeRegion) →
      lesser (λ q. q.size) (cond c (lesser (λ q. q.size) b (some x)) b) (smallest done) ≡
      lesser (λ q. q.size) b (smallest (cond c (x ∷ done) done))
  counted true done = lesser_assoc (λ q. q.size) b (some x) (smallest done)
  counted false done = refl

  module _ {xs : List ℕ} {s v : Point} where
    search-stop : {o : Outcome} → Ran (is_complete x.id.0) xs s (ends o) v → Ran (searching b (x ∷ l)) xs s (ends o) v
    search-stop asked = stop _ (stop _ asked)

    search-next : (c : Bool) {e : Ending (Option FreeRegion)} {u : Point} → Ran (is_complete x.id.0) xs s (on c) v →
        Ran (searching (cond c (lesser (λ q. q.size) b (some x)) b) l) xs v e u → Ran (searching b (x ∷ l)) xs s e u
    search-next c {e} {u} asked r = go (ask_all l xs v.made v.tables).ending refl
      where
        go : (y : Ending (List FreeRegion)) → (ask_all l xs v.made v.tables).ending ≡ y → Ran (searching b (x ∷ l)) xs s e u
        go (on done) h =
            let ran = runs (ask_all l) xs v (on done) h in
            let same = ran-once r (next _ ran gave) in
            rw (same.0, same.1, counted c done) (next _ (next _ asked (next _ ran gave)) gave)
        go (ends o) h =
            let ran = runs (ask_all l) xs v (ends o) h in
            let same = ran-once r (stop _ ran) in
            rw (same.0, same.1) (stop _ (next _ asked (stop _ ran)))

-- The turn at place `i` of a list, of the region there.
module _ (l : List FreeRegion) {i : ℕ} (h : i < length l) where
  abbrev it : FreeRegion
  it = get_or l i empty_region

  left : drop i l ≡ get_or l i empty_region ∷ drop (i + 1) l
  left = turn-all l i empty_region h

  module _ (n : ℕ) (b : Found Best) {xs : List ℕ} {s : Point} where
    -- it is no candidate
    pub turn_small : {e : Ending (Option FreeRegion)} {u : Point} → (get_or l i empty_region).size < n →
        Ran (searching (found empty_region l b) (candidates n (drop (i + 1) l))) xs s e u →
        Ran (searching (found empty_region l b) (candidates n (drop i l))) xs s e u
    turn_small less r = rw (left, lt-leb n it.size less) r

    -- it is one, and was asked after
    module _ {v : Point} (large : n ≤ (get_or l i empty_region).size) where
      pub turn_out : {o : Outcome} → Ran (is_complete (get_or l i empty_region).id.0) xs s (ends o) v →
          Ran (searching (found empty_region l b) (candidates n (drop i l))) xs s (ends o) v
      turn_out asked = rw (left, le-leb n it.size large) (search-stop (found empty_region l b) it (candidates n (drop (i + 1) l)) asked)

      pub turn-complete : {e : Ending (Option FreeRegion)} {u : Point} → Marks (λ q. q.size) empty_region l i b →
          Ran (is_complete (get_or l i empty_region).id.0) xs s (on true) v →
          Ran (searching (found empty_region l (better i (get_or l i empty_region).size b)) (candidates n (drop (i + 1) l))) xs v e u →
          Ran (searching (found empty_region l b) (candidates n (drop i l))) xs s e u
      turn-complete m asked r =
          let lower = found-better (λ q. q.size) empty_region l i b m in
          rw (left, le-leb n it.size large)
          (search-next (found empty_region l b) it (candidates n (drop (i + 1) l)) true asked (rw lower at r))

      pub turn-not_yet : {e : Ending (Option FreeRegion)} {u : Point} →
          Ran (is_complete (get_or l i empty_region).id.0) xs s (on false) v →
          Ran (searching (found empty_region l b) (candidates n (drop (i + 1) l))) xs v e u →
          Ran (searching (found empty_region l b) (candidates n (drop i l))) xs s e u
      turn-not_yet asked r =
          rw (left, le-leb n it.size large) (search-next (found empty_region l b) it (candidates n (drop (i + 1) l)) false asked r)
