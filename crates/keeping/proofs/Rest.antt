-- The rest of a free region whose first bytes are taken: with them it covers what the region covered, it takes the region's id, and the table stays in
-- order with it put back.
use mathlib.Core.Path.{◌≡◌}
use mathlib.Core.Logic.{⊎_elim}
use mathlib.Core.List.{List}
use Prim.Native.Nat.{ℕ, suc, ◌+◌, ◌-◌, ◌≤◌, ◌<◌}
use native.Mathlib.Omega.{arith}
use borrow.Author.Tests.{eq-eqb, ne_eqb}
use lib.ListN.{length}
use Rattle.lists.specs.Tests.{All, Member}
use Rattle.lists.specs.Order.{Rises}
use Rattle.lists.proofs.Tests.{cases_eq}
use Rattle.lists.proofs.Order.{sum-put, length-put, all-put}
use Rattle.lists.proofs.Members.{rises-put, put_keeps}
use Rattle.tables.specs.Values.{region}
use Rattle.tables.specs.InsertFree.{from, put_free, put_rest}
use Rattle.tables.specs.declared.FreeRegion.{FreeRegion}
use Rattle.keeping.specs.Cover.{within, equal, cover_free, ids_at}
use Rattle.keeping.proofs.Cover.{within_cut}

-- what is left of `r` without its first `n` bytes
abbrev rest : ℕ → FreeRegion → FreeRegion
rest n r = region (from r + n) (r.size - n) r.stream r.id.0

-- `put_rest` puts in just the rest, or, where nothing is left, nothing
put_rest_either : (P : List FreeRegion → Type 0) (n : ℕ) (r : FreeRegion) (l : List FreeRegion) → n ≤ r.size →
    (r.size ≡ n → P l) → (n < r.size → P (put_free (rest n r) l)) → P (put_rest n r l)
put_rest_either P n r l le all some =
    ⊎_elim
    (λ e. rw (eq-eqb r.size n e) (all e))
    (λ e. rw (ne_eqb r.size n e) (some (omega arith)))
    (cases_eq r.size n)

module _ (n : ℕ) (r : FreeRegion) (l : List FreeRegion) (le : n ≤ r.size) where
  pub cover-put_rest : (x : ℕ) → within (from r) n x + cover_free (put_rest n r l) x ≡ within (from r) r.size x + cover_free l x
  cover-put_rest x =
      put_rest_either (λ m. within (from r) n x + cover_free m x ≡ within (from r) r.size x + cover_free l x) n r l le
      (λ e. rw e)
      (λ lt. rw (sum-put from (λ q. within q.start.0 q.size x) (rest n r) l, within_cut (from r) r.size n x le) (omega arith))

  pub ids-put_rest : (i : ℕ) → ids_at (put_rest n r l) i ≤ equal r.id.0 i + ids_at l i
  ids-put_rest i =
      put_rest_either (λ m. ids_at m i ≤ equal r.id.0 i + ids_at l i) n r l le
      (λ e. omega arith)
      (λ lt. rw (sum-put from (λ q. equal q.id.0 i) (rest n r) l) (omega arith))

  pub length-put_rest : length (put_rest n r l) ≤ suc (length l)
  length-put_rest =
      put_rest_either (λ m. length m ≤ suc (length l)) n r l le (λ e. omega arith) (λ lt. rw (length-put from (rest n r) l) (omega arith))

  -- one region less where nothing is left of it
  pub length_put_none : r.size ≡ n → length (put_rest n r l) ≡ length l
  length_put_none e = rw (eq-eqb r.size n e)

  pub all-put_rest : (P : FreeRegion → Type 0) → (n < r.size → P (rest n r)) → All P l → All P (put_rest n r l)
  all-put_rest P p a = put_rest_either (All P) n r l le (λ e. a) (λ lt. all-put from P (rest n r) l (p lt) a)

  -- where no region starts at the rest, it has its place
  pub rises-put_rest : (b : ℕ) → b < from r + n → (n < r.size → All (λ q. from q ≡ from r + n → ⊥) l) → Rises from b l → Rises from b (put_rest n r l)
  rises-put_rest b h a w = put_rest_either (Rises from b) n r l le (λ e. w) (λ lt. rises-put from b (rest n r) l h (a lt) w)

  pub put_rest-keeps : (q : FreeRegion) → Member q l → Member q (put_rest n r l)
  put_rest-keeps q m = put_rest_either (Member q) n r l le (λ e. m) (λ lt. put_keeps from q (rest n r) l m)
