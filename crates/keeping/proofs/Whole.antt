-- Multiples of the page size: sums, differences, the smaller of two and the bytes of several regions are multiples again, and the range of a page holds
-- just one, its start.
use mathlib.Core.Path.{◌≡◌, ◌∙◌, sym}
use mathlib.Core.Logic.{inl, inr, ⊎_elim}
use mathlib.Core.List.{List, [], ◌∷◌, foldr}
use Prim.Native.Nat.{ℕ, ◌+◌, ◌-◌, ◌*◌, ◌/◌, ◌≤◌, ◌<◌, ◌%◌, min}
use native.Mathlib.Omega.{arith}
use native.Mathlib.Nat.{mod-add-mod, mod_self, mod-eq_of_lt, div-add-mod'}
use Rattle.lists.specs.Tests.{All}
use Rattle.lists.proofs.Tests.{cases_lt}
use Rattle.tables.specs.InsertFree.{from, bytes}
use Rattle.tables.specs.declared.FreeRegion.{FreeRegion}
use Rattle.keeping.specs.Cover.{within, equal}
use Rattle.keeping.specs.Sound.{Whole, WholeRange}
use Rattle.keeping.proofs.Cover.{within_in, within_out, equal-same, equal-other}

module _ (p : ℕ) where
  -- a multiple in front changes nothing of the remainder
  aligned-past : (a b : ℕ) → a % p ≡ 0 → (a + b) % p ≡ b % p
  aligned-past a b e =
      let z : 0 + b ≡ b = omega arith in
      sym (rw (e, z) at (mod-add-mod a p b))

  pub aligned-add : (a b : ℕ) → a % p ≡ 0 → b % p ≡ 0 → (a + b) % p ≡ 0
  aligned-add a b e f = aligned-past a b e ∙ f

  -- what is left of a multiple without another is one
  pub aligned-rest : (a b : ℕ) → a % p ≡ 0 → (a + b) % p ≡ 0 → b % p ≡ 0
  aligned-rest a b e f = sym (aligned-past a b e) ∙ f

  pub aligned_sub : (a b : ℕ) → b ≤ a → a % p ≡ 0 → b % p ≡ 0 → (a - b) % p ≡ 0
  aligned_sub a b h e f =
      let s : b + (a - b) ≡ a = omega arith in
      aligned-rest b (a - b) f (rw s e)

  pub aligned-min : (a b : ℕ) → a % p ≡ 0 → b % p ≡ 0 → min a b % p ≡ 0
  aligned-min a b e f =
      ⊎_elim
      (λ q. let s : min a b ≡ a = omega arith in rw s e)
      (λ q. let s : min a b ≡ b = omega arith in rw s f)
      (cases_lt a b)

  pub aligned_next : (a : ℕ) → a % p ≡ 0 → (a + p) % p ≡ 0
  aligned_next a e = aligned-add a p e (mod_self p)

  -- as many bytes as its pages have
  pub aligned-pages : (n : ℕ) → n % p ≡ 0 → n / p * p ≡ n
  aligned-pages n e = omega (arith, div-add-mod' n p)

  -- Of the multiples, the range of a page holds just its start.
  pub within-page : (a x : ℕ) → 0 < p → a % p ≡ 0 → x % p ≡ 0 → within a p x ≡ equal a x
  within-page a x h e f =
      ⊎_elim
      (λ q. rw (within_out a p x (inl q), equal-other a x (λ s. omega arith)))
      (λ g. ⊎_elim (inside g) (λ q. rw (within_out a p x (inr q), equal-other a x (λ s. omega arith))) (cases_lt x (a + p)))
      (cases_lt x a)
    where
      inside : a ≤ x → x < a + p → within a p x ≡ equal a x
      inside g q =
          let d : x - a ≡ 0 = sym (mod-eq_of_lt (omega arith)) ∙ aligned_sub x a g f e in
          let s : a ≡ x = omega arith in
          rw (within_in a p x g q, ← s, equal-same a)

-- nonzero multiples
pub whole-past : {p a : ℕ} (b : ℕ) → Whole p a → b % p ≡ 0 → Whole p (a + b)
whole-past {p} {a} b w e = record { positive = omega arith; aligned = aligned-add p a b w.aligned e }

pub whole-add : {p a b : ℕ} → Whole p a → Whole p b → Whole p (a + b)
whole-add {p} {a} {b} v w = whole-past b v w.aligned

-- the two parts of a range that is cut after `k` bytes
pub whole-lower : {p a n : ℕ} (k : ℕ) → WholeRange p a n → k % p ≡ 0 → 0 < k → WholeRange p a k
whole-lower k r e h = record { start = r.start; size = record { positive = h; aligned = e } }

pub whole_upper : {p a n : ℕ} (k : ℕ) → WholeRange p a n → k % p ≡ 0 → k < n → WholeRange p (a + k) (n - k)
whole_upper {p} {a} {n} k r e h =
    record {
      start = whole-past k r.start e;
      size = record { positive = omega arith; aligned = aligned_sub p n k (omega arith) r.size.aligned e };
    }

-- the least of `a` and the starts of `l`
abbrev pub least_of : ℕ → List FreeRegion → ℕ
least_of a l = foldr (λ q b. min (from q) b) a l

module _ (p : ℕ) where
  pub whole-least : (a : ℕ) (l : List FreeRegion) → Whole p a → All (λ q. WholeRange p q.start.0 q.size) l → Whole p (least_of a l)
  whole-least a [] w all = w
  whole-least a (q ∷ l) w all =
      let v = whole-least a l w all.1 in
      record {
        positive = omega (arith, v.positive, all.0.start.positive);
        aligned = aligned-min p (from q) (least_of a l) all.0.start.aligned v.aligned;
      }

  pub whole-bytes : (n : ℕ) (l : List FreeRegion) → Whole p n → All (λ q. WholeRange p q.start.0 q.size) l → Whole p (n + bytes l)
  whole-bytes n [] w all = let e : n + 0 ≡ n = omega arith in rw e w
  whole-bytes n (q ∷ l) w all =
      let e : n + (q.size + bytes l) ≡ q.size + (n + bytes l) = omega arith in
      rw e (whole-add all.0.size (whole-bytes n l w all.1))
