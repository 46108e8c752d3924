-- One line more in a table: at its place, and at every other.
use mathlib.Core.Path.{◌≡◌, ap, sym, ◌∙◌}
use mathlib.Core.Bool.{cond}
use mathlib.Core.Logic.{◌⊎◌, inl, inr}
use mathlib.Core.List.{List, ◌∷◌}
use Prim.Native.Nat.{ℕ, ◌+◌, ◌≤◌, ◌<◌}
use native.Mathlib.Omega.{arith}
use borrow.Author.Tests.{eq-eqb, ne_eqb}
use lib.Dec.{eqb}
use lib.ListN.{length, get_or, set, length-set}
use lib.Seq.{get_or-set_same, get_or-set_other}
use Rattle.lists.proofs.Tests.{cases_eq}
use Rattle.trace.specs.declared.Line.{Line}
use Rattle.summary_counts.specs.Counts.{counted, or_else, first_at, Few}
use Rattle.summary_counts.specs.Promises.{Tally, Firsts}

-- a table of which no count is above `m`, with one more at the place `p`
pub few-more : (m p : ℕ) (t : List ℕ) → p < length t → Few m t → Few (m + 1) (set t p (get_or t p 0 + 1))
few-more m p t b f i = go (cases_eq p i)
  where
    go : (p ≡ i) ⊎ (p ≡ i → ⊥) → get_or (set t p (get_or t p 0 + 1)) i 0 ≤ m + 1
    go (inl e) = rw (← e, get_or-set_same t p (get_or t p 0 + 1) 0 b) (omega (arith, f p))
    go (inr d) = rw (get_or-set_other t p i (get_or t p 0 + 1) 0 (λ q. d (sym q))) (omega (arith, f i))

module _ (at : Line → List Line → ℕ) (t : List ℕ) (l : Line) (h : List Line) (p : ℕ) (e : p ≡ at l h) (b : p < length t) where
  -- what stands at each place, where the line makes `next` of it at its own
  more : (stands : ℕ → ℕ) (next : ℕ → ℕ) → ((n : ℕ) → n < length t → get_or t n 0 ≡ stands n) → (n : ℕ) →
      n < length (set t p (next (get_or t p 0))) → get_or (set t p (next (get_or t p 0))) n 0 ≡ cond (eqb (at l h) n) (next (stands n)) (stands n)
  more stands next k n q = rw (← e) (go (cases_eq p n))
    where
      v : ℕ
      v = next (get_or t p 0)

      go : (p ≡ n) ⊎ (p ≡ n → ⊥) → get_or (set t p v) n 0 ≡ cond (eqb p n) (next (stands n)) (stands n)
      go (inl s) = rw (eq-eqb p n s) (ap (λ x. get_or (set t p v) x 0) (sym s) ∙ get_or-set_same t p v 0 b ∙ ap next (k p b ∙ ap stands s))
      go (inr d) = rw (ne_eqb p n d) (get_or-set_other t p n v 0 (λ s. d (sym s)) ∙ k n (omega (arith, length-set t p v)))

  pub tally-more : Tally at t h → Tally at (set t p (get_or t p 0 + 1)) (l ∷ h)
  tally-more k = more (λ n. counted at n h) (λ x. x + 1) k

  pub first_more : (m : ℕ) → m ≡ length h + 1 → Firsts at t h → Firsts at (set t p (or_else (get_or t p 0) m)) (l ∷ h)
  first_more m g k = rw (← g) (more (λ n. first_at at n h) (λ x. or_else x m) k)
