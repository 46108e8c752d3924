-- Amounts of bytes and of pages, from the rows of the judge's tables.
use mathlib.Core.Path.{◌≡◌, refl, ap, sym, ◌∙◌}
use mathlib.Core.Bool.{cond}
use mathlib.Core.Logic.{◌⊎◌, inl, inr}
use mathlib.Core.List.{List, [], ◌∷◌, ◌++◌, reverse}
use Prim.Native.Nat.{ℕ, ◌+◌, ◌≤◌, ◌<◌}
use native.Mathlib.Omega.{arith}
use Rattle.std.proofs.Common.{min}
use borrow.Author.Tests.{le-leb, lt-leb}
use Rattle.std.specs.List.{fold}
use Rattle.lists.specs.Walks.{sum}
use Rattle.lists.proofs.Tests.{cases_lt}
use Rattle.lists.proofs.Maps.{sum-map}
use Rattle.judge_tables.specs.Rows.{buffer_of, live_in, pages_in, holds_under}
use Rattle.judge_tables.specs.declared.rows.Live.{Live}
use Rattle.judge_tables.specs.declared.rows.Page.{Page}
use Rattle.judge_tables.proofs.Newest.{newest-more, under-is}
use Rattle.summary_counts.specs.Counts.{most_bytes, capped, zombies}

pub capped-is : (n : ℕ) → min n most_bytes ≡ capped n
capped-is n = go (cases_lt most_bytes n)
  where
    go : (most_bytes < n) ⊎ (n ≤ most_bytes) → min n most_bytes ≡ capped n
    go (inl h) = rw (lt-leb n most_bytes h) (omega arith)
    go (inr h) = rw (le-leb n most_bytes h) (omega arith)

-- sizes added up, but for what is beyond the most
total-of : (n : ℕ) (t : List Live) → fold (λ total b. min (total + b.size) most_bytes) (min n most_bytes) t ≡ min (n + sum (λ b. b.size) t) most_bytes
total-of n [] = let z : n ≡ n + 0 = omega arith in ap (λ m. min m most_bytes) z
total-of n (b ∷ t) =
    let e : min (min n most_bytes + b.size) most_bytes ≡ min (n + b.size) most_bytes = omega arith in
    let a : n + b.size + sum (λ b. b.size) t ≡ n + (b.size + sum (λ b. b.size) t) = omega arith in
    ap (λ m. fold (λ total b. min (total + b.size) most_bytes) m t) e ∙ total-of (n + b.size) t ∙ ap (λ m. min m most_bytes) a

pub total-live : (t : List Live) → fold (λ total b. min (total + b.size) most_bytes) 0 (reverse t) ≡ capped (sum (λ b. b.size) (live_in t))
total-live t =
    let n = sum (λ b. b.size) (reverse t) in
    let z : 0 + n ≡ n = omega arith in
    total-of 0 (reverse t) ∙ ap (λ m. min m most_bytes) z ∙ capped-is n ∙ ap capped (sym (sum-map buffer_of (λ b. b.size) (reverse t)))

-- a page more, the newest: with an older one of its handle, and without
pub zombie-more : (older : List Page) (p : Page) →
    zombies (pages_in (older ++ p ∷ [])) ≡ cond (holds_under older p.handle) (zombies (pages_in older) + 1) (zombies (pages_in older))
zombie-more older p = rw (newest-more older p, under-is older p.handle) refl
