-- From what a line comes to, to the tests that it passed.
use mathlib.Core.Path.{◌≡◌, refl}
use mathlib.Core.Bool.{Bool, true, false, cond}
use Prim.Native.Nat.{ℕ, ◌≤◌}
use native.Mathlib.Omega.{arith}
use borrow.Author.Tests.{leb-true}
use lib.Dec.{leb}
use Rattle.judge_rules.specs.Rules.{Judge}
use Rattle.judge_rules.specs.Verdict.{Step, on, beyond, ruled, sized}

pub ruled-on : (n : ℕ) (t : Bool) (k : Step) (s : Judge) → ruled n t k ≡ on s → (t ≡ true) × (k ≡ on s)
unfolding ruled
ruled-on n true k s e = (refl, e)
ruled-on n false k s e = let z : ◌≡◌ {A = ℕ} 0 1 = cc in absurd (omega arith)

pub sized-fits : (w m c : ℕ) (a s : Judge) → sized w m c a ≡ on s → (c ≤ m) × (a ≡ s)
unfolding sized
sized-fits w m c a s e = go (leb c m) refl e
  where
    go : (t : Bool) → leb c m ≡ t → cond t (on a) (beyond w) ≡ on s → (c ≤ m) × (a ≡ s)
    go true q e = (leb-true c m q, cc)
    go false q e = let z : ◌≡◌ {A = ℕ} 0 1 = cc in absurd (omega arith)

pub sized_on : (w m c : ℕ) (a s : Judge) → sized w m c a ≡ on s → a ≡ s
sized_on w m c a s e = (sized-fits w m c a s e).1

pub on-on : (a s : Judge) → on a ≡ on s → a ≡ s
on-on a s e = cc
