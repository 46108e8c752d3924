-- A verdict says exactly what is wrong with a trace, and a trace has one verdict.
use mathlib.Core.Path.{◌≡◌, refl, ap, sym, ◌∙◌, subst}
use mathlib.Core.Bool.{Bool, true, false, cond}
use mathlib.Core.Logic.{◌⊎◌, inl, inr, ⊎_elim}
use mathlib.Core.List.{List, [], ◌∷◌}
use mathlib.Core.Option.{Option, none, some}
use Prim.Native.Nat.{ℕ, zero, suc, ◌+◌, ◌<◌}
use native.Mathlib.Omega.{arith}
use lib.ListN.{take, drop}
use Rattle.lists.proofs.Tests.{cases_eq, cases_lt}
use Rattle.trace.specs.declared.Line.{Line}
use Rattle.trace.specs.declared.Reading.{Reading}
use Rattle.trace.specs.declared.Reading.TheVariants.{Good, Malformed}
use Rattle.judge_rules.specs.Verdict.{at_end, onward, verdict_from, verdict}
use Rattle.judge_rules.specs.Meaning.{newest_first}
use Rattle.judge_rules.specs.Exactly.{known, missing, Fault, breaks, passes, fault_of, fault_in, fault, First, Says}
use Rattle.judge_rules.specs.declared.Verdict.{Verdict}
use Rattle.judge_rules.specs.declared.Verdict.TheVariants.{Accepted, Rejected, Large}
use Rattle.judge_rules.proofs.PageLaws.{some_is, some-not}
use Rattle.judge_rules.proofs.Known.{came, step_is}

cases_order : (a b : ℕ) → (a < b) ⊎ ((a ≡ b) ⊎ (b < a))
cases_order a b = ⊎_elim inl (λ p. inr (⊎_elim (λ q. inl (omega arith)) (λ q. inr (omega arith)) (cases_eq a b))) (cases_lt a b)

-- What is wrong behind `n` lines of the rest `t` of a trace, where the lines of `h` are before it.
abbrev fault_from : List Line → List Reading → ℕ → Option Fault
fault_from h t n = fault_in (newest_first h (take n t)) (drop n t)

-- The first fault of the rest, `k` lines from the start.
record FirstFrom (k : ℕ) (h : List Line) (t : List Reading) (n : ℕ) (f : Fault) : Type 0 where
  before : ℕ
  number : n ≡ k + (before + 1)
  fails : fault_from h t before ≡ some f
  others : (m : ℕ) → m < before → fault_from h t m ≡ none

abbrev SaysFrom : ℕ → List Line → List Reading → Verdict → Type 0
SaysFrom k h t Accepted = (n : ℕ) → fault_from h t n ≡ none
SaysFrom k h t (Rejected n rule) = FirstFrom k h t n (breaks rule)
SaysFrom k h t (Large n which) = FirstFrom k h t n (passes which)

-- the first line is wrong
at_once : (k : ℕ) (h : List Line) (t : List Reading) (f : Fault) → fault_from h t 0 ≡ some f → FirstFrom k h t (k + 1) f
at_once k h t f e = record { before = 0; number = refl; fails = e; others = λ m p. absurd (omega arith) }

-- nothing is wrong with the first line, so the fault of the rest is that of the whole
behind : (k : ℕ) (h : List Line) (l : Line) (t : List Reading) (n : ℕ) (f : Fault) → fault_of h l ≡ none → FirstFrom (k + 1) (l ∷ h) t n f → FirstFrom k h (Good l ∷ t) n f
behind k h l t n f e g =
    record { before = suc g.before; number = omega (arith, g.number); fails = g.fails; others = others }
  where
    others : (m : ℕ) → m < suc g.before → fault_from h (Good l ∷ t) m ≡ none
    others zero p = e
    others (suc m) p = g.others m (omega arith)

further : (k : ℕ) (h : List Line) (l : Line) (t : List Reading) (v : Verdict) → fault_of h l ≡ none → SaysFrom (k + 1) (l ∷ h) t v → SaysFrom k h (Good l ∷ t) v
further k h l t Accepted e g = λ n. all n
  where
    all : (n : ℕ) → fault_from h (Good l ∷ t) n ≡ none
    all zero = e
    all (suc n) = g n
further k h l t (Rejected n rule) e g = behind k h l t n (breaks rule) e g
further k h l t (Large n which) e g = behind k h l t n (passes which) e g

says-from : (t : List Reading) (k : ℕ) (h : List Line) → SaysFrom k h t (verdict_from k (known h) t)
unfolding at_end
says-from [] k h = go (missing h) refl
  where
    go : (b : Bool) → missing h ≡ b → SaysFrom k h [] (cond b (Rejected (k + 1) 0) Accepted)
    go true e = at_once k h [] (breaks 0) (rw e refl)
    go false e = λ n. none-there n
      where
        none-there : (n : ℕ) → fault_from h [] n ≡ none
        none-there zero = rw e refl
        none-there (suc n) = rw e refl
says-from (Malformed ∷ t) k h = at_once k h (Malformed ∷ t) (breaks 0) refl
says-from (Good l ∷ t) k h = rw (step_is h l) (go (fault_of h l) refl (says-from t (k + 1) (l ∷ h)))
  where
    go : (o : Option Fault) → fault_of h l ≡ o → SaysFrom (k + 1) (l ∷ h) t (verdict_from (k + 1) (known (l ∷ h)) t) →
        SaysFrom k h (Good l ∷ t) (onward (k + 1) (came o (known (l ∷ h))) (λ z. verdict_from (k + 1) z t))
    go none e g = further k h l t (verdict_from (k + 1) (known (l ∷ h)) t) e g
    go (some (breaks rule)) e g = at_once k h (Good l ∷ t) (breaks rule) e
    go (some (passes which)) e g = at_once k h (Good l ∷ t) (passes which) e

-- The verdict says what is so;
says : (t : List Reading) (v : Verdict) → SaysFrom 0 [] t v → Says t v
says t Accepted g = g
says t (Rejected n rule) g = record { before = g.before; number = omega (arith, g.number); fails = g.fails; others = g.others }
says t (Large n which) g = record { before = g.before; number = omega (arith, g.number); fails = g.fails; others = g.others }

pub verdict-says : (t : List Reading) → Says t (verdict t)
unfolding verdict
verdict-says t = says t (verdict_from 0 (known []) t) (says-from t 0 [])

-- and what is so has one verdict.

one-first : (t : List Reading) (n m : ℕ) (f g : Fault) → First t n f → First t m g → (n ≡ m) × (f ≡ g)
one-first t n m f g a b = go (cases_order a.before b.before)
  where
    go : (a.before < b.before) ⊎ ((a.before ≡ b.before) ⊎ (b.before < a.before)) → (n ≡ m) × (f ≡ g)
    go (inl p) = absurd (some-not f (sym a.fails ∙ b.others a.before p))
    go (inr (inl p)) = (a.number ∙ ap (λ k. k + 1) p ∙ sym b.number, some_is f g (sym a.fails ∙ ap (fault t) p ∙ b.fails))
    go (inr (inr p)) = absurd (some-not g (sym b.fails ∙ a.others b.before p))

one-verdict : (t : List Reading) (v w : Verdict) → Says t v → Says t w → v ≡ w
one-verdict t Accepted Accepted a b = refl
one-verdict t Accepted (Rejected n r) a b = absurd (some-not (breaks r) (sym b.fails ∙ a b.before))
one-verdict t Accepted (Large n r) a b = absurd (some-not (passes r) (sym b.fails ∙ a b.before))
one-verdict t (Rejected n r) Accepted a b = absurd (some-not (breaks r) (sym a.fails ∙ b a.before))
one-verdict t (Large n r) Accepted a b = absurd (some-not (passes r) (sym a.fails ∙ b a.before))
one-verdict t (Rejected n r) (Rejected m q) a b =
    let e = one-first t n m (breaks r) (breaks q) a b in
    let f = e.1 in
    let same : r ≡ q = cc in
    λ i. Rejected (e.0 i) (same i)
one-verdict t (Large n r) (Large m q) a b =
    let e = one-first t n m (passes r) (passes q) a b in
    let f = e.1 in
    let same : r ≡ q = cc in
    λ i. Large (e.0 i) (same i)
one-verdict t (Rejected n r) (Large m q) a b =
    let f = (one-first t n m (breaks r) (passes q) a b).1 in
    let z : ◌≡◌ {A = ℕ} 0 1 = cc in
    absurd (omega arith)
one-verdict t (Large n r) (Rejected m q) a b =
    let f = (one-first t n m (passes r) (breaks q) a b).1 in
    let z : ◌≡◌ {A = ℕ} 0 1 = cc in
    absurd (omega arith)

-- So a verdict is given exactly where it is so.
pub exactly : (t : List Reading) (v : Verdict) → verdict t ≡ v → Says t v
exactly t v e = subst (Says t) e (verdict-says t)

pub only : (t : List Reading) (v : Verdict) → Says t v → verdict t ≡ v
only t v g = one-verdict t (verdict t) v (verdict-says t) g
