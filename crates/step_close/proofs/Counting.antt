-- The laws of `RanCounting`: those of `Ran`, with the failed lines of two steps added.
use mathlib.Core.Path.{◌≡◌, refl, ap, sym, ◌∙◌}
use mathlib.Core.Bool.{Bool, true, false, cond, not}
use mathlib.Core.List.{List, [], ◌∷◌, ◌++◌}
use Prim.Native.Nat.{ℕ, ◌+◌}
use native.Mathlib.Omega.{arith}
use lib.Dec.{eqb}
use lib.ListN.{length, length-append}
use Rattle.lists.specs.Tests.{filter}
use Rattle.lists.proofs.Filters.{filter-append}
use Rattle.words.specs.Words.{line}
use Rattle.words.specs.Answers.{lent, code_of, failed}
use Rattle.words.proofs.Answers.{lent-failed}
use Rattle.words.specs.declared.Word.{Word}
use Rattle.words.specs.declared.Record.{Record}
use Rattle.words.specs.declared.Answer.{Answer}
use Rattle.words.specs.declared.Answer.TheVariants.{Done, Failed, Missing}
use Rattle.tables.specs.Steps.{Ending, on, ends, Step, ◌>>=◌, give, tables}
use Rattle.tables.specs.Driver.{heard, driver}
use Rattle.tables.specs.Close.{failures}
use Rattle.tables.specs.declared.Outcome.{Outcome}
use Rattle.tables.specs.declared.Outcome.TheVariants.{AnswersRanOut}
use Rattle.driving.specs.Ran.{Point, Ran}
use Rattle.driving.proofs.Ran as ran
use Rattle.step_close.specs.Counting.{RanCounting}

failures-append : (rs qs : List Record) → failures (rs ++ qs) ≡ failures rs + failures qs
failures-append rs qs =
    let fails : Record → Bool = λ r. not (eqb r.code 0) in
    ap length (filter-append fails rs qs) ∙ length-append (filter fails rs) (filter fails qs)

module _ {xs : List ℕ} {s : Point} {f : ℕ} where
  pub gave : {A : Type 0} {a : A} → RanCounting (give a) xs s f (on a) s f
  gave = record { ran = ran.gave; counted = omega arith }

  pub looked : RanCounting tables xs s f (on s.tables) s f
  looked = record { ran = ran.looked; counted = omega arith }

  pub next : {A B : Type 0} {m : Step A} (n : A → Step B) {a : A} {e : Ending B} {u v : Point} {g h : ℕ} → RanCounting m xs s f (on a) u g →
      RanCounting (n a) xs u g e v h → RanCounting (m >>= n) xs s f e v h
  unfolding ◌>>=◌
  next {m = m} n {a = a} {u = u} r q =
      let rs = r.ran.records in
      let qs = (n a xs u.made u.tables).records in
      let own : failures (m xs s.made s.tables).records ≡ failures rs = ap (λ w. failures w.records) r.ran.goes in
      record {
        ran = ran.next n r.ran q.ran;
        counted = rw (r.ran.goes, ← r.ran.made) (omega (arith, r.counted, own, q.counted, failures-append rs qs));
      }

  pub stop : {A B : Type 0} {m : Step A} (n : A → Step B) {o : Outcome} {u : Point} {g : ℕ} → RanCounting m xs s f (ends o) u g →
      RanCounting (m >>= n) xs s f (ends o) u g
  unfolding ◌>>=◌
  stop n r = record { ran = ran.stop n r.ran; counted = rw r.ran.goes (rw r.ran.goes at r.counted) }

-- whether the answer that was heard is a failure
abbrev fails : Ending Answer → Bool
fails (on x) = failed x
fails (ends o) = false

fails-heard : (x : Answer) → fails (heard x) ≡ failed x
fails-heard (Done v) = refl
fails-heard (Failed c) = refl
fails-heard Missing = refl

one_line : (b : Bool) (r : Record) → not (eqb r.code 0) ≡ b → failures (r ∷ []) ≡ cond b 1 0
one_line true r e = rw e
one_line false r e = rw e

-- A driver call: its line is a failed one where its answer is a failure.
pub told : {xs : List ℕ} {s u : Point} {f g : ℕ} (w : Word) (a b : ℕ) (e : Ending Answer) → Ran (driver (λ y. line w a b (code_of y))) xs s e u →
    g ≡ f + cond (fails e) 1 0 → RanCounting (driver (λ y. line w a b (code_of y))) xs s f e u g
told {xs} {s} {f = f} w a b e r h =
    let y = lent xs s.made in
    let same : failed y ≡ fails e = sym (fails-heard y) ∙ ap fails (sym (ran.ending-is r)) in
    record { ran = r; counted = h ∙ ap (λ n. f + n) (sym (one_line (fails e) (line w a b (code_of y)) (sym (lent-failed xs s.made) ∙ same))) }

-- An end is by 17.
pub ran_out : {xs : List ℕ} {s u : Point} (w : Word) (a b : ℕ) {o : Outcome} → Ran (driver (λ y. line w a b (code_of y))) xs s (ends o) u → o ≡ AnswersRanOut
ran_out {xs} {s} w a b {o = o} r = at_end (lent xs s.made) (ran.ending-is r)
  where
    outcome : Ending Answer → Outcome
    outcome (on x) = AnswersRanOut
    outcome (ends q) = q

    at_end : (y : Answer) → ends o ≡ heard y → o ≡ AnswersRanOut
    at_end (Done v) e = ap outcome e
    at_end (Failed c) e = ap outcome e
    at_end Missing e = ap outcome e

-- it ended with one outcome
pub ends-once : {A : Type 0} {o q : Outcome} → ◌≡◌ {A = Ending A} (ends o) (ends q) → q ≡ o
ends-once {A} {o} e = ap outcome (sym e)
  where
    outcome : Ending A → Outcome
    outcome (on x) = o
    outcome (ends q) = q

-- what went on did not end
pub not-ends : {A B : Type 0} {a : A} {o : Outcome} → ◌≡◌ {A = Ending A} (on a) (ends o) → B
not-ends e = let z : ◌≡◌ {A = ℕ} 0 1 = cc in absurd (omega arith)
