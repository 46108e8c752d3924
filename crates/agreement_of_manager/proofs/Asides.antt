-- What a small buffer leaves in a trace: lines that the judge passes over, since they stand between calls. The premises ask nothing of them.
use mathlib.Core.Path.{◌≡◌, refl}
use mathlib.Core.Bool.{true}
use mathlib.Core.List.{List, [], ◌∷◌, ◌++◌, map}
use Prim.Native.Nat.{ℕ, ◌+◌, ◌*◌, ◌/◌, ◌≤◌}
use native.Mathlib.Omega.{arith}
use borrow.Author.Tests.{lt-ltb}
use lib.Dec.{ltb}
use lib.ListN.{length}
use Rattle.lists.specs.Tests.{All, every}
use Rattle.lists.proofs.Every.{and-true}
use Rattle.words.specs.declared.Answer.{Answer}
use Rattle.words.specs.declared.Answer.TheVariants.{Done, Failed, Missing}
use Rattle.words.specs.declared.Record.{Record}
use Rattle.trace.specs.Kinds.{SMALL, DROPSMALL, of_record}
use Rattle.trace.specs.declared.Line.{Line}
use Rattle.answering.proofs.Calls.{either_way}
use Rattle.judge_rules.specs.Rules.{Judge}
use Rattle.judge_rules.specs.Verdict as Verdict
use Rattle.judge_rules.proofs.Asides.{said_aside, step_aside}
use Rattle.agreement.specs.Premises.{credible}
use Rattle.agreement.specs.Judges.{read, Reach}
use Rattle.agreement.proofs.Reading.{reach_then}
use Rattle.agreement.proofs.Run.{Rests}
use Rattle.manager_rules.specs.HandsBack.{Reply}
use Rattle.manager_rules.specs.Malloc.{incredible, small_answered}
use Rattle.manager_rules.specs.Free.{drop_answered}
use Rattle.manager_rules.specs.Close.{drops}
use Rattle.manager_rules.specs.declared.SmallBuffer.{SmallBuffer}
use Rattle.manager_rules.specs.declared.Manager.{Manager}

-- the record of a small buffer that came or went
abbrev pub Aside : Record → Type 0
Aside r = (SMALL ≤ r.kind) × (r.kind ≤ DROPSMALL)

pub asides-read : (s : Judge) (rs : List Record) → All Aside rs → Rests s → read s (map of_record rs) ≡ Verdict.on s
asides-read s [] a h = refl
asides-read s (r ∷ rs) a h = rw (step_aside s (of_record r) a.0.0 a.0.1 h.0 h.1) (asides-read s rs a.1 h)

aside-credible : (r : Record) → Aside r → credible (of_record r) ≡ true
unfolding credible
aside-credible r a = rw (said_aside r.kind a.0 a.1)

asides-credible : (rs : List Record) → All Aside rs → every credible (map of_record rs) ≡ true
asides-credible [] a = refl
asides-credible (r ∷ rs) a = and-true (credible (of_record r)) _ (aside-credible r a.0) (asides-credible rs a.1)

pub asides-reach : (s : Judge) (rs : List Record) → All Aside rs → Rests s → (R : Judge → Type 0) → R s → Reach s (map of_record rs) R
asides-reach s rs a h R r = record { state = s; reads = asides-read s rs a h; credible = asides-credible rs a; holds = r }

-- and then the lines behind them, from the same state
pub asides_then : (s : Judge) (rs : List Record) → All Aside rs → Rests s → (ls : List Line) (R : Judge → Type 0) → Reach s ls R →
    Reach s (map of_record rs ++ ls) R
asides_then s rs a h ls R r =
    let one : Reach s (map of_record rs) (λ _. Unit {0}) = record { state = s; reads = asides-read s rs a h; credible = asides-credible rs a; holds = tt } in
    reach_then one r

-- the records of a small malloc, and of a small buffer's free
module _ (m : Manager) where
  pub small_asides : (n s : ℕ) (x : Answer) → All Aside (small_answered m n s x).records
  unfolding small_answered
  small_asides n s Missing = ((omega arith, omega arith), tt)
  small_asides n s (Failed c) = ((omega arith, omega arith), tt)
  small_asides n s (Done a) =
      either_way (λ (r : Reply). All Aside r.records) (incredible m a) _ _ ((omega arith, omega arith), tt) ((omega arith, omega arith), tt)

  pub drop_asides : (b : SmallBuffer) (x : Answer) → All Aside (drop_answered m b x).records
  unfolding drop_answered
  drop_asides b Missing = ((omega arith, omega arith), tt)
  drop_asides b (Failed c) = ((omega arith, omega arith), tt)
  drop_asides b (Done v) = ((omega arith, omega arith), tt)

-- and those of a close: one for each small buffer, where there are answers for all
pub drops_asides : (xs : List ℕ) (k : ℕ) (l : List SmallBuffer) → All Aside (drops xs k l)
drops_asides xs k [] = tt
drops_asides xs k (b ∷ l) =
    ((omega arith, omega arith), either_way (All Aside) (ltb (2 * k + 1) (length xs)) (drops xs (k + 1) l) [] (drops_asides xs (k + 1) l) tt)

pub drops-length : (xs : List ℕ) (k : ℕ) (l : List SmallBuffer) → k + length l ≤ length xs / 2 → length (drops xs k l) ≡ length l
drops-length xs k [] h = refl
drops-length xs k (b ∷ l) h = rw (lt-ltb (2 * k + 1) (length xs) (omega arith), drops-length xs (k + 1) l (omega arith))
