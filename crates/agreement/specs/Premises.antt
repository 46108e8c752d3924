-- docs/RULES.md 8.10: what is asked of the driver, over the lines of a trace, the oldest first.
use Rattle.std.specs.Prelude.{◌≡◌, Bool, true, cond, ◌&&◌, ◌||◌, not, List, [], ◌∷◌, ℕ, leb, eqb, length}
use Rattle.lists.specs.Tests.{every, filter}
use Rattle.words.specs.declared.Word.{Word}
use Rattle.words.specs.declared.Word.TheVariants.{
  Reserve,
  Create,
  Map,
  Access,
  Unmap,
  Release,
  Record as RecordEvent,
  Asked,
  Wait,
  Sync,
  Giveback,
}
use Rattle.trace.specs.declared.Line.{Line}
use Rattle.judge_rules.specs.Sizes.{most_mapped}
use Rattle.judge_rules.specs.Said.{said}
use Rattle.judge_rules.specs.Ranges.{inside}
use Rattle.judge_rules.specs.declared.Said.{Said}
use Rattle.judge_rules.specs.declared.Said.TheVariants.{Record, Call, Result, Aside, Unknown}

-- The driver fails only by refusing a reservation or by code 2 while creating a page. (`asked` never stops a call: any code of it will do.)
abbrev pub may_answer : Word → ℕ → Bool
may_answer Reserve code = true
may_answer Create code = eqb code 0 || eqb code 2
may_answer Asked code = true
may_answer Map code = eqb code 0
may_answer Access code = eqb code 0
may_answer Unmap code = eqb code 0
may_answer Release code = eqb code 0
may_answer RecordEvent code = eqb code 0
may_answer Wait code = eqb code 0
may_answer Sync code = eqb code 0
may_answer Giveback code = eqb code 0

abbrev pub reliable_by : Said → Line → Bool
reliable_by (Record w) l = may_answer w l.third
reliable_by (Call c) l = true
reliable_by Result l = true
reliable_by Aside l = true
reliable_by Unknown l = true

unfoldable pub reliable : Line → Bool
reliable l = reliable_by (said l.kind) l

-- Its answers are credible: no call answers 15.
abbrev pub credible_by : Said → Line → Bool
credible_by Result l = not (eqb l.third 15)
credible_by (Record w) l = true
credible_by (Call c) l = true
credible_by Aside l = true
credible_by Unknown l = true

unfoldable pub credible : Line → Bool
credible l = credible_by (said l.kind) l

-- The pages that are mapped, each by its address: a map of code 0 adds one, an unmap of code 0 takes away those in its range.
abbrev pub mapped_by : Word → ℕ → ℕ → List ℕ → List ℕ
mapped_by Map a b m = a ∷ m
mapped_by Unmap a b m = filter (λ x. not (inside a b x)) m
mapped_by Reserve a b m = m
mapped_by Create a b m = m
mapped_by Access a b m = m
mapped_by Release a b m = m
mapped_by RecordEvent a b m = m
mapped_by Asked a b m = m
mapped_by Wait a b m = m
mapped_by Sync a b m = m
mapped_by Giveback a b m = m

abbrev pub mapped_after_by : Said → Line → List ℕ → List ℕ
mapped_after_by (Record w) l m = cond (eqb l.third 0) (mapped_by w l.first l.second m) m
mapped_after_by (Call c) l m = m
mapped_after_by Result l m = m
mapped_after_by Aside l m = m
mapped_after_by Unknown l m = m

unfoldable pub mapped_after : Line → List ℕ → List ℕ
mapped_after l m = mapped_after_by (said l.kind) l m

-- No more than 4,096 pages are mapped at once, where `m` are mapped before these lines.
abbrev pub few_mapped : List ℕ → List Line → Bool
few_mapped m [] = true
few_mapped m (l ∷ ls) = let n = mapped_after l m in leb (length n) most_mapped && few_mapped n ls

pub record Premises (lines : List Line) : Type 0 where
  pub driver : every reliable lines ≡ true
  pub credible : every credible lines ≡ true
  pub mapped : few_mapped [] lines ≡ true
