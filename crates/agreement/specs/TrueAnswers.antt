-- Which bases and handles can be true, by the lines alone: the driver's side of `credible`, which is the pool's word for it. A line is held against what the
-- lines before it say, those with the newest first.
use Rattle.std.specs.Prelude.{◌≡◌, Bool, true, cond, ◌&&◌, List, [], ◌∷◌}
use Rattle.lists.specs.Tests.{every}
use Rattle.words.specs.declared.Word.TheVariants.{Reserve, Create}
use Rattle.trace.specs.declared.Line.{Line}
use Rattle.judge_rules.specs.Rules.{R1, R2}
use Rattle.judge_rules.specs.SoFar.{did}
use Rattle.judge_rules.specs.Exactly.{known}
use Rattle.agreement.specs.Premises.{reliable, few_mapped}

-- A base that was handed out keeps R1, a handle R2; no other line is an answer that could be untrue.
abbrev pub believable : List Line → Line → Bool
believable before l =
    cond (did Reserve l) (R1 (known before) l.first l.second)
    (cond (did Create l) (R2 (known before) l.first)
    true)

-- So of every one of these lines, the oldest first.
abbrev pub all_believable : List Line → List Line → Bool
all_believable before [] = true
all_believable before (l ∷ ls) = believable before l && all_believable (l ∷ before) ls

-- The premises, with this in the place of `credible`: no result is looked at.
pub record Believed (lines : List Line) : Type 0 where
  pub driver : every reliable lines ≡ true
  pub answers : all_believable [] lines ≡ true
  pub mapped : few_mapped [] lines ≡ true
