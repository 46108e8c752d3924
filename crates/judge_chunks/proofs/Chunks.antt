-- Chunk after chunk comes to the verdict on the whole, however it is cut: each chunk says what it says in front of whatever follows.
use mathlib.Core.Path.{◌≡◌, ap, ◌∙◌}
use mathlib.Core.List.{List, [], append-nil}
use Prim.Native.Nat.{ℕ}
use Rattle.lists.specs.Walks.{joined}
use Rattle.trace.specs.Lines.{lines_of}
use Rattle.judge_rules.specs.Verdict.{verdict}
use Rattle.judge_rules.specs.declared.Verdict.{Verdict}
use Rattle.judge_chunks.specs.Promises.{verdict_after, IsStart, Feeds, Comes}
use Rattle.judge_chunks.specs.declared.Progress.{Progress}
use Rattle.judge_chunks.proofs.StartAndEnd.{start-says}

comes-says : {r : Verdict} {cs : List (List ℕ)} {p : Progress} → Comes r cs p → r ≡ verdict_after p (joined (λ c. c) cs)
comes-says (Comes.ends e) = e
comes-says (Comes.feeds {chunks = cs} f k) = comes-says k ∙ f.says (joined (λ c. c) cs)

-- from the start
pub any_chunks : {r : Verdict} (cs : List (List ℕ)) {p : Progress} → IsStart p → Comes r cs p → r ≡ verdict (lines_of (joined (λ c. c) cs))
any_chunks cs {p} s k = comes-says k ∙ start-says p s (joined (λ c. c) cs)

-- a trace in one chunk
pub one_chunk : {v : Verdict} {p q : Progress} {chunk : List ℕ} → IsStart p → Feeds q p chunk → v ≡ verdict_after q [] → v ≡ verdict (lines_of chunk)
one_chunk {p = p} {chunk = chunk} s f w =
    w ∙ f.says [] ∙ ap (λ (b : List ℕ). verdict_after p b) (append-nil chunk) ∙ start-says p s chunk
