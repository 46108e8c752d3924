-- `judge_whole::judge` meets its contract: the trace is its one chunk.
use Rattle.judge_chunks.proofs.Chunks.{one_chunk}
use Rattle.judge_whole.proofs.judge.Goals as goal

pub returns : goal.returns
returns c =
    one_chunk c.new-progress.ensures c.feed.ensures c.finish.ensures
