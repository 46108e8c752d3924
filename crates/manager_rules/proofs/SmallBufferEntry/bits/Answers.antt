-- `manager_rules::SmallBufferEntry::bits` meets its contract: the numbers joined are 0 exactly in the empty buffer. They are those of a live buffer.
use mathlib.Core.Path.{ap}
use Rattle.tables.specs.Values.{buffer}
use Rattle.tables.proofs.Bits.{buffer-bits}
use Rattle.manager_rules.specs.Values.{small_buffer}
use Rattle.manager_rules.proofs.SmallBufferEntry.bits.Goals as goal

pub returns : goal.returns
returns c =
    let b = c.args.self in
    let joined = buffer-bits (buffer b.pointer b.size b.stream) in
    (λ e. ap (λ q. small_buffer q.start.0 q.size q.stream) (joined.0 e), λ e. joined.1 (ap (λ s. buffer s.pointer s.size s.stream) e))
