-- `replay_table_text::put_entry` meets its contract: the word, the numbers by the loop's law, and the line feed; a number behind its tab takes a field.
use mathlib.Core.Path.{refl}
use mathlib.Core.List.{List, [], ◌∷◌, append_assoc}
use Prim.Native.Nat.{ℕ, ◌≤◌, ◌<◌, ◌^◌}
use native.Mathlib.Omega.{arith}
use lib.ListN.{length}
use Rattle.lists.specs.Walks.{joined}
use Rattle.trace.specs.Bounds.{longest_field}
use Rattle.trace.specs.Put.{Put}
use Rattle.trace.proofs.Decimal.{at-most_twenty}
use Rattle.trace.proofs.Put.{put_then, put_as, put-length}
use Rattle.replay_table_text.specs.Tables.{field, entry}
use Rattle.replay_table_text.specs.Puts.{Puts, PutEntry}
use Rattle.replay_table_text.proofs.Walks.{Sofar, none_yet, one_more, all-put}
use Rattle.replay_table_text.proofs.put_entry.Goals as goal

put-number : {l m : List ℕ} {at r : ℕ} (n : ℕ) → n < 2 ^ 64 → Put l m at r (field n) → Puts longest_field l m at r (field n)
put-number n h p = record { puts = p; next = omega (arith, p.next, at-most_twenty n h) }

put-parts : {l m o u : List ℕ} {at p q r i : ℕ} (word numbers : List ℕ) → Put l m at p word → Sofar field longest_field numbers m p o i q → length numbers ≤ i
    → Put o u q r (10 ∷ []) → PutEntry word numbers l u at r
unfolding entry
put-parts word numbers a b h c =
    let d = all-put b h in
    record {
      puts = put_as (append_assoc word (joined field numbers) (10 ∷ [])) (put_then (put_then a d.puts) c);
      next = omega (arith, a.next, d.next, c.next);
    }

pub loop-number-init : goal.loop-number-init
loop-number-init c = none_yet _ _ _ _ _ (omega (arith, c.put_bytes-next.ensures.next, put-length c.put_bytes-next.ensures))

pub loop-number-preserved : goal.loop-number-preserved
loop-number-preserved c =
    one_more c.loop-number.invariant _ 0 c.loop-number-test.true refl (put-number _ (c.type_inv.numbers c.loop-number.number-index).fits c.put_field-next.ensures)

pub returns : goal.returns
returns c =
    let w = c.put_bytes-next in
    put-parts _ _ w.ensures c.loop-number.invariant c.loop-number-test.false c.put_byte.ensures
