-- The hand-overs, with one more, and those that a free leaves.
use mathlib.Core.Path.{◌≡◌, ap, ◌∙◌}
use mathlib.Core.Bool.{not}
use mathlib.Core.List.{◌∷◌, [], ◌++◌, reverse}
use Prim.Native.Nat.{ℕ, suc, ◌≤◌}
use native.Mathlib.Omega.{arith}
use lib.Dec.{eqb}
use lib.ListN.{length}
use Rattle.std.specs.List as library
use Rattle.std.proofs.lemmas.List.{length-reverse}
use Rattle.fixed_rows.specs.Rows.{Rows, rows_len}
use Rattle.lists.specs.Tests.{filter}
use Rattle.judge_rules.specs.Sizes.{most_live}
use Rattle.judge_steps.proofs.Stepping.{rest-plain}
use Rattle.judge_tables.proofs.Newest.{newest-more}
use Rattle.summary_counts.specs.HandOvers.{hand_overs_in, Leaves}
use Rattle.summary_counts.specs.declared.handed.HandOver.{HandOver}

-- the judge takes no malloc's result where there is no room
pub no_room : (t : Rows HandOver) (o : HandOver) → rows_len t ≡ most_live → Leaves t (o ∷ hand_overs_in t)
no_room t o e q = let z : suc (length (hand_overs_in t)) ≤ most_live = q in absurd (omega (arith, length-reverse t.items))

pub handed-more : (t t' : Rows HandOver) (o : HandOver) → t'.items ≡ t.items ++ o ∷ [] → Leaves t' (o ∷ hand_overs_in t)
handed-more t t' o e q = ap reverse e ∙ newest-more t.items o

pub handed-left : (a : ℕ) (t t' : Rows HandOver) → t'.items ≡ library.filter (λ o. not (eqb o.start a)) t.items → Leaves t' (filter (λ o. not (eqb o.start a)) (hand_overs_in t))
handed-left a t t' e q = ap reverse e ∙ rest-plain (λ o. not (eqb o.start a)) t.items
