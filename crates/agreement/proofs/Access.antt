-- Access: R6 asks for one or more whole mapped pages.
use mathlib.Core.List.{List}
use Prim.Native.Nat.{ℕ, ◌≤◌, ◌<◌}
use native.Mathlib.Omega.{arith}
use Rattle.words.specs.declared.Word.TheVariants.{Access}
use Rattle.tables.specs.Values.{Tables}
use Rattle.tables.specs.declared.LiveBuffer.{LiveBuffer}
use Rattle.keeping.specs.Cover.{within}
use Rattle.keeping.specs.Sound.{WholeRange}
use Rattle.keeping.proofs.Cover.{within_in}
use Rattle.judge_rules.specs.Rules.{Judge, R6}
use Rattle.judge_rules.specs.Verdict.{recorded, ruled}
use Rattle.judge_rules.specs.declared.Run.{Run}
use Rattle.agreement.specs.Agrees.{Serving, Agrees}
use Rattle.agreement.proofs.Words.{Accepts}
use Rattle.agreement.proofs.Meets.{whole-mapped, agrees-inside, agrees-seen}
use Rattle.agreement.proofs.Agrees.{agrees-page}

-- every page of a range that is new is mapped
pub accepts-access : {run : Run} (serving : Serving run) {new : ℕ → ℕ} {spare : List ℕ} {live : List LiveBuffer} {t : Tables} {s : Judge} {R : Judge → Type 0} (a n : ℕ) →
    Agrees run new spare live t s → 0 < t.fields.page → WholeRange t.fields.page a n → ((x : ℕ) → within a n x ≤ new x) → R s → Accepts Access a n s R
unfolding recorded ruled R6
accepts-access serving {t = t} {s = s} a n g pos range mapped r =
    let met = whole-mapped t.fields.page a n s.mapped pos range (λ x e le lt. omega (arith, g.mapped x e, mapped x, within_in a n x le lt)) in
    record { inside = agrees-inside serving g; state = s; accepts = rw (agrees-seen serving g, agrees-page g, met); holds = r }
