-- Close, once it is admitted: what its steps hand back.
use mathlib.Core.Path.{◌≡◌, refl, ap, ◌∙◌}
use mathlib.Core.List.{List}
use mathlib.Core.Bool.{cond}
use Prim.Native.Nat.{ℕ, ◌-◌}
use native.Mathlib.Omega.{arith}
use lib.ListN.{length}
use Rattle.tables.specs.Values.{Tables, tables_of}
use Rattle.std.specs.Prelude.{Ok, Err}
use Rattle.tables.specs.Outcomes.{is}
use Rattle.tables.specs.Steps.{Ending}
use Rattle.tables.specs.HandsBack.{Reply}
use Rattle.tables.specs.Close.{close_steps, failures, close_finished}
use Rattle.tables.specs.declared.Pool as tables
use Rattle.tables.specs.declared.Outcome.{Outcome}
use Rattle.tables.specs.declared.Outcome.TheVariants.{AnswersRanOut}
use Rattle.driving.specs.Ran.{point, stands}
use Rattle.driving.specs.declared.Driver.{Driver}
use Rattle.step_close.specs.Counting.{RanCounting}
use Rattle.step_close.specs.Promises.{Closes}
use Rattle.calls.specs.Promises.{Replies}
use Rattle.calls.specs.Leaving.{leaving_short, leaving_closed}
use Rattle.calls.specs.declared.Pool.{Pool}
use Rattle.calls.specs.declared.Called.{Called}
use Rattle.calls.proofs.Left.{Begins}

module _ {xs l : List ℕ} (q : tables.Pool) {d : Driver} (d' : Driver) {g : ℕ} {t : Tables} (same : tables_of q ≡ t) (b : Begins d xs l) where
  module _ {e : Ending (Unit {0})} (r : RanCounting close_steps d.answers.now (stands d (tables_of q)) 0 e (stands d' (tables_of q)) g) where
    counting : RanCounting close_steps xs (point 0 t l) 0 e (point d'.made t d'.log.now) g
    counting = rw (b.answers, b.made, b.log, same) at r

    made : d'.made ≡ length counting.ran.records
    made = omega (arith, counting.ran.made)

    counted : g ≡ failures counting.ran.records
    counted = omega (arith, counting.counted, ap (λ v. failures v.records) counting.ran.goes)

  module _ (p : Pool) {w : Reply} (rule : w ≡ close_finished p.value (close_steps xs 0 t).records (close_steps xs 0 t).ending) where
    -- 17
    pub closes-short : {o : Outcome} → Closes d 0 q (Err o) d' g → {r : Called} → r ≡ leaving_short p o d'.made → Replies w r l d'.log.now
    unfolding close_finished
    closes-short c h =
        let ran = (counting c.ran).ran in
        rw (rule, ran.goes)
        record { answer = h ∙ ap (leaving_short p _) (made c.ran) ∙ as-short _ _ (c.only _ refl); cells = ran.log }
      where
        as-short : (o : Outcome) (n : ℕ) → o ≡ AnswersRanOut →
            leaving_short p o n ≡ record { pool = p; outcome = o; records = n; taken = cond (is 17 o) (n - 1) n }
        as-short o n e = rw e refl

    pub closes_done : Closes d 0 q (Ok tt) d' g → {r : Called} → r ≡ leaving_closed g d'.made → Replies w r l d'.log.now
    unfolding close_finished
    closes_done c h =
        let ran = (counting c.ran).ran in
        rw (rule, ran.goes)
        record { answer = h ∙ ap (λ n. leaving_closed n d'.made) (counted c.ran) ∙ ap (leaving_closed _) (made c.ran); cells = ran.log }
