-- What stands between calls, and the calls that change nothing: refusals, and every call of a pool that was closed.
use mathlib.Core.Path.{◌≡◌, refl, ◌∙◌}
use mathlib.Core.Bool.{true, false}
use mathlib.Core.List.{List, [], ◌∷◌}
use Prim.Native.Nat.{ℕ}
use Rattle.lists.proofs.Every.{and-true}
use Rattle.tables.specs.Values.{Tables, opened, pool_of, closed_pool}
use Rattle.tables.specs.Outcomes.{numbers, is}
use Rattle.tables.specs.HandsBack.{refused}
use Rattle.tables.specs.Calls.{Call, mallocs, frees, closes}
use Rattle.tables.specs.declared.Pool.{Pool}
use Rattle.tables.specs.declared.LiveBuffer.{LiveBuffer}
use Rattle.tables.specs.declared.Outcome.{Outcome}
use Rattle.tables.specs.declared.Outcome.TheVariants.{PoolClosed}
use Rattle.trace.specs.declared.Reading.TheVariants.{Good}
use Rattle.keeping.specs.Sound.{none, Kept}
use Rattle.judge_rules.specs.Said.{said}
use Rattle.judge_rules.specs.Rules.{Judge}
use Rattle.judge_rules.specs.Verdict as Verdict
use Rattle.judge_rules.specs.declared.Run.{Run}
use Rattle.judge_rules.specs.declared.Call.{Call as Asked}
use Rattle.judge_rules.specs.declared.Call.TheVariants.{Malloc, Free, Close}
use Rattle.replay_lines.specs.Traced.{line_of, result_of}
use Rattle.agreement.specs.Runs.{entry}
use Rattle.agreement.specs.Premises.{credible}
use Rattle.agreement.specs.Agrees.{Inside, Agrees, Agreeing}
use Rattle.agreement.specs.Judges.{Reach, ReachedBy}
use Rattle.agreement.proofs.Judges.{all_read}
use Rattle.agreement.proofs.Entries.{step-malloc, step-free, step-close, step-result, credible-result, step-over, reach-entry}

-- An open pool: its tables are kept, and the judge agrees with them.
pub record Stands (p : Pool) (s : Judge) : Type 0 where
  pub tables : Tables
  pub lost : ℕ → ℕ
  pub pool : p ≡ pool_of opened tables
  pub kept : Kept lost tables
  pub opens : s.run.opened ≡ true
  pub waiting : s.run.waiting ≡ false
  pub over : s.run.over ≡ false
  pub agrees : Agreeing s.run none [] tables s

-- A pool that was closed with answer 0.
pub record Over (p : Pool) (s : Judge) : Type 0 where
  pub pool : p ≡ closed_pool
  pub opens : s.run.opened ≡ true
  pub waiting : s.run.waiting ≡ false
  pub over : s.run.over ≡ true

pub data Standing (p : Pool) (s : Judge) : Type 0 where
  stands : Stands p s → Standing p s
  ended : Over p s → Standing p s

-- the judge's call of a call, and the state after its line
abbrev pub call_of : Call → Asked
call_of (mallocs n k) = Malloc
call_of (frees a) = Free
call_of closes = Close

abbrev pub calling : Call → Judge → Judge
calling c s = Verdict.called (call_of c) s (line_of c)

pub step_call : (c : Call) (s : Judge) → s.run.opened ≡ true → s.run.waiting ≡ false → Verdict.step s (Good (line_of c)) ≡ Verdict.on (calling c s)
step_call (mallocs n k) s o w = step-malloc n k s (o, w)
step_call (frees a) s o w = step-free a s (o, w)
step_call closes s o w = step-close s (o, w)

pub credible-call : (c : Call) → credible (line_of c) ≡ true
unfolding credible said
credible-call (mallocs n k) = refl
credible-call (frees a) = refl
credible-call closes = refl

-- the relation does not depend on where in a run the judge is, but for page size and va_size
pub agrees-run : {run : Run} {new : ℕ → ℕ} {spare : List ℕ} {live : List LiveBuffer} {t : Tables} {s : Judge} (other : Run) → other.page ≡ run.page → other.va ≡ run.va →
    Agrees run new spare live t s → Agrees other new spare live t (Verdict.with_run s other)
agrees-run other p v g =
    record {
      runs = refl;
      page = p ∙ g.page;
      va = v ∙ g.va;
      reservations = g.reservations;
      held = g.held;
      aligned = g.aligned;
      mapped = g.mapped;
      active = g.active;
      owned = g.owned;
      buffers = g.buffers;
      last = g.last;
    }

pub inside_calling : (c : Call) (s : Judge) → s.run.over ≡ false → Inside (calling c s).run
inside_calling c s v = record { opened = refl; waiting = refl; over = v }

pub agrees_calling : (c : Call) {new : ℕ → ℕ} {spare : List ℕ} {live : List LiveBuffer} {t : Tables} {s : Judge} → Agrees s.run new spare live t s →
    Agrees (calling c s).run new spare live t (calling c s)
agrees_calling (mallocs n k) g = agrees-run _ refl refl g
agrees_calling (frees a) g = agrees-run _ refl refl g
agrees_calling closes g = agrees-run _ refl refl g

-- a result that is neither 0 nor 15
pub result-read : (o : Outcome) (s : Judge) → is 0 o ≡ false → is 15 o ≡ false → Inside s.run → (R : Judge → Type 0) → R (Verdict.told s) →
    Reach s (result_of (numbers o) ∷ []) R
result-read o s e n i R r =
    record {
      state = Verdict.told s;
      reads = rw (step-result (numbers o).first (numbers o).second (numbers o).number s i, e);
      credible = and-true _ true (credible-result (numbers o).first (numbers o).second (numbers o).number n) refl;
      holds = r;
    }

-- A refusal.
pub refused-read : (c : Call) (p : Pool) (s : Judge) (o : Outcome) → is 0 o ≡ false → is 15 o ≡ false → Stands p s →
    ReachedBy o s (entry (line_of c) (refused p o)) (Standing p)
refused-read c p s o e n h =
    all_read o n (λ _.
    reach-entry s (calling c s) (line_of c) (step_call c s h.opens h.waiting) (credible-call c) [] (result_of (numbers o)) (Standing p)
    (record {
      state = calling c s;
      reads = refl;
      credible = refl;
      holds = result-read o (calling c s) e n (inside_calling c s h.over) (Standing p) (stands (record {
        tables = h.tables;
        lost = h.lost;
        pool = h.pool;
        kept = h.kept;
        opens = refl;
        waiting = refl;
        over = h.over;
        agrees = agrees-run _ refl refl (agrees_calling c h.agrees);
      }));
    }))

-- A call of a closed pool.
pub over-read : (c : Call) (p : Pool) (s : Judge) → Over p s → ReachedBy PoolClosed s (entry (line_of c) (refused p PoolClosed)) (Standing p)
over-read c p s h =
    all_read PoolClosed refl (λ _.
    reach-entry s (calling c s) (line_of c) (step_call c s h.opens h.waiting) (credible-call c) [] (result_of (numbers PoolClosed)) (Standing p)
    (record {
      state = calling c s;
      reads = refl;
      credible = refl;
      holds = record {
        state = Verdict.told (calling c s);
        reads = rw (step-over (calling c s) refl refl h.over);
        credible = and-true _ true (credible-result 0 0 1 refl) refl;
        holds = ended (record { pool = h.pool; opens = refl; waiting = refl; over = h.over });
      };
    }))
