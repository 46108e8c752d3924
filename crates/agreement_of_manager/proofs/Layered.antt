-- What stands between the calls of a layer: the judge agrees with a pool, which is the layer's own, or the layer's own is that pool stopped: a small malloc
-- that answers 15 stops the pool and leaves the judge no line. Or the layer was closed. And the calls that change nothing: refusals.
use mathlib.Core.Path.{◌≡◌, refl, ap, sym, ◌∙◌, subst}
use mathlib.Core.Logic.{◌⊎◌, inl, inr}
use mathlib.Core.Bool.{true, false}
use mathlib.Core.List.{List, []}
use Prim.Native.Nat.{ℕ}
use native.Mathlib.Omega.{arith}
use lib.Dec.{eqb}
use lib.ListN.{length}
use lib.Seq.{take-nil, drop-nil}
use Rattle.lists.specs.Tests.{every, any}
use Rattle.words.specs.declared.Record.{Record}
use Rattle.tables.specs.Values.{closed, opened, closed_pool, pool_of}
use Rattle.tables.specs.Outcomes.{is}
use Rattle.tables.specs.Calls.{Call, mallocs, frees, closes}
use Rattle.tables.specs.declared.Pool.{Pool}
use Rattle.tables.specs.declared.Outcome.{Outcome}
use Rattle.tables.specs.declared.Outcome.TheVariants.{PoolClosed}
use Rattle.trace.specs.declared.Line.{Line}
use Rattle.answering.proofs.Calls.{either_way}
use Rattle.judge_rules.specs.Rules.{Judge}
use Rattle.replay_lines.specs.Traced.{line_of}
use Rattle.agreement.specs.Premises.{credible}
use Rattle.agreement.specs.Judges.{Reach, Fair, addresses}
use Rattle.agreement.proofs.Reading.{reach_to}
use Rattle.agreement.proofs.Standing.{Stands, Over, Standing, stands, ended, refused-read, over-read}
use Rattle.agreement.proofs.Run.{Rests}
use Rattle.manager_rules.specs.Values.{small}
use Rattle.manager_rules.specs.Sizes.{Request, unfit, smaller, whole, request}
use Rattle.manager_rules.specs.HandsBack.{Reply, refused, admitted}
use Rattle.manager_rules.specs.Malloc.{stopped_pool, malloc}
use Rattle.manager_rules.specs.Free.{free}
use Rattle.manager_rules.specs.Close.{close}
use Rattle.manager_rules.specs.Calls.{answer}
use Rattle.manager_rules.specs.declared.Manager.{Manager}
use Rattle.agreement_of_manager.specs.LayerRuns.{entry, malloc_lines, lines_of}

-- The pool that the judge agrees with, and what it is to the layer's.
pub record Beneath (p : Pool) (s : Judge) : Type 0 where
  pub under : Pool
  pub agrees : Stands under s
  pub same : (p ≡ under) ⊎ (p ≡ stopped_pool under)

pub data Layered (p : Pool) (s : Judge) : Type 0 where
  goes : Beneath p s → Layered p s
  over : Over p s → Layered p s

pub layered : (p : Pool) (s : Judge) → Standing p s → Layered p s
layered p s (stands h) = goes (record { under = p; agrees = h; same = inl refl })
layered p s (ended h) = over h

pub rests : (p : Pool) (s : Judge) → Layered p s → Rests s
rests p s (goes b) = (b.agrees.opens, b.agrees.waiting)
rests p s (over h) = (h.opens, h.waiting)

-- what stops the layer's pool leaves the judge where it was
pub stops : (p : Pool) (s : Judge) → Beneath p s → Beneath (stopped_pool p) s
stops p s b = record { under = b.under; agrees = b.agrees; same = go b.same }
  where
    go : (p ≡ b.under) ⊎ (p ≡ stopped_pool b.under) → (stopped_pool p ≡ b.under) ⊎ (stopped_pool p ≡ stopped_pool b.under)
    go (inl e) = inr (ap stopped_pool e)
    go (inr e) = inr (ap stopped_pool e)

-- the pool beneath is open, so it is the same after a call that leaves it as it was
still : (p : Pool) (s z : Judge) (b : Beneath p s) → Standing b.under z → Layered p z
unfolding pool_of
still p s z b (stands h) = goes (record { under = b.under; agrees = h; same = b.same })
still p s z b (ended h) =
    let e : ◌≡◌ {A = ℕ} opened closed = ap (λ (q : Pool). q.state) (sym b.agrees.pool ∙ h.pool) in
    absurd (omega arith)

-- What is to be shown of a call of the layer that answers `r`.
abbrev pub Reads : Judge → List Line → Reply → Type 0
Reads s ls r = Fair (addresses s.mapped) ls → every credible ls ≡ true → is 17 r.outcome ≡ false → Reach s ls (Layered r.manager.pool)

abbrev pub LayerReads : Manager → Call → Judge → Reply → Type 0
LayerReads m c s r = Reads s (lines_of m c r) r

-- no line at all
pub none_read : (s : Judge) (R : Judge → Type 0) → R s → Reach s [] R
none_read s R r = record { state = s; reads = refl; credible = refl; holds = r }

-- A refusal is a call of the pool with no record, or no line.
refused-lines : (K : List Line → Type 0) (m : Manager) (c : Call) (o : Outcome) → K [] → ((d : Call) → K (entry (line_of d) [] o)) →
    K (lines_of m c (refused m o))
refused-lines K m (mallocs n k) o none asks = go (request m.pool.page n)
  where
    go : (q : Request) → K (malloc_lines q k (refused m o))
    go unfit = none
    go smaller = none
    go (whole b) = asks (mallocs b k)
refused-lines K m (frees a) o none asks = either_way K (any (λ b. eqb b.pointer a) (small m)) _ _ none (asks (frees a))
refused-lines K m closes o none asks =
    let k = length (small m) in
    let e : lines_of m closes (refused m o) ≡ entry (line_of closes) [] o = cc (take-nil {A = Record} k, drop-nil {A = Record} k) in
    subst K (sym e) (asks closes)

module _ (m : Manager) (s : Judge) where
  -- whatever the number is, but 0, 15 and 17
  pub refusal-entry : (d : Call) (o : Outcome) → is 0 o ≡ false → is 15 o ≡ false → Beneath m.pool s → Reads s (entry (line_of d) [] o) (refused m o)
  refusal-entry d o e n b fair plain long =
      reach_to (λ z q. still m.pool s z b q) ((refused-read d b.under s o e n b.agrees).reaches (rw (n, long)))

  pub refusal-read : (c : Call) (o : Outcome) → is 0 o ≡ false → is 15 o ≡ false → Beneath m.pool s → LayerReads m c s (refused m o)
  refusal-read c o e n b =
      refused-lines (λ ls. Reads s ls (refused m o)) m c o (λ _ _ _. none_read s _ (goes b)) (λ d. refusal-entry d o e n b)

  -- A closed layer refuses every call.
  closed-refuses : (c : Call) (xs : List ℕ) (log : ℕ) → m.pool ≡ closed_pool → answer m c xs log ≡ refused m PoolClosed
  unfolding malloc free close admitted pool_of
  closed-refuses (mallocs n k) xs log e = rw (ap (λ (q : Pool). eqb q.state closed) e)
  closed-refuses (frees a) xs log e = rw (ap (λ (q : Pool). eqb q.state closed) e)
  closed-refuses closes xs log e = rw (ap (λ (q : Pool). eqb q.state closed) e)

  pub closed-read : (c : Call) (xs : List ℕ) (log : ℕ) → Over m.pool s → LayerReads m c s (answer m c xs log)
  closed-read c xs log h =
      subst (LayerReads m c s) (sym (closed-refuses c xs log h.pool))
      (refused-lines (λ ls. Reads s ls (refused m PoolClosed)) m c PoolClosed (λ _ _ _. none_read s _ (over h)) (λ d _ _ _.
      reach_to (λ z q. layered m.pool z q) ((over-read d m.pool s h).reaches refl)))
