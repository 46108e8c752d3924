-- Each call answers one of its numbers, for every pool, every argument, all answers and every log: the refusals in turn, then what its steps may answer.
use mathlib.Core.Path.{◌≡◌, refl}
use mathlib.Core.Bool.{Bool, true, false, cond, ◌||◌, not}
use mathlib.Core.List.{List}
use mathlib.Core.Option.{Option, some, none}
use Prim.Native.Nat.{ℕ, ◌+◌, ◌%◌}
use borrow.Author.Tests.{not-false}
use lib.Dec.{ltb, leb, eqb}
use Rattle.lists.specs.Tests.{first}
use Rattle.words.specs.declared.Record.{Record}
use Rattle.tables.specs.Bounds.{IDS, LOG, SPANS}
use Rattle.tables.specs.Values.{closed, stopped, at_entry, no_tables}
use Rattle.tables.specs.Steps.{Ending, on, ends}
use Rattle.tables.specs.WellFormed.{well_formed}
use Rattle.tables.specs.HandsBack.{Reply, refused, finished, admitted}
use Rattle.tables.specs.Open.{page_size, bad_configuration, open_finished, open_pool}
use Rattle.tables.specs.Malloc.{malloc_by, malloc}
use Rattle.tables.specs.Free.{free_found, free}
use Rattle.tables.specs.Close.{close_steps, close_finished, close}
use Rattle.tables.specs.Calls.{Call, mallocs, frees, closes, answer}
use Rattle.tables.specs.declared.LiveBuffer.{LiveBuffer}
use Rattle.tables.specs.declared.Pool.{Pool}
use Rattle.tables.specs.declared.Outcome.TheVariants.{PoolClosed, PoolStopped, NotWellFormed, ShortLog, IdsSpent}
use Rattle.keeping.specs.Holds.{After}
use Rattle.keeping.proofs.WellFormedEnters.{Entered, enters}
use Rattle.keeping.proofs.Calls.{is_open_lem}
use Rattle.answering.specs.Answers.{open_numbers, malloc_numbers, free_numbers, close_numbers, numbers_of, among}
use Rattle.answering.proofs.Steps.{open_steps-answer, malloc_steps-answer, free_steps-answer, close_steps-ends}

-- what holds of both ways that a test can go, where the way on knows the result
pub tested : {A : Type 0} (K : A → Type 0) (b : Bool) (x y : A) → K x → (b ≡ false → K y) → K (cond b x y)
tested K true x y h g = h
tested K false x y h g = g refl

pub either_way : {A : Type 0} (K : A → Type 0) (b : Bool) (x y : A) → K x → K y → K (cond b x y)
either_way K b x y h g = tested K b x y h (λ _. g)

-- the outcome of a reply is one of the list
abbrev Answered : List ℕ → Reply → Type 0
Answered l r = among l r.outcome ≡ true

pub open-answers : (granularity override va initial stream : ℕ) (xs : List ℕ) (log : ℕ) →
    among open_numbers (open_pool granularity override va initial stream xs log).outcome ≡ true
unfolding open_pool open_finished
open-answers granularity override va initial stream xs log =
    either_way (Answered open_numbers) (ltb log LOG) _ _ refl
    (either_way (Answered open_numbers) (bad_configuration granularity override va initial) _ _ refl
    (open_steps-answer (λ o. among open_numbers o ≡ true) (λ o e. rw e)
    (record { reserves = λ _ _. refl; memory = λ _ _. refl; fails = λ _. refl; incredible = refl; short = refl })
    initial stream xs 0 (no_tables (page_size granularity override) va)))

-- what holds of 1 to 5, and of how the call goes on, which knows the tables at entry
pub admitted-entered : (K : Reply → Type 0) (p : Pool) (log : ℕ) (r : Reply) → K (refused p PoolClosed) → K (refused p PoolStopped) →
    K (refused p NotWellFormed) → K (refused p ShortLog) → K (refused p IdsSpent) → (Entered p → K r) → K (admitted p log r)
unfolding admitted
admitted-entered K p log r gone stops forms logs ids h =
    tested K (eqb p.state closed) _ _ gone (λ _.
    tested K (eqb p.state stopped) _ _ stops (λ running.
    tested K (not (well_formed p)) _ _ forms (λ formed.
    tested K (ltb log LOG) _ _ logs (λ _.
    tested K (leb IDS p.counter) _ _ ids (λ _.
    let w = not-false (well_formed p) formed in
    h (enters p (is_open_lem p w running) w))))))

pub admitted_by : (K : Reply → Type 0) (p : Pool) (log : ℕ) (r : Reply) → K (refused p PoolClosed) → K (refused p PoolStopped) →
    K (refused p NotWellFormed) → K (refused p ShortLog) → K (refused p IdsSpent) → K r → K (admitted p log r)
admitted_by K p log r gone stops forms logs ids h = admitted-entered K p log r gone stops forms logs ids (λ _. h)

malloc-answers : (p : Pool) (n s : ℕ) (xs : List ℕ) (log : ℕ) → among malloc_numbers (malloc p n s xs log).outcome ≡ true
unfolding malloc_by finished
malloc-answers p n s xs log =
    admitted_by (Answered malloc_numbers) p log _ refl refl refl refl refl
    (either_way (Answered malloc_numbers) (eqb n 0 || not (eqb (n % p.page) 0)) _ _ refl
    (either_way (Answered malloc_numbers) (leb SPANS (p.free.count + p.live.count)) _ _ refl
    (malloc_steps-answer (λ o. among malloc_numbers o ≡ true)
    (record { reserves = λ _ _. refl; memory = λ _ _. refl; fails = λ _. refl; incredible = refl; short = refl })
    (record { exceeds = λ _ _. refl; pages = refl; zombies = refl; roots = refl })
    n s (λ o e. rw e) xs 0 (at_entry p))))

free-answers : (p : Pool) (a : ℕ) (xs : List ℕ) (log : ℕ) → among free_numbers (free p a xs log).outcome ≡ true
unfolding free free_found finished
free-answers p a xs log = admitted_by (Answered free_numbers) p log _ refl refl refl refl refl (found (first (λ b. eqb b.start.0 a) (at_entry p).live))
  where
    found : (o : Option LiveBuffer) → among free_numbers (free_found p a xs o).outcome ≡ true
    found none = refl
    found (some b) = free_steps-answer (λ o. among free_numbers o ≡ true) refl (λ _. refl) b (λ o e. rw e) xs 0 (at_entry p)

close-answers : (p : Pool) (xs : List ℕ) (log : ℕ) → among close_numbers (close p xs log).outcome ≡ true
unfolding close close_finished
close-answers p xs log =
    let w = close_steps xs 0 (at_entry p) in
    either_way (Answered close_numbers) (eqb p.state closed) _ _ refl
    (either_way (Answered close_numbers) (not (well_formed p)) _ _ refl
    (either_way (Answered close_numbers) (ltb log LOG) _ _ refl
    (left w.records w.ending ((close_steps-ends (λ o. among close_numbers o ≡ true) refl).leaves xs 0 (at_entry p) tt))))
  where
    left : (rs : List Record) (e : Ending (Unit {0})) → After (λ _ _. Unit {0}) (λ o _. among close_numbers o ≡ true) (close_steps xs 0 (at_entry p)).tables e →
        among close_numbers (close_finished p rs e).outcome ≡ true
    left rs (on u) h = refl
    left rs (ends o) h = h

-- Every call answers one of its numbers.
pub call-answers : (p : Pool) (c : Call) (xs : List ℕ) (log : ℕ) → among (numbers_of c) (answer p c xs log).outcome ≡ true
call-answers p (mallocs n s) xs log = malloc-answers p n s xs log
call-answers p (frees a) xs log = free-answers p a xs log
call-answers p closes xs log = close-answers p xs log
