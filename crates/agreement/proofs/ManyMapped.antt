-- The premise on mapped pages is needed too: in a run whose driver never fails and answers credibly 64 pages are moved 64 times, each time to another stream,
-- and their old addresses stay mapped because no event is complete. That is 4,160 mapped pages, and no such trace is accepted.
use mathlib.Core.Path.{◌≡◌, refl}
use mathlib.Core.Bool.{Bool, true, false, cond, ◌&&◌, not, false≢true}
use mathlib.Core.List.{List, [], ◌∷◌, ◌++◌, map}
use Prim.Native.Nat.{ℕ, zero, suc, ◌+◌, ◌≤◌, ◌<◌}
use native.Mathlib.Omega.{arith}
use borrow.Author.Tests.{leb-true, ltb-true}
use lib.Dec.{leb, ltb}
use lib.ListN.{length}
use Rattle.lists.specs.Tests.{every}
use Rattle.lists.proofs.Tests.{both}
use Rattle.words.specs.Answers.{of_pair, lent}
use Rattle.cells.specs.Table.{entries, pack}
use Rattle.tables.specs.Bounds.{LOG}
use Rattle.tables.specs.Values.{tables_of, in_order, pool_of}
use Rattle.tables.specs.Steps.{◌>>=◌}
use Rattle.tables.specs.Outcomes.{is}
use Rattle.tables.specs.Driver as Driver
use Rattle.tables.specs.InsertHole.{insert_hole}
use Rattle.tables.specs.InsertFree.{insert_free}
use Rattle.tables.specs.TakeRange as TakeRange
use Rattle.tables.specs.NewPages.{map_page, unmake, roll_back, created, insert_new}
use Rattle.tables.specs.Pull.{settle, pull_one, pull_in}
use Rattle.tables.specs.MakeRoom.{fill, make_room}
use Rattle.tables.specs.Cleanup.{clean, cleanup}
use Rattle.tables.specs.Fit.{take_over, or_other, fit}
use Rattle.tables.specs.WellFormed.{allowed, ceilings_kept, sound, well_formed}
use Rattle.tables.specs.HandsBack.{finished, admitted}
use Rattle.tables.specs.Open.{open_steps, bad_configuration, open_finished, open_pool}
use Rattle.tables.specs.Malloc.{room_refused, or_room, hand_over, malloc_steps, malloc_by}
use Rattle.tables.specs.Free.{free_steps, free_found, free}
use Rattle.tables.specs.Close.{close_steps, close_finished, close}
use Rattle.tables.specs.Calls.{mallocs, frees, answer}
use Rattle.tables.specs.declared.Pool.{Pool}
use Rattle.trace.specs.Kinds.{open_line}
use Rattle.trace.specs.declared.Line.{Line}
use Rattle.trace.specs.declared.Reading.TheVariants.{Good}
use Rattle.judge_rules.specs.Sizes.{most_mapped}
use Rattle.judge_rules.specs.Said.{said}
use Rattle.judge_rules.specs.Verdict.{verdict}
use Rattle.judge_rules.specs.declared.Verdict.TheVariants.{Accepted}
use Rattle.replay_lines.specs.Traced.{line_of}
use Rattle.agreement.specs.Runs.{Lent, Opening, opened, entry, trace_from, trace_of}
use Rattle.agreement.specs.Premises as Premises
use Rattle.agreement.proofs.Reading.{every_append}
use Rattle.agreement.proofs.FewMapped.{accepted-few}

-- the pages that are mapped after these lines
abbrev mapped_in : List ℕ → List Line → List ℕ
mapped_in m [] = m
mapped_in m (l ∷ ls) = mapped_in (Premises.mapped_after l m) ls

few-after : (m : List ℕ) (ls : List Line) → length m ≤ most_mapped → Premises.few_mapped m ls ≡ true → length (mapped_in m ls) ≤ most_mapped
few-after m [] h e = h
few-after m (l ∷ ls) h e =
    let n = Premises.mapped_after l m in
    let b = both (leb (length n) most_mapped) (Premises.few_mapped n ls) e in
    few-after n ls (leb-true (length n) most_mapped b.0) b.1

-- reliable and credible lines
abbrev fair : List Line → Bool
fair ls = every Premises.reliable ls && every Premises.credible ls

-- What is to be computed of calls, one after the other: none is answered 17, their lines are fair, and after them too many pages are mapped.
abbrev exceeds : Pool → List ℕ → List Lent → Bool
exceeds p m [] = ltb most_mapped (length m)
exceeds p m (c ∷ cs) =
    let r = answer p c.call c.answers c.log in
    let ls = entry (line_of c.call) r in
    not (is 17 r.outcome) && (fair ls && exceeds r.pool (mapped_in m ls) cs)

record Exceeding (m : List ℕ) (ls : List Line) : Type 0 where
  reliable : every Premises.reliable ls ≡ true
  credible : every Premises.credible ls ≡ true
  many : most_mapped < length (mapped_in m ls)

mapped-append : (m : List ℕ) (l r : List Line) → mapped_in m (l ++ r) ≡ mapped_in (mapped_in m l) r
mapped-append m [] r = refl
mapped-append m (x ∷ l) r = mapped-append (Premises.mapped_after x m) l r

exceeding-append : (m : List ℕ) (l r : List Line) → fair l ≡ true → Exceeding (mapped_in m l) r → Exceeding m (l ++ r)
exceeding-append m l r e x =
    let b = both (every Premises.reliable l) (every Premises.credible l) e in
    record {
      reliable = every_append Premises.reliable l r b.0 x.reliable;
      credible = every_append Premises.credible l r b.1 x.credible;
      many = rw (mapped-append m l r) x.many;
    }

exceeds_trace : (p : Pool) (m : List ℕ) (cs : List Lent) → exceeds p m cs ≡ true → Exceeding m (trace_from p cs)
exceeds_trace p m [] e = record { reliable = refl; credible = refl; many = ltb-true most_mapped (length m) e }
exceeds_trace p m (c ∷ cs) e =
    let r = answer p c.call c.answers c.log in
    let ls = entry (line_of c.call) r in
    let b = both (not (is 17 r.outcome)) (fair ls && exceeds r.pool (mapped_in m ls) cs) e in
    let d = both (fair ls) (exceeds r.pool (mapped_in m ls) cs) b.1 in
    let rest = trace_from r.pool cs in
    go (is 17 r.outcome) b.0 rest (ls ++ rest) (exceeding-append m ls rest d.0 (exceeds_trace r.pool (mapped_in m ls) cs d.1))
  where
    go : (b : Bool) → not b ≡ true → (x y : List Line) → Exceeding m y → Exceeding m (cond b x y)
    go true e x y h = absurd (false≢true e)
    go false e x y h = h

-- The run: pages of one byte in a root of 65 times 64; 64 initial pages, of handles 1 to 64.
abbrev zeros : ℕ → List ℕ
zeros zero = []
zeros (suc k) = 0 ∷ zeros k

abbrev making : ℕ → ℕ → List ℕ
making zero h = zeros 6
making (suc k) h = 0 ∷ h ∷ 0 ∷ 0 ∷ making k (h + 1)

abbrev opening : Opening
opening = record { granularity = 1; override = 0; va = 4160; initial = 64; stream = 0; answers = 0 ∷ 1000 ∷ making 64 1; log = LOG }

-- `k` times: all pages are asked for on the next stream, and freed. Every answer is 0: done, or not complete.
abbrev moves : ℕ → ℕ → ℕ → List Lent
moves zero a s = []
moves (suc k) a s =
    record { call = mallocs 64 s; answers = zeros 268; log = LOG } ∷ record { call = frees a; answers = zeros 2; log = LOG } ∷ moves k (a + 64) (s + 1)

abbrev calls : List Lent
calls = moves 64 1064 1

computed : (let ls = entry (open_line 1 4160 64) (opened opening) in
    is 0 (opened opening).outcome && (fair ls && exceeds (opened opening).pool (mapped_in [] ls) calls)) ≡ true
unfolding ◌>>=◌ entries pack tables_of in_order pool_of of_pair lent Driver.reserve Driver.create Driver.map Driver.access Driver.unmap Driver.release Driver.record_event Driver.ask Driver.wait Driver.sync Driver.giveback insert_hole insert_free TakeRange.smallest_hole TakeRange.cut_hole TakeRange.credible TakeRange.reserve_root TakeRange.take_hole TakeRange.take_range map_page unmake roll_back created insert_new settle pull_one pull_in fill make_room clean cleanup take_over or_other fit allowed ceilings_kept sound well_formed finished admitted open_steps bad_configuration open_finished open_pool room_refused or_room hand_over malloc_steps malloc_by free_steps free_found free close_steps close_finished close said Premises.reliable Premises.credible Premises.mapped_after
computed = refl

opens : (is 0 (opened opening).outcome ≡ true) × Exceeding [] (trace_of opening calls)
opens =
    let p = (opened opening).pool in
    let ls = entry (open_line 1 4160 64) (opened opening) in
    let b = both (is 0 (opened opening).outcome) (fair ls && exceeds p (mapped_in [] ls) calls) computed in
    let d = both (fair ls) (exceeds p (mapped_in [] ls) calls) b.1 in
    (b.0, exceeding-append [] ls (trace_from p calls) d.0 (exceeds_trace p (mapped_in [] ls) calls d.1))

-- The opening succeeds, the driver is reliable and its answers are credible, but the trace is not accepted.
pub too_many-mapped : (is 0 (opened opening).outcome ≡ true) × ((every Premises.reliable (trace_of opening calls) ≡ true) ×
    ((every Premises.credible (trace_of opening calls) ≡ true) × (verdict (map Good (trace_of opening calls)) ≡ Accepted → ⊥)))
too_many-mapped =
    let lines = trace_of opening calls in
    let x = opens.1 in
    (opens.0, (x.reliable, (x.credible, λ e. omega (arith, x.many, few-after [] lines (omega arith) (accepted-few lines e)))))
