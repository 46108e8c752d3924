-- `step_cleanup::cleanup` meets its contract. The invariant: what the rest of the walk does from here, the whole walk does, and what is held is sound.
use mathlib.Core.Path.{◌≡◌, ap, ◌∙◌}
use mathlib.Core.Bool.{Bool, true, false}
use Prim.Native.Nat.{◌+◌, ◌-◌, ◌<◌}
use native.Mathlib.Omega.{arith}
use native.Mathlib.Numerals.{unary_clauses}
use lib.ListN.{length, get_or}
use Rattle.std.proofs.lemmas.Result.{err_from_is_err_and}
use Rattle.words.specs.declared.Word.TheVariants.{Unmap}
use Rattle.tables.specs.Values.{Tables, zombies_of, empty_zombie}
use Rattle.tables.specs.Steps.{Ending, on}
use Rattle.tables.specs.Driver.{is_complete, try}
use Rattle.tables.specs.Cleanup.{cleanup}
use Rattle.tables.proofs.Packs.{zombies-count, zombies_cell}
use Rattle.driving.specs.Ran.{Ran, Lent, stands}
use Rattle.driving.specs.Endings.{ending}
use Rattle.driving.specs.Promises.{telling}
use Rattle.driving.proofs.Lent.{lent-same, lent-then}
use Rattle.driving.proofs.Ran.{next, gave, looked}
use Rattle.step_cleanup.specs.Promises.{cleaning}
use Rattle.step_cleanup.proofs.Turns.{walk_out, walk-on, walk-clean, walk-stop}
use Rattle.step_cleanup.proofs.Sounds.{it-ends, room}
use Rattle.step_cleanup.proofs.Cleans.{kept-left, count_left, cleanable-left, cleans-stop, cleans-on}
use Rattle.step_cleanup.proofs.cleanup.Goals as goal
use Rattle.step_cleanup.proofs.cleanup.Goals.{In-loop-at, After-is_complete, After-try_tell}

-- the zombie at the place is left to be asked
some_left : (c : In-loop-at) → 0 < length (zombies_of c.loop-at.zombies) - c.loop-at.at
some_left c = omega (arith, c.loop-at-test.true, zombies-count c.loop-at.zombies c.loop-at.invariant.able.zombies)

-- what `is_complete` said, of the walk's own zombie
asked : (c : After-is_complete) {a : Ending Bool} → ending c.is_complete.result ≡ a → (t : Tables) →
    Ran (is_complete (get_or (zombies_of c.loop-at.zombies) c.loop-at.at empty_zombie).id.0) c.args.driver.now.answers.now
    (stands c.loop-at.driver (cleaning c.loop-at.zombies c.loop-at.holes t)) a
    (stands c.is_complete.new.self (cleaning c.loop-at.zombies c.loop-at.holes t))
asked c e t =
    rw (e, ← zombies_cell c.loop-at.zombies c.loop-at.at c.loop-at-test.true, c.loop-at.invariant.lent.answers) at
    (c.is_complete.ensures.ran (cleaning c.loop-at.zombies c.loop-at.holes t))

pub loop-at-init : goal.loop-at-init
loop-at-init c =
    record { place = omega arith; able = c.requires.0; lent = lent-same c.args.driver.now; most = omega arith; whole = λ t e u r. simp unary_clauses at r }

pub returns-in_err-is_complete : goal.returns-in_err-is_complete
unfolding cleanup
returns-in_err-is_complete c =
    let p = err_from_is_err_and c.from_residual.result c.from_residual.ensures.1 in
    let at = goal.at.returns-in_err-is_complete c in
    let v = c.loop-at.invariant in
    let said = asked at.After-is_complete (ap ending c.in_err-is_complete.was) in
    rw (p.1, p.2)
    (record {
      lent = lent-then v.lent c.is_complete.ensures.lent;
      ran = λ t. next _ looked (v.whole t _ _ (walk_out _ c.loop-at.at (some_left at.In-loop-at) (said t)));
      zombies = v.able.zombies;
      holes = v.able.holes;
      most = omega (arith, v.most, c.loop-at-test.true, c.is_complete.ensures.made);
    })

-- it is complete, where the range is unmapped
module _ (c : After-try_tell) where
  complete : ending c.is_complete.result ≡ on true
  complete = ap ending c.in_ok-is_complete.was ∙ ap on c.if-branch.true

  told : (t : Tables) →
      let z = get_or c.loop-at.zombies.cells c.loop-at.at empty_zombie in
      Ran (try (telling Unmap z.start.0 z.size)) c.args.driver.now.answers.now (stands c.is_complete.new.self t) (ending c.try_tell.result) (stands c.try_tell.new.self t)
  told t = rw (c.is_complete.ensures.lent.answers, c.loop-at.invariant.lent.answers) at (c.try_tell.ensures.ran t)

  lent : Lent c.args.driver.now c.try_tell.new.self
  lent = lent-then c.loop-at.invariant.lent (lent-then c.is_complete.ensures.lent c.try_tell.ensures.lent)

pub returns-in_err-try_tell : goal.returns-in_err-try_tell
unfolding cleanup
returns-in_err-try_tell c =
    let p = err_from_is_err_and c.from_residual-in_err-try_tell.result c.from_residual-in_err-try_tell.ensures.1 in
    let at = goal.at.returns-in_err-try_tell c in
    let v = c.loop-at.invariant in
    let b = c.loop-at-test.true in
    let said = asked at.After-is_complete (complete at.After-try_tell) in
    let stopped = ap ending c.in_err-try_tell.was in
    rw (p.1, p.2)
    (record {
      lent = lent at.After-try_tell;
      ran = λ t. next _ looked (v.whole t _ _
          (walk-stop _ c.loop-at.at (some_left at.In-loop-at) (said t)
          (cleans-stop v.able b c.swap_out.ensures c.is_complete.new.self c.try_tell.new.self (told at.After-try_tell) t stopped)));
      zombies = kept-left v.able b c.swap_out.ensures;
      holes = v.able.holes;
      most = omega (arith, v.most, b, c.is_complete.ensures.made, c.try_tell.ensures.made);
    })

pub insert_hole-requires : goal.insert_hole-requires
insert_hole-requires c =
    let k = c.loop-at.invariant.able in
    let b = c.loop-at-test.true in
    let z = c.loop-at.zombies in
    let h = c.loop-at.holes in
    let i = c.loop-at.at in
    record {
      kept_holes = (k.holes, room z h i k b);
      apart = (k.kept.sound.holes_apart, rw (← zombies_cell z i b) (it-ends z h i k b));
    }

pub loop-at-smaller-then-branch : goal.loop-at-smaller-then-branch
loop-at-smaller-then-branch c =
    let b = c.loop-at-test.true in
    omega (arith, count_left c.loop-at.invariant.able b c.swap_out.ensures, b)

pub loop-at-preserved-then-branch : goal.loop-at-preserved-then-branch
loop-at-preserved-then-branch c =
    let at = goal.at.loop-at-preserved-then-branch c in
    let v = c.loop-at.invariant in
    let i = c.loop-at.at in
    let b = c.loop-at-test.true in
    let left = c.swap_out.new.self in
    let out = c.swap_out.ensures in
    let put = c.insert_hole.ensures in
    let fewer = count_left v.able b out in
    let said = asked at.After-is_complete (complete at.After-try_tell) in
    let went_on = ap ending c.in_ok-try_tell.was in
    let shorter : length (zombies_of left) - i ≡ length (zombies_of c.loop-at.zombies) - i - 1 =
    omega (arith, fewer, zombies-count left (kept-left v.able b out), zombies-count c.loop-at.zombies v.able.zombies) in
    record {
      place = omega (arith, fewer, b);
      able = cleanable-left v.able b out put;
      lent = lent at.After-try_tell;
      most = omega (arith, fewer, v.most, b, c.is_complete.ensures.made, c.try_tell.ensures.made);
      whole = λ t e u r. v.whole t e u
          (walk-clean _ i (some_left at.In-loop-at) (said t)
          (cleans-on v.able b out c.is_complete.new.self c.try_tell.new.self (told at.After-try_tell) t put went_on) (rw shorter at r));
    }

pub loop-at-preserved : goal.loop-at-preserved
loop-at-preserved c =
    let at = goal.at.loop-at-preserved c in
    let v = c.loop-at.invariant in
    let i = c.loop-at.at in
    let b = c.loop-at-test.true in
    let not_yet : ending c.is_complete.result ≡ on false = ap ending c.in_ok-is_complete.was ∙ ap on c.if-branch.false in
    let said = asked at.After-is_complete not_yet in
    let shorter : length (zombies_of c.loop-at.zombies) - (i + 1) ≡ length (zombies_of c.loop-at.zombies) - i - 1 = omega arith in
    record {
      place = omega (arith, b);
      able = v.able;
      lent = lent-then v.lent c.is_complete.ensures.lent;
      most = omega (arith, v.most, b, c.is_complete.ensures.made);
      whole = λ t e u r. v.whole t e u (walk-on _ i (some_left at.In-loop-at) (said t) (rw shorter at r));
    }

pub returns : goal.returns
unfolding cleanup
returns c =
    let v = c.loop-at.invariant in
    let none : length (zombies_of c.loop-at.zombies) - c.loop-at.at ≡ 0 = omega (arith, zombies-count c.loop-at.zombies v.able.zombies) in
    record {
      lent = v.lent;
      ran = λ t. next _ looked (v.whole t _ _ (rw none gave));
      zombies = v.able.zombies;
      holes = v.able.holes;
      most = omega (arith, v.most);
    }
