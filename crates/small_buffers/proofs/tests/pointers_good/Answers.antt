-- `small_buffers::tests::pointers_good` meets its contract. The invariant: the test of all is the test of those left; `here` is what that comes to at a turn.
use mathlib.Core.Path.{◌≡◌, sym, ap, ◌∙◌}
use mathlib.Core.Bool.{Bool, ◌&&◌, not, and-false}
use mathlib.Core.List.{List, map}
use Prim.Native.Nat.{ℕ, ◌+◌, ◌-◌, ◌<◌}
use native.Mathlib.Omega.{arith}
use borrow.Author.Tests.{eq-eqb, ne_eqb}
use lib.Dec.{eqb}
use lib.ListN.{length, take, drop, get_or, length-drop}
use lib.Seq.{take_all}
use Rattle.lists.specs.Tests.{every, distinct}
use Rattle.lists.proofs.Cells.{turn-all}
use Rattle.manager_rules.specs.Values.{empty_small}
use Rattle.manager_rules.specs.declared.SmallBuffer.{SmallBuffer}
use Rattle.small_buffers.proofs.Rows.{every_map}
use Rattle.small_buffers.proofs.tests.pointers_good.Goals as goal
use Rattle.small_buffers.proofs.tests.pointers_good.Goals.{then-b-eq0-via-then-b-eq0, then-b-eq0-via-else-b-eq0+then-not-is_free}

abbrev nonzero : List SmallBuffer → Bool
nonzero = every (λ b. not (eqb b.pointer 0))

abbrev apart : List SmallBuffer → Bool
apart l = distinct (map (λ b. b.pointer) l)

abbrev free : ℕ → List SmallBuffer → Bool
free p = every (λ b. not (eqb p b.pointer))

module _ (l : List SmallBuffer) (i : ℕ) (h : i < length l) where
  abbrev x : SmallBuffer
  x = get_or l i empty_small

  -- what the test of those left comes to at a turn
  here : (nonzero (drop i l) && apart (drop i l))
      ≡ ((not (eqb x.pointer 0) && nonzero (drop (i + 1) l)) && (free x.pointer (drop (i + 1) l) && apart (drop (i + 1) l)))
  here = rw (turn-all l i empty_small h, every_map (λ b. b.pointer) (λ y. not (eqb x.pointer y)) (drop (i + 1) l))

  behind : take (length l - (i + 1)) (drop (i + 1) l) ≡ drop (i + 1) l
  behind = take_all (length l - (i + 1)) (drop (i + 1) l) (simp length-drop (omega arith))

pub returns-then-b-eq0 : goal.returns-then-b-eq0
returns-then-b-eq0 c =
    let v = c.loop-at in
    let l = c.args.small.now in
    elim c.then-b-eq0.branch [
      | then-b-eq0-via-then-b-eq0 w ↦ sym (v.invariant ∙ here l v.at c.loop-at-test.true ∙ rw (eq-eqb _ _ w.if-b-eq0.true))
      | then-b-eq0-via-else-b-eq0+then-not-is_free w ↦
          let e = ap (free (x l v.at c.loop-at-test.true).pointer) (sym (behind l v.at c.loop-at-test.true)) ∙ sym w.is_free.ensures ∙ w.if-not-is_free.true in
          sym (v.invariant ∙ here l v.at c.loop-at-test.true ∙ simp (e, and-false))
    ]

pub loop-at-preserved : goal.loop-at-preserved
loop-at-preserved c =
    let v = c.loop-at in
    let l = c.args.small.now in
    let e = ap (free (x l v.at c.loop-at-test.true).pointer) (sym (behind l v.at c.loop-at-test.true)) ∙ sym c.is_free.ensures ∙ c.if-not-is_free.false in
    v.invariant ∙ here l v.at c.loop-at-test.true ∙ rw (ne_eqb _ _ c.if-b-eq0.false, e)
