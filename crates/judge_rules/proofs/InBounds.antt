-- Every line that the judge takes leaves a state within the sizes: what grows was counted.
use mathlib.Core.Path.{◌≡◌, subst}
use mathlib.Core.Bool.{Bool, true, false, cond, not, false≢true}
use Prim.Native.Nat.{ℕ}
use native.Mathlib.Omega.{arith}
use borrow.Author.Tests.{eqb-false, not-true}
use lib.Dec.{eqb}
use Rattle.lists.proofs.Tests.{both, length-filter}
use Rattle.words.specs.declared.Word.{Word}
use Rattle.words.specs.declared.Word.TheVariants.{Reserve, Create, Map, Access, Unmap, Release, Record as RecordEvent, Asked as AskedFor, Wait, Sync, Giveback}
use Rattle.trace.specs.declared.Line.{Line}
use Rattle.judge_rules.specs.Ranges.{inside}
use Rattle.judge_rules.specs.Rules.{Judge, open_first, R0}
use Rattle.judge_rules.specs.Verdict.{on, recorded, answered, ended, called, told, taken, judged, start}
use Rattle.judge_rules.specs.InBounds.{InBounds}
use Rattle.judge_rules.specs.declared.Call.{Call}
use Rattle.judge_rules.specs.declared.Call.TheVariants.{Open, Malloc, Free, Close}
use Rattle.judge_rules.specs.declared.Said.{Said}
use Rattle.judge_rules.specs.declared.Said.TheVariants.{Record, Call as Calls, Result, Aside, Unknown}
use Rattle.judge_rules.proofs.Steps.{ruled-on, sized-fits, on-on}

module _ (s : Judge) (f : InBounds s) where
  bounds-record : (w : Word) (a b : ℕ) (z : Judge) → recorded w s a b ≡ on z → InBounds z
  unfolding recorded
  bounds-record Reserve a b z e =
      let g = sized-fits _ _ _ _ z (ruled-on _ _ _ z e).1 in
      subst InBounds g.1 (record { reservations = g.0; held = f.held; mapped = f.mapped; live = f.live; page = f.page })
  bounds-record Create a b z e =
      let g = sized-fits _ _ _ _ z (ruled-on _ _ _ z e).1 in
      subst InBounds g.1 (record { reservations = f.reservations; held = g.0; mapped = f.mapped; live = f.live; page = f.page })
  bounds-record Map a b z e =
      let g = sized-fits _ _ _ _ z (ruled-on _ _ _ z e).1 in
      subst InBounds g.1 (record { reservations = f.reservations; held = f.held; mapped = g.0; live = f.live; page = f.page })
  bounds-record Access a b z e = subst InBounds (on-on s z (ruled-on _ _ _ z e).1) f
  bounds-record Unmap a b z e =
      subst InBounds (on-on _ z (ruled-on _ _ _ z e).1)
      (record { reservations = f.reservations; held = f.held; mapped = omega (arith, length-filter (λ p. not (inside a b p.at)) s.mapped, f.mapped); live = f.live; page = f.page })
  bounds-record Release a b z e =
      subst InBounds (on-on _ z (ruled-on _ _ _ z e).1)
      (record { reservations = f.reservations; held = omega (arith, length-filter (λ h. not (eqb h a)) s.held, f.held); mapped = f.mapped; live = f.live; page = f.page })
  bounds-record RecordEvent a b z e =
      subst InBounds (on-on _ z (ruled-on _ _ _ z e).1) (record { reservations = f.reservations; held = f.held; mapped = f.mapped; live = f.live; page = f.page })
  bounds-record AskedFor a b z e = subst InBounds (on-on s z (ruled-on _ _ _ z e).1) f
  bounds-record Wait a b z e = subst InBounds (on-on s z (ruled-on _ _ _ z e).1) f
  bounds-record Sync a b z e = subst InBounds (on-on s z e) f
  bounds-record Giveback a b z e =
      subst InBounds (on-on _ z (ruled-on _ _ _ z e).1)
      (record { reservations = omega (arith, length-filter (λ r. not (eqb r.base a)) s.reservations, f.reservations); held = f.held; mapped = f.mapped; live = f.live; page = f.page })

  bounds-answer : (c : Call) (a b : ℕ) (z : Judge) → answered c s a b ≡ on z → InBounds z
  unfolding answered
  bounds-answer Open a b z e = subst InBounds (on-on s z e) f
  bounds-answer Malloc a b z e =
      let g = sized-fits _ _ _ _ z (ruled-on _ _ _ z e).1 in
      subst InBounds g.1 (record { reservations = f.reservations; held = f.held; mapped = f.mapped; live = g.0; page = f.page })
  bounds-answer Free a b z e =
      subst InBounds (on-on _ z (ruled-on _ _ _ z e).1)
      (record { reservations = f.reservations; held = f.held; mapped = f.mapped; live = omega (arith, length-filter (λ b. not (eqb b.start s.run.asked.first)) s.live, f.live); page = f.page })
  bounds-answer Close a b z e =
      subst InBounds (on-on _ z e) (record { reservations = f.reservations; held = f.held; mapped = f.mapped; live = f.live; page = f.page })

  pub bounds-ended : (c : Call) → InBounds (ended c s)
  bounds-ended Open = f
  bounds-ended Malloc = f
  bounds-ended Free = f
  bounds-ended Close = record { reservations = f.reservations; held = f.held; mapped = f.mapped; live = omega arith; page = f.page }

  pub bounds-told : InBounds (told s)
  bounds-told = record { reservations = f.reservations; held = f.held; mapped = f.mapped; live = f.live; page = f.page }

  bounds-called : (c : Call) (l : Line) → open_first (Calls c) s.run l ≡ true → InBounds (called c s l)
  bounds-called Open l o =
      let g = both (not s.run.opened) (not (eqb l.first 0)) o in
      let nz = eqb-false l.first 0 (not-true (eqb l.first 0) g.1) in
      record { reservations = f.reservations; held = f.held; mapped = f.mapped; live = f.live; page = λ _. omega arith }
  bounds-called Malloc l o = record { reservations = f.reservations; held = f.held; mapped = f.mapped; live = f.live; page = λ _. f.page o }
  bounds-called Free l o = record { reservations = f.reservations; held = f.held; mapped = f.mapped; live = f.live; page = λ _. f.page o }
  bounds-called Close l o = record { reservations = f.reservations; held = f.held; mapped = f.mapped; live = f.live; page = λ _. f.page o }

bounds-line : (w : Said) (s : Judge) (l : Line) (z : Judge) → open_first w s.run l ≡ true → InBounds s → taken w s l ≡ on z → InBounds z
unfolding taken
bounds-line (Calls c) s l z o f e = subst InBounds (on-on (called c s l) z e) (bounds-called s f c l o)
bounds-line (Record w) s l z o f e = go (eqb l.third 0) e
  where
    s1 : Judge
    s1 = ended s.run.asked.call s

    f1 : InBounds s1
    f1 = bounds-ended s f s.run.asked.call

    go : (t : Bool) → cond t (recorded w s1 l.first l.second) (on s1) ≡ on z → InBounds z
    go true e = bounds-record s1 f1 w l.first l.second z e
    go false e = subst InBounds (on-on s1 z e) f1
bounds-line Result s l z o f e = go (eqb l.third 0) e
  where
    go : (t : Bool) → cond t (answered s.run.asked.call (told s) l.first l.second) (on (told s)) ≡ on z → InBounds z
    go true e = bounds-answer (told s) (bounds-told s f) s.run.asked.call l.first l.second z e
    go false e = subst InBounds (on-on (told s) z e) (bounds-told s f)
bounds-line Aside s l z o f e = subst InBounds (on-on s z e) f
bounds-line Unknown s l z o f e = let y : ◌≡◌ {A = ℕ} 0 1 = cc in absurd (omega arith)

pub bounds-step : (w : Said) (s : Judge) (l : Line) (z : Judge) → InBounds s → judged w s l ≡ on z → InBounds z
unfolding judged R0
bounds-step w s l z f e =
    let j = ruled-on _ _ _ z e in
    let o = both (open_first w s.run l) _ j.0 in
    bounds-line w s l z o.0 f j.1

pub bounds-start : InBounds start
bounds-start = record { reservations = omega arith; held = omega arith; mapped = omega arith; live = omega arith; page = λ e. absurd (false≢true e) }
