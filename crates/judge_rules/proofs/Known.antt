-- The walk's state is what is known from the lines so far, and a line comes to what is wrong with it.
use mathlib.Core.Path.{◌≡◌, refl}
use mathlib.Core.Bool.{Bool, true, false, cond, not, false≢true}
use mathlib.Core.List.{List, ◌∷◌}
use mathlib.Core.Option.{Option, none, some}
use Prim.Native.Nat.{ℕ}
use lib.Dec.{eqb}
use Rattle.lists.proofs.Tests.{both}
use Rattle.words.specs.declared.Word.{Word}
use Rattle.words.specs.declared.Word.TheVariants.{Reserve, Create, Map, Access, Unmap, Release, Record as RecordEvent, Asked as AskedFor, Wait, Sync, Giveback}
use Rattle.trace.specs.declared.Line.{Line}
use Rattle.trace.specs.declared.Reading.TheVariants.{Good}
use Rattle.judge_rules.specs.Said.{said}
use Rattle.judge_rules.specs.Ranges.{inside}
use Rattle.judge_rules.specs.Rules.{Judge, R0, R7, R8}
use Rattle.judge_rules.specs.Verdict.{Step, on, broken, beyond, ruled, sized, recorded, answered, ended, taken, judged, step}
use Rattle.judge_rules.specs.SoFar.{call, waiting, held, mapped}
use Rattle.judge_rules.specs.Meaning.{live}
use Rattle.judge_rules.specs.Exactly.{plain_page, plain, begun, known, at_record, rule_of, size_of, Fault, breaks, passes, fault_of}
use Rattle.judge_rules.specs.declared.Call.{Call}
use Rattle.judge_rules.specs.declared.Call.TheVariants.{Open, Malloc, Free, Close}
use Rattle.judge_rules.specs.declared.Said.{Said}
use Rattle.judge_rules.specs.declared.Said.TheVariants.{Record, Call as Calls, Result, Aside, Unknown}
use Rattle.judge_rules.proofs.PageLaws.{filter_map}

-- what a line comes to, by what is wrong with it
abbrev pub came : Option Fault → Judge → Step
came none s = on s
came (some (breaks rule)) s = broken rule
came (some (passes which)) s = beyond which

-- the tests in their order, by their results; and what a line comes to by them
abbrev wrong : Bool → Bool → Bool → ℕ → ℕ → Option Fault
wrong a r z n w = cond (not a) (some (breaks 0)) (cond (not r) (some (breaks n)) (cond (not z) (some (passes w)) none))

abbrev tested : Bool → Bool → ℕ → ℕ → Judge → Step
tested r z n w s = cond r (cond z (on s) (beyond w)) (broken n)

decide : (a r z : Bool) (n w : ℕ) (t : Step) (s : Judge) → (a ≡ true → t ≡ tested r z n w s) → cond a t (broken 0) ≡ came (wrong a r z n w) s
decide true true true n w t s f = f refl
decide true true false n w t s f = f refl
decide true false z n w t s f = f refl
decide false r z n w t s f = refl

ended_is : (h : List Line) (c : Call) → (call h).call ≡ c → ended c (known h) ≡ at_record h
ended_is h Open e = rw e refl
ended_is h Malloc e = rw e refl
ended_is h Free e = rw e refl
ended_is h Close e = rw e refl

module _ (h : List Line) (l : Line) where
  -- a line of this kind comes to what its tests say
  abbrev Comes : Said → Type 0
  Comes w =
      taken w (known h) l
      ≡ tested (rule_of w h l).passed (size_of w h l).passed (rule_of w h l).number (size_of w h l).number (known (l ∷ h))

  called_is : (c : Call) → said l.kind ≡ Calls c → Comes (Calls c)
  unfolding taken
  called_is Open e = rw e refl
  called_is Malloc e = rw e refl
  called_is Free e = rw e refl
  called_is Close e = rw e refl

  module _ (o : begun h ≡ true) (v : waiting h ≡ true) where
    failed-is : (w : Word) → said l.kind ≡ Record w → eqb l.third 0 ≡ false → Comes (Record w)
    unfolding taken
    failed-is w e q = rw (ended_is h (call h).call refl, e, q, o, v) refl

    done-is : (w : Word) → said l.kind ≡ Record w → eqb l.third 0 ≡ true → Comes (Record w)
    unfolding taken recorded ruled sized
    done-is Reserve e q = rw (ended_is h (call h).call refl, e, q, o, v) refl
    done-is Create e q = rw (ended_is h (call h).call refl, e, q, o, v) refl
    done-is Map e q = rw (ended_is h (call h).call refl, e, q, o, v) refl
    done-is Access e q = rw (ended_is h (call h).call refl, e, q, o, v) refl
    done-is Unmap e q = rw (ended_is h (call h).call refl, e, q, o, v, filter_map (λ p. not (inside l.first l.second p.at)) plain_page (mapped h)) refl
    done-is Release e q = rw (ended_is h (call h).call refl, e, q, o, v, filter_map (λ k. not (eqb k l.first)) (λ k. k.handle) (held h)) refl
    done-is RecordEvent e q = rw (ended_is h (call h).call refl, e, q, o, v) refl
    done-is AskedFor e q = rw (ended_is h (call h).call refl, e, q, o, v) refl
    done-is Wait e q = rw (ended_is h (call h).call refl, e, q, o, v) refl
    done-is Sync e q = rw (ended_is h (call h).call refl, e, q, o, v) refl
    done-is Giveback e q = rw (ended_is h (call h).call refl, e, q, o, v) refl

  refused-is : said l.kind ≡ Result → begun h ≡ true → eqb l.third 0 ≡ false → Comes Result
  unfolding taken
  refused-is e o q = rw (e, q, o) refl

  answered-is : (c : Call) (x y : ℕ) → call h ≡ record { call = c; first = x; second = y } → said l.kind ≡ Result → begun h ≡ true → eqb l.third 0 ≡ true →
      Comes Result
  unfolding taken answered ruled sized R7 R8
  answered-is Open x y k e o q = rw (e, k, q, o) refl
  answered-is Malloc x y k e o q = rw (e, k, q, o) refl
  answered-is Free x y k e o q = rw (e, k, q, o, filter_map (λ b. not (eqb b.start x)) plain (live h)) refl
  answered-is Close x y k e o q = rw (e, k, q, o) refl

  aside-is : said l.kind ≡ Aside → begun h ≡ true → Comes Aside
  unfolding taken
  aside-is e o = rw (e, o) refl

  comes : (w : Said) → said l.kind ≡ w → R0 w (known h).run l ≡ true → Comes w
  unfolding R0
  comes (Calls c) e r = called_is c e
  comes (Record w) e r = go (eqb l.third 0) refl
    where
      o : begun h ≡ true
      o = (both (begun h) _ r).0

      v : waiting h ≡ true
      v = (both (waiting h) _ (both (begun h) _ r).1).0

      go : (b : Bool) → eqb l.third 0 ≡ b → Comes (Record w)
      go true q = done-is o v w e q
      go false q = failed-is o v w e q
  comes Result e r = go (eqb l.third 0) refl
    where
      o : begun h ≡ true
      o = (both (begun h) _ r).0

      go : (b : Bool) → eqb l.third 0 ≡ b → Comes Result
      go true q = answered-is (call h).call (call h).first (call h).second refl e o q
      go false q = refused-is e o q
  comes Aside e r = aside-is e (both (begun h) _ r).0
  comes Unknown e r = absurd (false≢true (both (begun h) false r).1)

  pub step_is : step (known h) (Good l) ≡ came (fault_of h l) (known (l ∷ h))
  unfolding judged ruled
  step_is =
      let w = said l.kind in
      decide (R0 w (known h).run l) (rule_of w h l).passed (size_of w h l).passed (rule_of w h l).number (size_of w h l).number (taken w (known h) l) (known (l ∷ h)) (comes w refl)
