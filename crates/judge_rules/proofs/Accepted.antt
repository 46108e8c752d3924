-- What an accepted trace means: every line with which nothing is wrong keeps the live buffers sound.
use mathlib.Core.Path.{◌≡◌, refl, sym}
use mathlib.Core.Bool.{Bool, true, false, cond, not, false≢true}
use mathlib.Core.List.{List, [], ◌∷◌}
use mathlib.Core.Option.{none, some}
use Prim.Native.Nat.{ℕ, zero, suc, ◌<◌}
use native.Mathlib.Omega.{arith}
use borrow.Author.Tests.{eqb-false, not-true}
use lib.Dec.{eqb}
use lib.ListN.{take, drop}
use Rattle.lists.proofs.Tests.{both}
use Rattle.words.specs.declared.Word.{Word}
use Rattle.words.specs.declared.Word.TheVariants.{Reserve, Create, Map, Access, Unmap, Release, Record as RecordEvent, Asked as AskedFor, Wait, Sync, Giveback}
use Rattle.trace.specs.declared.Line.{Line}
use Rattle.trace.specs.declared.Reading.{Reading}
use Rattle.trace.specs.declared.Reading.TheVariants.{Good, Malformed}
use Rattle.judge_rules.specs.Said.{said}
use Rattle.judge_rules.specs.Rules.{R0}
use Rattle.judge_rules.specs.Verdict.{verdict}
use Rattle.judge_rules.specs.SoFar.{place, page_size, call, reservations, held, mapped, last}
use Rattle.judge_rules.specs.Meaning.{shown, Buffer, left_by, live, SoundAfter, newest_first}
use Rattle.judge_rules.specs.Exactly.{begun, known, untested, at_record, rule_of, rule_of_record, rule_of_result, size_of, breaks, passes, fault_of, fault_in}
use Rattle.judge_rules.specs.declared.Call.{Call}
use Rattle.judge_rules.specs.declared.Call.TheVariants.{Open, Malloc, Free, Close}
use Rattle.judge_rules.specs.declared.Said.{Said}
use Rattle.judge_rules.specs.declared.Said.TheVariants.{Record, Call as Calls, Result, Aside, Unknown}
use Rattle.judge_rules.specs.declared.Verdict.TheVariants.{Accepted}
use Rattle.judge_rules.proofs.PageLaws.{some-not}
use Rattle.judge_rules.proofs.Keeps.{Firm, Upheld, sound-of, firm-none, firm-filter, with-buffers, keeps-reserve, keeps-create, keeps-map, keeps-unmap, keeps-release, keeps-giveback}
use Rattle.judge_rules.proofs.HandsOver.{keeps-handed}
use Rattle.judge_rules.proofs.Exactly.{exactly}

-- What the lines so far uphold.
abbrev UpheldBy : List Line → List Buffer → Type 0
UpheldBy h bs = Upheld (page_size h) (reservations h) (held h) (mapped h) bs

record UpheldAfter (h : List Line) : Type 0 where
  page : begun h ≡ true → 0 < page_size h
  upheld : UpheldBy h (live h)

-- nothing is wrong, so each test is passed
passed : (a r z : Bool) (n w : ℕ) → cond (not a) (some (breaks 0)) (cond (not r) (some (breaks n)) (cond (not z) (some (passes w)) none)) ≡ none → (a ≡ true) × (r ≡ true)
passed true true z n w e = (refl, refl)
passed true false z n w e = absurd (some-not (breaks n) e)
passed false r z n w e = absurd (some-not (breaks 0) e)

unknown : (h : List Line) (l : Line) → R0 Unknown (known h).run l ≡ true → ⊥
unfolding R0
unknown h l r = false≢true (both (begun h) false r).1

module _ (h : List Line) (l : Line) (g : UpheldAfter h) where
  -- an open comes first, and then there is nothing yet
  opened : said l.kind ≡ Calls Open → begun h ≡ false → (l.first ≡ 0 → ⊥) → UpheldAfter (l ∷ h)
  opened e o z = go h o
    where
      go : (h : List Line) → begun h ≡ false → UpheldAfter (l ∷ h)
      go [] o = record { page = λ _. rw e (omega arith); upheld = rw e (record { owned = tt; placed = tt; sized = tt; reserved = tt; firm = firm-none _ _ }) }
      go (k ∷ h) o = absurd (false≢true (sym o))

  called : (c : Call) → said l.kind ≡ Calls c → R0 (Calls c) (known h).run l ≡ true → UpheldAfter (l ∷ h)
  unfolding R0
  called Open e r =
      let o = both (not (begun h)) (not (eqb l.first 0)) (both _ _ r).0 in
      opened e (not-true (begun h) o.0) (eqb-false l.first 0 (not-true (eqb l.first 0) o.1))
  called Malloc e r = record { page = λ _. rw e (g.page (both (begun h) _ r).0); upheld = rw e g.upheld }
  called Free e r = record { page = λ _. rw e (g.page (both (begun h) _ r).0); upheld = rw e g.upheld }
  called Close e r = record { page = λ _. rw e (g.page (both (begun h) _ r).0); upheld = rw e g.upheld }

  -- a record leaves all live buffers, or none
  left : UpheldBy h (left_by h (live h))
  left = with-buffers (left_by h (live h)) (go (eqb (place (call h).call) (place Close))) g.upheld
    where
      go : (b : Bool) → Firm (page_size h) (shown h) (cond b [] (live h))
      go true = firm-none _ _
      go false = g.upheld.firm

  failed : (w : Word) → said l.kind ≡ Record w → eqb l.third 0 ≡ false → UpheldBy (l ∷ h) (live (l ∷ h))
  failed w e q = rw (e, q) left

  done : (w : Word) → said l.kind ≡ Record w → eqb l.third 0 ≡ true → 0 < page_size h → (rule_of_record w (at_record h) l).passed ≡ true → UpheldBy (l ∷ h) (live (l ∷ h))
  done Reserve e q p r = rw (e, q) (keeps-reserve _ _ _ _ _ _ _ _ left r)
  done Create e q p r = rw (e, q) (keeps-create _ _ _ _ _ _ _ 0 left _ r)
  done Map e q p r = rw (e, q) (keeps-map _ _ _ _ _ _ _ _ left _ r)
  done Access e q p r = rw (e, q) left
  done Unmap e q p r = rw (e, q) (keeps-unmap _ _ _ _ _ _ _ _ left r)
  done Release e q p r = rw (e, q) (keeps-release _ _ _ _ _ _ _ 0 left r)
  done RecordEvent e q p r = rw (e, q) left
  done AskedFor e q p r = rw (e, q) left
  done Wait e q p r = rw (e, q) left
  done Sync e q p r = rw (e, q) left
  done Giveback e q p r = rw (e, q) (keeps-giveback _ _ _ _ _ _ _ _ left p r)

  recorded : (w : Word) → said l.kind ≡ Record w → R0 (Record w) (known h).run l ≡ true → (rule_of (Record w) h l).passed ≡ true → UpheldAfter (l ∷ h)
  unfolding R0
  recorded w e r t = record { page = λ _. rw e p; upheld = go (eqb l.third 0) refl t }
    where
      p : 0 < page_size h
      p = g.page (both (begun h) _ r).0

      go : (b : Bool) → eqb l.third 0 ≡ b → (cond b (rule_of_record w (at_record h) l) untested).passed ≡ true → UpheldBy (l ∷ h) (live (l ∷ h))
      go true q t = done w e q p t
      go false q t = failed w e q

  -- a result of 0
  answered : (c : Call) (x y : ℕ) → call h ≡ record { call = c; first = x; second = y } → said l.kind ≡ Result → eqb l.third 0 ≡ true →
      (rule_of_result c (known h) l).passed ≡ true → UpheldBy (l ∷ h) (live (l ∷ h))
  answered Open x y k e q r = rw (e, k, q) g.upheld
  answered Malloc x y k e q r = rw (e, q, k) (with-buffers _ (rw k at (keeps-handed (known h).run _ _ _ _ (last h) l.first l.second g.upheld r)) g.upheld)
  answered Free x y k e q r = rw (e, q, k) (with-buffers _ (firm-filter _ _ (λ b. not (eqb b.start x)) (live h) g.upheld.firm) g.upheld)
  answered Close x y k e q r = rw (e, k, q) g.upheld

  resulted : said l.kind ≡ Result → R0 Result (known h).run l ≡ true → (rule_of Result h l).passed ≡ true → UpheldAfter (l ∷ h)
  unfolding R0
  resulted e r t = record { page = λ _. rw e (g.page (both (begun h) _ r).0); upheld = go (eqb l.third 0) refl t }
    where
      go : (b : Bool) → eqb l.third 0 ≡ b → (cond b (rule_of_result (call h).call (known h) l) untested).passed ≡ true → UpheldBy (l ∷ h) (live (l ∷ h))
      go true q t = answered (call h).call (call h).first (call h).second refl e q t
      go false q t = rw (e, q) g.upheld

  passed_over : said l.kind ≡ Aside → R0 Aside (known h).run l ≡ true → UpheldAfter (l ∷ h)
  unfolding R0
  passed_over e r = record { page = λ _. rw e (g.page (both (begun h) _ r).0); upheld = rw e g.upheld }

  line_upholds : fault_of h l ≡ none → UpheldAfter (l ∷ h)
  line_upholds f =
      let w = said l.kind in
      let t = passed (R0 w (known h).run l) (rule_of w h l).passed (size_of w h l).passed (rule_of w h l).number (size_of w h l).number f in
      go w refl t.0 t.1
    where
      go : (w : Said) → said l.kind ≡ w → R0 w (known h).run l ≡ true → (rule_of w h l).passed ≡ true → UpheldAfter (l ∷ h)
      go (Calls c) e r t = called c e r
      go (Record w) e r t = recorded w e r t
      go Result e r t = resulted e r t
      go Aside e r t = passed_over e r
      go Unknown e r t = absurd (unknown h l r)

nothing_upheld : UpheldAfter []
nothing_upheld =
    record { page = λ e. absurd (false≢true e); upheld = record { owned = tt; placed = tt; sized = tt; reserved = tt; firm = firm-none _ _ } }

-- Where nothing is wrong with any line, that stays so.
faultless_upholds : (n : ℕ) (t : List Reading) (h : List Line) → UpheldAfter h → ((m : ℕ) → fault_in (newest_first h (take m t)) (drop m t) ≡ none) →
    UpheldAfter (newest_first h (take n t))
faultless_upholds zero t h g f = g
faultless_upholds (suc n) [] h g f = g
faultless_upholds (suc n) (Malformed ∷ t) h g f = absurd (some-not (breaks 0) (f 0))
faultless_upholds (suc n) (Good l ∷ t) h g f = faultless_upholds n t (l ∷ h) (line_upholds h l g (f 0)) (λ m. f (suc m))

-- In an accepted trace, after every number of lines, the live buffers are sound.
pub accepted_means : (t : List Reading) → verdict t ≡ Accepted → (n : ℕ) → SoundAfter (newest_first [] (take n t))
accepted_means t e n = sound-of (faultless_upholds n t [] nothing_upheld (exactly t Accepted e)).upheld
