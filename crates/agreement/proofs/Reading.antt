-- What the judge does with lines, one list after another, and how the premises go with it: the pages that the lines map are those that the judge's state
-- has.
use mathlib.Core.Path.{◌≡◌, refl, ap, sym, ◌∙◌}
use mathlib.Core.Logic.{inl, inr}
use mathlib.Core.Bool.{Bool, true, false, cond, not}
use mathlib.Core.List.{List, [], ◌∷◌, ◌++◌}
use Prim.Native.Nat.{ℕ}
use native.Mathlib.Omega.{arith}
use lib.Dec.{leb, eqb}
use lib.ListN.{length}
use Rattle.lists.specs.Tests.{every}
use Rattle.lists.proofs.Tests.{both}
use Rattle.lists.proofs.Every.{and-true}
use Rattle.words.specs.declared.Word.{Word}
use Rattle.words.specs.declared.Word.TheVariants.{
  Reserve,
  Create,
  Map,
  Access,
  Unmap,
  Release,
  Record as RecordEvent,
  Asked,
  Wait,
  Sync,
  Giveback,
}
use Rattle.trace.specs.declared.Line.{Line}
use Rattle.trace.specs.declared.Reading.TheVariants.{Good}
use Rattle.judge_rules.specs.Sizes.{most_mapped}
use Rattle.judge_rules.specs.Said.{said}
use Rattle.judge_rules.specs.Ranges.{inside}
use Rattle.judge_rules.specs.Rules.{Judge, Page}
use Rattle.judge_rules.specs.Verdict as Verdict
use Rattle.judge_rules.specs.declared.Call.{Call}
use Rattle.judge_rules.specs.declared.Call.TheVariants.{Open, Malloc, Free, Close}
use Rattle.judge_rules.specs.declared.Said.{Said}
use Rattle.judge_rules.specs.declared.Said.TheVariants.{Record, Call as Calls, Result, Aside, Unknown}
use Rattle.judge_rules.proofs.PageLaws.{filter_map}
use Rattle.judge_rules.proofs.Steps.{ruled-on, sized_on, on-on}
use Rattle.agreement.specs.Premises.{reliable, credible, mapped_by, mapped_after_by, mapped_after, few_mapped}
use Rattle.agreement.specs.Judges.{next, read, Reach, Breaks, Fair, addresses}

-- a step that the judge goes on from
pub went_on : (x : Verdict.Step) (f : Judge → Verdict.Step) (z : Judge) → next x f ≡ Verdict.on z → (y : Judge) × ((x ≡ Verdict.on y) × (f y ≡ Verdict.on z))
went_on (Verdict.on s) f z e = (s, (refl, e))
went_on (Verdict.broken rule) f z e = let q : ◌≡◌ {A = ℕ} 0 1 = cc in absurd (omega arith)
went_on (Verdict.beyond which) f z e = let q : ◌≡◌ {A = ℕ} 0 1 = cc in absurd (omega arith)

pub read-append : (s : Judge) (ls rs : List Line) (z : Judge) → read s ls ≡ Verdict.on z → read s (ls ++ rs) ≡ read z rs
read-append s [] rs z e = rw (on-on s z e)
read-append s (l ∷ ls) rs z e =
    let w = went_on (Verdict.step s (Good l)) (λ y. read y ls) z e in
    rw w.1.0 (read-append w.0 ls rs z w.1.1)

-- where a line is rejected, so are the lines with more behind them, and those with lines before them that are read
read-both : (ls rs : List Line) (s : Judge) → read s (ls ++ rs) ≡ next (read s ls) (λ z. read z rs)
read-both [] rs s = refl
read-both (l ∷ ls) rs s = go (Verdict.step s (Good l)) (read-both ls rs)
  where
    go : (x : Verdict.Step) → ((z : Judge) → read z (ls ++ rs) ≡ next (read z ls) (λ y. read y rs)) →
        next x (λ z. read z (ls ++ rs)) ≡ next (next x (λ z. read z ls)) (λ y. read y rs)
    go (Verdict.on z) more = more z
    go (Verdict.broken rule) more = refl
    go (Verdict.beyond which) more = refl

pub breaks-first : (s : Judge) (ls rs : List Line) → Breaks s ls → Breaks s (ls ++ rs)
breaks-first s ls rs (inl e) = inl (rw (read-both ls rs s, e))
breaks-first s ls rs (inr e) = inr (rw (read-both ls rs s, e))

pub breaks_second : (s : Judge) (ls rs : List Line) (z : Judge) → read s ls ≡ Verdict.on z → Breaks z rs → Breaks s (ls ++ rs)
breaks_second s ls rs z e (inl q) = inl (read-append s ls rs z e ∙ q)
breaks_second s ls rs z e (inr q) = inr (read-append s ls rs z e ∙ q)

pub every_append : (p : Line → Bool) (l r : List Line) → every p l ≡ true → every p r ≡ true → every p (l ++ r) ≡ true
every_append p [] r e f = f
every_append p (x ∷ l) r e f =
    let b = both (p x) (every p l) e in
    and-true (p x) (every p (l ++ r)) b.0 (every_append p l r b.1 f)

-- lines that are read, to less; and one list after another
pub reach_to : {s : Judge} {ls : List Line} {Q R : Judge → Type 0} → ((z : Judge) → Q z → R z) → Reach s ls Q → Reach s ls R
reach_to f r = record { state = r.state; reads = r.reads; credible = r.credible; holds = f r.state r.holds }

pub reach_then : {s : Judge} {ls rs : List Line} {Q R : Judge → Type 0} (one : Reach s ls Q) → Reach one.state rs R → Reach s (ls ++ rs) R
reach_then {s} {ls} {rs} one two =
    record {
      state = two.state;
      reads = read-append s ls rs one.state one.reads ∙ two.reads;
      credible = every_append credible ls rs one.credible two.credible;
      holds = two.holds;
    }

ended-mapped : (c : Call) (s : Judge) → (Verdict.ended c s).mapped ≡ s.mapped
ended-mapped Open s = refl
ended-mapped Malloc s = refl
ended-mapped Free s = refl
ended-mapped Close s = refl

recorded-mapped : (w : Word) (s : Judge) (a b : ℕ) (z : Judge) → Verdict.recorded w s a b ≡ Verdict.on z → addresses z.mapped ≡ mapped_by w a b (addresses s.mapped)
unfolding Verdict.recorded
recorded-mapped Reserve s a b z e = rw (← sized_on _ _ _ _ z (ruled-on _ _ _ z e).1)
recorded-mapped Create s a b z e = rw (← sized_on _ _ _ _ z (ruled-on _ _ _ z e).1)
recorded-mapped Map s a b z e = rw (← sized_on _ _ _ _ z (ruled-on _ _ _ z e).1)
recorded-mapped Access s a b z e = rw (← on-on _ z (ruled-on _ _ _ z e).1)
recorded-mapped Unmap s a b z e = rw (← on-on _ z (ruled-on _ _ _ z e).1) (sym (filter_map (λ x. not (inside a b x)) (λ (g : Page). g.at) s.mapped))
recorded-mapped Release s a b z e = rw (← on-on _ z (ruled-on _ _ _ z e).1)
recorded-mapped RecordEvent s a b z e = rw (← on-on _ z (ruled-on _ _ _ z e).1)
recorded-mapped Asked s a b z e = rw (← on-on _ z (ruled-on _ _ _ z e).1)
recorded-mapped Wait s a b z e = rw (← on-on _ z (ruled-on _ _ _ z e).1)
recorded-mapped Sync s a b z e = rw (← on-on _ z e)
recorded-mapped Giveback s a b z e = rw (← on-on _ z (ruled-on _ _ _ z e).1)

answered-mapped : (c : Call) (s : Judge) (a b : ℕ) (z : Judge) → Verdict.answered c s a b ≡ Verdict.on z → z.mapped ≡ s.mapped
unfolding Verdict.answered
answered-mapped Open s a b z e = rw (← on-on _ z e)
answered-mapped Malloc s a b z e = rw (← sized_on _ _ _ _ z (ruled-on _ _ _ z e).1)
answered-mapped Free s a b z e = rw (← on-on _ z (ruled-on _ _ _ z e).1)
answered-mapped Close s a b z e = rw (← on-on _ z e)

taken-mapped : (w : Said) (s : Judge) (l : Line) (z : Judge) → Verdict.taken w s l ≡ Verdict.on z → addresses z.mapped ≡ mapped_after_by w l (addresses s.mapped)
unfolding Verdict.taken
taken-mapped (Calls c) s l z e = rw (← on-on _ z e)
taken-mapped (Record w) s l z e = go (eqb l.third 0) e
  where
    y : Judge
    y = Verdict.ended s.run.asked.call s

    go : (b : Bool) → cond b (Verdict.recorded w y l.first l.second) (Verdict.on y) ≡ Verdict.on z →
        addresses z.mapped ≡ cond b (mapped_by w l.first l.second (addresses s.mapped)) (addresses s.mapped)
    go true q = recorded-mapped w y l.first l.second z q ∙ ap (λ m. mapped_by w l.first l.second (addresses m)) (ended-mapped s.run.asked.call s)
    go false q = ap (λ x. addresses x.mapped) (sym (on-on y z q)) ∙ ap addresses (ended-mapped s.run.asked.call s)
taken-mapped Result s l z e = go (eqb l.third 0) e
  where
    go : (b : Bool) → cond b (Verdict.answered s.run.asked.call (Verdict.told s) l.first l.second) (Verdict.on (Verdict.told s)) ≡ Verdict.on z →
        addresses z.mapped ≡ addresses s.mapped
    go true q = ap addresses (answered-mapped s.run.asked.call (Verdict.told s) l.first l.second z q)
    go false q = ap (λ x. addresses x.mapped) (sym (on-on (Verdict.told s) z q))
taken-mapped Aside s l z e = rw (← on-on _ z e)
taken-mapped Unknown s l z e = let q : ◌≡◌ {A = ℕ} 0 1 = cc in absurd (omega arith)

-- the pages that a line leaves mapped
pub step-mapped : (s : Judge) (l : Line) (z : Judge) → Verdict.step s (Good l) ≡ Verdict.on z → addresses z.mapped ≡ mapped_after l (addresses s.mapped)
unfolding Verdict.judged mapped_after
step-mapped s l z e = taken-mapped (said l.kind) s l z (ruled-on _ _ _ z e).1

pub every_first : (p : Line → Bool) (l m : List Line) → every p (l ++ m) ≡ true → (every p l ≡ true) × (every p m ≡ true)
every_first p [] m e = (refl, e)
every_first p (x ∷ l) m e =
    let b = both (p x) (every p (l ++ m)) e in
    let q = every_first p l m b.1 in
    (and-true (p x) (every p l) b.0 q.0, q.1)

few-first : (n : List ℕ) (l m : List Line) → few_mapped n (l ++ m) ≡ true → few_mapped n l ≡ true
few-first n [] m e = refl
few-first n (x ∷ l) m e =
    let k = mapped_after x n in
    let b = both (leb (length k) most_mapped) (few_mapped k (l ++ m)) e in
    and-true (leb (length k) most_mapped) (few_mapped k l) b.0 (few-first k l m b.1)

few_second : (s : Judge) (l m : List Line) (z : Judge) → read s l ≡ Verdict.on z → few_mapped (addresses s.mapped) (l ++ m) ≡ true →
    few_mapped (addresses z.mapped) m ≡ true
few_second s [] m z e f = rw (← on-on s z e) f
few_second s (x ∷ l) m z e f =
    let w = went_on (Verdict.step s (Good x)) (λ y. read y l) z e in
    let b = both (leb (length (mapped_after x (addresses s.mapped))) most_mapped) _ f in
    few_second w.0 l m z w.1.1 (rw (step-mapped s x w.0 w.1.0) b.1)

-- Fair lines are fair in parts.
pub fair-first : (n : List ℕ) (l m : List Line) → Fair n (l ++ m) → Fair n l
fair-first n l m f = record { driver = (every_first reliable l m f.driver).0; mapped = few-first n l m f.mapped }

pub fair_second : (s : Judge) (l m : List Line) (z : Judge) → read s l ≡ Verdict.on z → Fair (addresses s.mapped) (l ++ m) → Fair (addresses z.mapped) m
fair_second s l m z e f = record { driver = (every_first reliable l m f.driver).1; mapped = few_second s l m z e f.mapped }
