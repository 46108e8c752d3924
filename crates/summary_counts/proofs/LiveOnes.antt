-- The hand-overs are of the live buffers, one each and in the same order.
use mathlib.Core.Path.{◌≡◌, refl, ap, sym, ◌∙◌}
use mathlib.Core.Bool.{Bool, true, false, not}
use mathlib.Core.List.{List, [], ◌∷◌, map}
use Prim.Native.Nat.{ℕ}
use lib.Dec.{eqb}
use lib.ListN.{length}
use Rattle.lists.specs.Tests.{filter}
use Rattle.lists.proofs.Tests.{length-mapped}
use Rattle.trace.specs.declared.Line.{Line}
use Rattle.judge_rules.specs.Said.{said}
use Rattle.judge_rules.specs.SoFar.{call}
use Rattle.judge_rules.specs.Meaning.{Buffer, live}
use Rattle.judge_rules.specs.declared.Call.{Call}
use Rattle.judge_rules.specs.declared.Call.TheVariants.{Open, Malloc, Free, Close}
use Rattle.judge_rules.specs.declared.Said.{Said}
use Rattle.judge_rules.specs.declared.Said.TheVariants.{Record, Call as Calls, Result, Aside, Unknown}
use Rattle.judge_rules.proofs.PageLaws.{filter_map}
use Rattle.summary_counts.specs.HandOvers.{hand_overs}
use Rattle.summary_counts.specs.declared.handed.HandOver.{HandOver}

abbrev Span : Type 0
Span = ℕ × ℕ

abbrev pub of_hand_over : HandOver → Span
of_hand_over o = (o.start, o.size)

abbrev pub of_buffer : Buffer → Span
of_buffer b = (b.start, b.size)

-- their starts and their sizes
pub same-buffers : (h : List Line) → map of_hand_over (hand_overs h) ≡ map of_buffer (live h)
same-buffers [] = refl
same-buffers (l ∷ h) = by (same-buffers h) (said l.kind) refl (eqb l.third 0) refl (call h).call refl
  where
    other : Span → Bool
    other s = not (eqb s.0 (call h).first)

    by : map of_hand_over (hand_overs h) ≡ map of_buffer (live h) → (w : Said) → said l.kind ≡ w → (b : Bool) → eqb l.third 0 ≡ b → (c : Call) → (call h).call ≡ c →
        map of_hand_over (hand_overs (l ∷ h)) ≡ map of_buffer (live (l ∷ h))
    by same Result e true f Open g = rw (e, f, g) same
    by same Result e true f Malloc g = rw (e, f, g) (ap (λ m. (l.first, l.second) ∷ m) same)
    by same Result e true f Free g =
        rw (e, f, g)
        (sym (filter_map other of_hand_over (hand_overs h)) ∙ ap (filter other) same ∙ filter_map other of_buffer (live h))
    by same Result e true f Close g = rw (e, f, g) same
    by same Result e false f c g = rw (e, f) same
    by same (Record w) e b f Open g = rw (e, g) same
    by same (Record w) e b f Malloc g = rw (e, g) same
    by same (Record w) e b f Free g = rw (e, g) same
    by same (Record w) e b f Close g = rw (e, g) refl
    by same (Calls d) e b f c g = rw e same
    by same Aside e b f c g = rw e same
    by same Unknown e b f c g = rw e same

length-map : {A B : Type 0} (f : A → B) (l : List A) → length (map f l) ≡ length l
length-map f l = sym (length-mapped f l (length (map f l)) refl)

pub as_many : (h : List Line) → length (hand_overs h) ≡ length (live h)
as_many h = sym (length-map of_hand_over (hand_overs h)) ∙ ap length (same-buffers h) ∙ length-map of_buffer (live h)
