-- What is known of the lines so far, from the judge's state: its step, the amounts behind it, the hand-overs.
use mathlib.Core.Path.{◌≡◌, refl, ap, sym, ◌∙◌}
use mathlib.Core.List.{List, ◌∷◌}
use mathlib.Core.Option.{Option, none, some}
use Prim.Native.Nat.{ℕ, ◌+◌, ◌*◌, ◌≤◌}
use native.Mathlib.Omega.{arith}
use lib.Dec.{eqb}
use lib.ListN.{length}
use Rattle.lists.specs.Walks.{sum}
use Rattle.lists.proofs.Tests.{length-mapped}
use Rattle.lists.proofs.Maps.{sum-map}
use Rattle.trace.specs.declared.Line.{Line}
use Rattle.judge_rules.specs.Said.{said}
use Rattle.judge_rules.specs.Rules.{Judge}
use Rattle.judge_rules.specs.Sizes.{most_live}
use Rattle.judge_rules.specs.Verdict.{on, judged}
use Rattle.judge_rules.specs.SoFar.{call, mapped}
use Rattle.judge_rules.specs.Meaning.{live}
use Rattle.judge_rules.specs.Exactly.{plain_page, plain, known, Fault, breaks, passes, fault_of}
use Rattle.judge_rules.proofs.Known.{came, step_is}
use Rattle.judge_tables.specs.Rows.{page_of, buffer_of, live_in}
use Rattle.judge_steps.specs.State.{judge_of}
use Rattle.judge_steps.specs.declared.State.{State}
use Rattle.judge_steps.proofs.Stepping.{length-in}
use Rattle.summary_counts.specs.Counts.{capped, live_bytes, mapped_bytes}
use Rattle.summary_counts.specs.HandOvers.{handed_by, hand_overs, hand_overs_in, Leaves}
use Rattle.summary_counts.specs.Promises.{Adds}
use Rattle.summary_counts.specs.Taking.{Told}
use Rattle.summary_counts.specs.declared.Summary.{Summary}
use Rattle.summary_counts.proofs.LiveOnes.{as_many}

came-on : (f : Option Fault) (k j : Judge) → on j ≡ came f k → j ≡ k
came-on none k j e = cc
came-on (some (breaks rule)) k j e = let z : ◌≡◌ {A = ℕ} 0 1 = cc in absurd (omega arith)
came-on (some (passes which)) k j e = let z : ◌≡◌ {A = ℕ} 0 1 = cc in absurd (omega arith)

-- the state behind a line that the judge took
pub known_on : (s z : State) (l : Line) → on (judge_of z) ≡ judged (said l.kind) (judge_of s) l → (h : List Line) → judge_of s ≡ known h → judge_of z ≡ known (l ∷ h)
known_on s z l e h k =
    came-on (fault_of h l) (known (l ∷ h)) (judge_of z) (e ∙ ap (λ j. judged (said l.kind) j l) k ∙ step_is h l)

module _ (s : State) (h : List Line) (k : judge_of s ≡ known h) where
  pub asked_is : s.run.asked ≡ call h
  unfolding judge_of
  asked_is = ap (λ j. j.run.asked) k

  pub live-is : capped (sum (λ b. b.size) (live_in s.live.items)) ≡ live_bytes h
  unfolding judge_of
  live-is = ap (λ j. capped (sum (λ b. b.size) j.live)) k ∙ ap capped (sum-map plain (λ b. b.size) (live h))

  live_many : length s.live.items ≡ length (live h)
  unfolding judge_of
  live_many = sym (length-in buffer_of s.live.items) ∙ ap (λ j. length j.live) k ∙ sym (length-mapped plain (live h) _ refl)

  mapped_many : length s.mapped.items ≡ length (mapped h)
  unfolding judge_of
  mapped_many = sym (length-in page_of s.mapped.items) ∙ ap (λ j. length j.mapped) k ∙ sym (length-mapped plain_page (mapped h) _ refl)

  pub mapped-is : capped (s.run.page * length s.mapped.items) ≡ mapped_bytes h
  unfolding judge_of
  mapped-is = λ i. capped (ap (λ j. j.run.page) k i * mapped_many i)

  -- the hand-overs have room where the live buffers have
  pub handed-few : length s.live.items ≤ most_live → length (hand_overs h) ≤ most_live
  handed-few q = omega (arith, live_many, as_many h)

-- a line that the judge takes: what is told of the lines so far is told of them with this one more
module _ (s z : Summary) (l : Line) (e : on (judge_of z.state) ≡ judged (said l.kind) (judge_of s.state) l) (few : length z.state.live.items ≤ most_live)
    (lives maps : ℕ) (of_live : lives ≡ capped (sum (λ b. b.size) (live_in z.state.live.items)))
    (of_mapped : maps ≡ capped (z.state.run.page * length z.state.mapped.items))
    (adds : Adds s.counts s.state.run.asked.call lives maps l z.counts)
    (leaves : Leaves z.handed (handed_by (said l.kind) (eqb l.third 0) s.state.run.asked l z.counts.lines (hand_overs_in s.handed))) where
  pub told : (h : List Line) → Told s h → Told z (l ∷ h)
  told h p =
      let k : judge_of z.state ≡ known (l ∷ h) = known_on s.state z.state l e h p.known in
      let q : s.state.run.asked ≡ call h = asked_is s.state h p.known in
      let m : z.counts.lines ≡ length h + 1 = adds.lines ∙ ap (λ x. x + 1) p.counts.lines in
      let d : handed_by (said l.kind) (eqb l.third 0) s.state.run.asked l z.counts.lines (hand_overs_in s.handed) ≡ hand_overs (l ∷ h) =
      λ i. handed_by (said l.kind) (eqb l.third 0) (q i) l (m i) (p.handed i)
      in
      record {
        known = k;
        counts = adds.tells h (ap (λ x. x.call) q) (of_live ∙ live-is z.state (l ∷ h) k) (of_mapped ∙ mapped-is z.state (l ∷ h) k) p.counts;
        handed = leaves (omega (arith, ap length d, handed-few z.state (l ∷ h) k few)) ∙ d;
      }
