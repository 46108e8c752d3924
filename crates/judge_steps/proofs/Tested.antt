-- Each rule is what the code tests of its tables.
use mathlib.Core.Path.{◌≡◌, refl, ap}
use mathlib.Core.Bool.{◌&&◌, not}
use mathlib.Core.List.{reverse}
use Prim.Native.Nat.{ℕ, ◌+◌, ◌%◌, ◌^◌}
use lib.Dec.{leb, eqb}
use Rattle.std.proofs.Common.{Option, Some, None}
use Rattle.judge_rules.specs.Ranges.{inside, clear, pages}
use Rattle.judge_rules.specs.Rules.{
  whole_pages,
  credible,
  in_reservation,
  rises,
  not_above,
  R1,
  R2,
  R3,
  R4,
  R5,
  R6,
  R7,
  R8,
  R9_recorded,
  R9_asked,
  R10,
}
use Rattle.judge_tables.specs.Rows.{reservation_of, page_of, buffer_of, reservations_in, pages_in}
use Rattle.judge_tables.proofs.Newest.{any_in, every_in, handle-is, page-is, under-is, none-is, no_twins-is}
use Rattle.judge_steps.specs.State.{last_of, judge_of}
use Rattle.judge_steps.specs.Tests.{tests_whole, tests_credible, tests_R1, tests_R2, tests_R3, tests_R4, tests_R5, tests_R7, tests_R8, tests_R10, tests_rising, tests_known}
use Rattle.judge_steps.specs.declared.State.{State}

module _ (s : State) (a n : ℕ) where
  pub whole-is : tests_whole s a n ≡ whole_pages s.run.page (pages_in s.mapped.items) a n
  unfolding whole_pages pages
  whole-is = refl

  pub credible-is : tests_credible s a n ≡ credible s.run.page (reservations_in s.reservations.items) a n
  unfolding credible
  credible-is =
      ap (λ b. not (eqb a 0) && eqb (a % s.run.page) 0 && leb (a + n) (2 ^ 63) && b)
      (every_in (λ r. clear a n r.base r.size) reservation_of (reverse s.reservations.items))

  pub r1-is : tests_R1 s a n ≡ R1 (judge_of s) a n
  unfolding R1 judge_of
  r1-is = ap (λ b. b && eqb n s.run.va && not (eqb n 0) && eqb (n % s.run.page) 0) credible-is

  pub r3-is : tests_R3 s a n ≡ R3 (judge_of s) a n
  unfolding R3 in_reservation judge_of
  r3-is =
      λ i.
      (eqb (a % s.run.page) 0
      && any_in (λ r. leb r.base a && leb (a + s.run.page) (r.base + r.size)) reservation_of (reverse s.reservations.items) i)
      && not (page-is s.mapped.items a i) && handle-is s.held.items n i

  pub r4-is : tests_R4 s a n ≡ R4 (judge_of s) a n
  unfolding R4 judge_of
  r4-is = λ i. whole-is i && none-is s.live.items a n i

  pub r6-is : tests_whole s a n ≡ R6 (judge_of s) a n
  unfolding R6 judge_of
  r6-is = whole-is

  pub r7-is : tests_R7 s a n ≡ R7 (judge_of s) a n
  unfolding R7 judge_of
  r7-is =
      λ i. eqb n s.run.asked.first && whole-is i && none-is s.live.items a n i && no_twins-is s.mapped.items s.live.items a n i

  pub r8-is : tests_R8 s a n ≡ R8 (judge_of s) a n
  unfolding R8 judge_of
  r8-is =
      any_in (λ b. eqb b.start s.run.asked.first && eqb b.size a && eqb b.stream n) buffer_of (reverse s.live.items)

  pub r10-is : tests_R10 s a n ≡ R10 (judge_of s) a n
  unfolding R10 judge_of
  r10-is =
      λ i.
      any_in (λ r. eqb r.base a && eqb r.size n) reservation_of (reverse s.reservations.items) i
      && every_in (λ p. not (inside a n p.at)) page_of (reverse s.mapped.items) i

module _ (s : State) (k : ℕ) where
  pub r2-is : tests_R2 s k ≡ R2 (judge_of s) k
  unfolding R2 judge_of
  r2-is = ap not (handle-is s.held.items k)

  pub r5-is : tests_R5 s k ≡ R5 (judge_of s) k
  unfolding R5 judge_of
  r5-is = λ i. handle-is s.held.items k i && not (under-is s.mapped.items k i)

  pub rising-is : tests_rising s.last k ≡ R9_recorded (judge_of s) k
  unfolding R9_recorded judge_of
  rising-is = go s.last
    where
      go : (l : Option ℕ) → tests_rising l k ≡ rises (last_of l) k
      go None = refl
      go (Some last) = refl

  pub known-is : tests_known s.last k ≡ R9_asked (judge_of s) k
  unfolding R9_asked judge_of
  known-is = go s.last
    where
      go : (l : Option ℕ) → tests_known l k ≡ not_above (last_of l) k
      go None = refl
      go (Some last) = refl
