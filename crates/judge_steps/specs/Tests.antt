-- The rules as the code tests them, over the tables' rows.
use Rattle.std.specs.Prelude.{Bool, true, false, ◌&&◌, not, ℕ, ◌+◌, ◌/◌, ◌%◌, ◌^◌, ltb, leb, eqb, Option, Some, None}
use Rattle.lists.specs.Tests.{every}
use Rattle.judge_rules.specs.Ranges.{pages_from}
use Rattle.judge_rules.specs.Rules.{is_mapped}
use Rattle.judge_tables.specs.Rows.{
  pages_in,
  holds_no_overlap,
  holds_range,
  holds_reservation,
  holds_handle,
  holds_page,
  holds_under,
  holds_no_page,
  holds_buffer,
  holds_none,
  holds_no_twins,
}
use Rattle.judge_steps.specs.declared.State.{State}

module _ (s : State) (a n : ℕ) where
  abbrev pub tests_whole : Bool
  tests_whole =
      not (eqb n 0) && eqb (n % s.run.page) 0 && eqb (a % s.run.page) 0
      && every (is_mapped (pages_in s.mapped.items)) (pages_from s.run.page a (n / s.run.page))

  abbrev pub tests_credible : Bool
  tests_credible =
      not (eqb a 0) && eqb (a % s.run.page) 0 && leb (a + n) (2 ^ 63) && holds_no_overlap s.reservations.items a n

  abbrev pub tests_R1 : Bool
  tests_R1 = tests_credible && eqb n s.run.va && not (eqb n 0) && eqb (n % s.run.page) 0

  abbrev pub tests_R3 : Bool
  tests_R3 =
      (eqb (a % s.run.page) 0 && holds_range s.reservations.items a s.run.page) && not (holds_page s.mapped.items a)
      && holds_handle s.held.items n

  abbrev pub tests_R4 : Bool
  tests_R4 = tests_whole && holds_none s.live.items a n

  abbrev pub tests_R7 : Bool
  tests_R7 =
      eqb n s.run.asked.first && tests_whole && holds_none s.live.items a n
      && holds_no_twins s.mapped.items s.live.items a n

  abbrev pub tests_R8 : Bool
  tests_R8 = holds_buffer s.live.items s.run.asked.first a n

  abbrev pub tests_R10 : Bool
  tests_R10 = holds_reservation s.reservations.items a n && holds_no_page s.mapped.items a n

abbrev pub tests_R2 : State → ℕ → Bool
tests_R2 s k = not (holds_handle s.held.items k)

abbrev pub tests_R5 : State → ℕ → Bool
tests_R5 s k = holds_handle s.held.items k && not (holds_under s.mapped.items k)

-- R9
abbrev pub tests_rising : Option ℕ → ℕ → Bool
tests_rising None id = true
tests_rising (Some last) id = ltb last id

abbrev pub tests_known : Option ℕ → ℕ → Bool
tests_known None id = false
tests_known (Some last) id = leb id last
