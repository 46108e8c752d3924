-- What a test of a table's rows says of the judge's lists.
use mathlib.Core.Path.{◌≡◌, ◌∙◌}
use mathlib.Core.Bool.{◌&&◌}
use mathlib.Core.List.{List, reverse}
use mathlib.Core.Logic.{⊎_elim}
use Prim.Native.Nat.{ℕ, ◌+◌}
use native.Mathlib.Omega.{arith}
use borrow.Author.Tests.{le-leb, lt-leb, lt-ltb, le-ltb}
use lib.Dec.{ltb, leb, eqb}
use Rattle.std.specs.List.{list_any}
use Rattle.lists.proofs.Tests.{cases_lt}
use Rattle.judge_tables.specs.Rows.{reservation_of, page_of, buffer_of, reservations_in, pages_in, live_in, holds_range, holds_reservation, holds_buffer, holds_address}
use Rattle.judge_tables.specs.declared.rows.Reservation.{Reservation}
use Rattle.judge_tables.specs.declared.rows.Page.{Page}
use Rattle.judge_tables.specs.declared.rows.Live.{Live}
use Rattle.judge_tables.proofs.Newest.{any_in, handle-is, page-is}
use Rattle.judge_reasons.specs.Reasons.{is_reserved, is_around, is_mapped_to, is_start, is_live, is_live_on, is_in_live}
use Rattle.judge_reasons.specs.Tests.{maps_to, has_start, has_size}

pub reserved-told : (t : List Reservation) (x y : ℕ) → holds_reservation t x y ≡ is_reserved (reservations_in t) x y
reserved-told t x y = any_in (λ r. eqb r.base x && eqb r.size y) reservation_of (reverse t)

pub around-told : (t : List Reservation) (a n : ℕ) → holds_range t a n ≡ is_around (reservations_in t) a n
around-told t a n = any_in (λ r. leb r.base a && leb (a + n) (r.base + r.size)) reservation_of (reverse t)

pub mapped_to-told : (t : List Page) (x y : ℕ) → maps_to t x y ≡ is_mapped_to (pages_in t) x y
mapped_to-told t x y = any_in (λ p. eqb p.at x && eqb p.handle y) page_of (reverse t)

pub start-told : (t : List Live) (x : ℕ) → has_start t x ≡ is_start (live_in t) x
start-told t x = any_in (λ b. eqb b.start x) buffer_of (reverse t)

pub live-told : (t : List Live) (x y : ℕ) → has_size t x y ≡ is_live (live_in t) x y
live-told t x y = any_in (λ b. eqb b.start x && eqb b.size y) buffer_of (reverse t)

pub live-on-told : (t : List Live) (x y z : ℕ) → holds_buffer t x y z ≡ is_live_on (live_in t) x y z
live-on-told t x y z = any_in (λ b. eqb b.start x && eqb b.size y && eqb b.stream z) buffer_of (reverse t)

below-is : (x y : ℕ) → ltb x y ≡ leb (x + 1) y
below-is x y =
    ⊎_elim
    (λ h. rw (lt-ltb x y h, le-leb (x + 1) y (omega arith)))
    (λ h. rw (le-ltb x y h, lt-leb (x + 1) y (omega arith)))
    (cases_lt x y)

pub in-live-told : (t : List Live) (x : ℕ) → holds_address t x ≡ is_in_live (live_in t) x
in-live-told t x =
    (λ i. list_any (λ b. leb b.start x && below-is x (b.start + b.size) i) (reverse t))
    ∙ any_in (λ b. leb b.start x && leb (x + 1) (b.start + b.size)) buffer_of (reverse t)

pub ruleset told = (handle-is, page-is, reserved-told, around-told, mapped_to-told, start-told, live-told, live-on-told, in-live-told)
