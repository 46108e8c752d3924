-- The tables' rows as the rules have them, and a table as the rules have it: the newest row first. What the code's tests of a table are is said of its rows.
use Rattle.std.specs.Prelude.{Bool, ◌&&◌, ◌||◌, not, List, map, reverse, ℕ, ◌+◌, ◌<◌, ◌^◌, leb, eqb, length, get_or}
use Rattle.std.specs.List.{list_any, list_all}
use Rattle.judge_rules.specs.Ranges.{inside, clear}
use Rattle.judge_rules.specs.Rules as rules
use Rattle.judge_tables.specs.declared.rows.Reservation.{Reservation}
use Rattle.judge_tables.specs.declared.rows.Page.{Page}
use Rattle.judge_tables.specs.declared.rows.Live.{Live}

abbrev pub reservation_of : Reservation → rules.Reservation
reservation_of r = record { base = r.base; size = r.size }

abbrev pub page_of : Page → rules.Page
page_of p = record { at = p.at; handle = p.handle }

abbrev pub buffer_of : Live → rules.Live
buffer_of b = record { start = b.start; size = b.size; stream = b.stream }

abbrev pub reservations_in : List Reservation → List rules.Reservation
reservations_in t = map reservation_of (reverse t)

abbrev pub handles_in : List ℕ → List ℕ
handles_in t = reverse t

abbrev pub pages_in : List Page → List rules.Page
pages_in t = map page_of (reverse t)

abbrev pub live_in : List Live → List rules.Live
live_in t = map buffer_of (reverse t)

-- Tests of the rows. None of the `n` addresses from `a` on is in a reservation, all are in one, and one has this base and size;
abbrev pub holds_no_overlap : List Reservation → ℕ → ℕ → Bool
holds_no_overlap t a n = list_all (λ r. clear a n r.base r.size) (reverse t)

abbrev pub holds_range : List Reservation → ℕ → ℕ → Bool
holds_range t a n = list_any (λ r. leb r.base a && leb (a + n) (r.base + r.size)) (reverse t)

abbrev pub holds_reservation : List Reservation → ℕ → ℕ → Bool
holds_reservation t base size = list_any (λ r. eqb r.base base && eqb r.size size) (reverse t)

-- a handle is held, a page is mapped at `x`, one is mapped to `handle`, none is mapped among the addresses,
abbrev pub holds_handle : List ℕ → ℕ → Bool
holds_handle t handle = list_any (λ h. eqb h handle) (reverse t)

abbrev pub holds_page : List Page → ℕ → Bool
holds_page t x = list_any (λ p. eqb p.at x) (reverse t)

abbrev pub holds_under : List Page → ℕ → Bool
holds_under t handle = list_any (λ p. eqb p.handle handle) (reverse t)

abbrev pub holds_no_page : List Page → ℕ → ℕ → Bool
holds_no_page t a n = list_all (λ p. not (inside a n p.at)) (reverse t)

-- there is a live buffer of this start, size and stream,
abbrev pub holds_buffer : List Live → ℕ → ℕ → ℕ → Bool
holds_buffer t start size stream = list_any (λ b. eqb b.start start && eqb b.size size && eqb b.stream stream) (reverse t)

-- none has one of the `n` addresses from `a` on, one has the address `x`, and this is one of these or a live buffer's;
abbrev pub holds_none : List Live → ℕ → ℕ → Bool
holds_none t a n = list_all (λ b. clear a n b.start b.size) (reverse t)

abbrev pub holds_address : List Live → ℕ → Bool
holds_address t x = list_any (λ b. inside b.start b.size x) (reverse t)

abbrev pub in_buffers : List Live → ℕ → ℕ → ℕ → Bool
in_buffers t a n x = inside a n x || holds_address t x

-- no other page in these buffers has the handle of `p`, and no page among the addresses has one that another there has.
abbrev pub holds_alone : List Page → List Live → ℕ → ℕ → Page → Bool
holds_alone t live a n p =
    list_all (λ q. not (eqb q.handle p.handle) || eqb q.at p.at || not (in_buffers live a n q.at)) (reverse t)

abbrev pub holds_no_twins : List Page → List Live → ℕ → ℕ → Bool
holds_no_twins t live a n = list_all (λ p. not (inside a n p.at) || holds_alone t live a n p) (reverse t)

-- every page starts at an address
abbrev pub no_page : Page
no_page = record { at = 0; handle = 0 }

abbrev pub Addressed : List Page → Type 0
Addressed t = (k : ℕ) → k < length t → (get_or t k no_page).at < 2 ^ 64
