-- docs/RULES.md 8.1, 8.3, 8.4: what the lines so far have said, and the rules R0 to R10. Each rule is a test of the numbers of a line against that.
use Rattle.std.specs.Prelude.{Bool, true, false, cond, ◌&&◌, ◌||◌, not, List, ℕ, ◌+◌, ◌%◌, ◌^◌, ltb, leb, eqb}
use Rattle.std.proofs.Math.Option.{Option, none, some}
use Rattle.lists.specs.Tests.{every, any}
use Rattle.trace.specs.declared.Line.{Line}
use Rattle.judge_rules.specs.Said.{if_open}
use Rattle.judge_rules.specs.Ranges.{inside, clear, pages}
use Rattle.judge_rules.specs.declared.Run.{Run}
use Rattle.judge_rules.specs.declared.Said.{Said}
use Rattle.judge_rules.specs.declared.Said.TheVariants.{Record, Call, Result, Aside, Unknown}

pub record Reservation : Type 0 where
  pub base : ℕ
  pub size : ℕ

-- a mapped page: where it starts, and the handle under it
pub record Page : Type 0 where
  pub at : ℕ
  pub handle : ℕ

pub record Live : Type 0 where
  pub start : ℕ
  pub size : ℕ
  pub stream : ℕ

-- what the lines so far have said, the newest first in each table
pub record Judge : Type 0 where
  pub run : Run
  -- the reservations, the handles that are held, the mapped pages, the live buffers, the last recorded event id
  pub reservations : List Reservation
  pub held : List ℕ
  pub mapped : List Page
  pub live : List Live
  pub last : Option ℕ

-- `k` is one of the numbers
abbrev pub is_in : ℕ → List ℕ → Bool
is_in k = any (λ x. eqb x k)

-- a page that starts at `x` is mapped; one is mapped to `handle`
abbrev pub is_mapped : List Page → ℕ → Bool
is_mapped m x = any (λ p. eqb p.at x) m

abbrev pub is_under : List Page → ℕ → Bool
is_under m handle = any (λ p. eqb p.handle handle) m

-- `n` is a page multiple
abbrev pub aligned : ℕ → ℕ → Bool
aligned page n = eqb (n % page) 0

-- a range of mapped pages
unfoldable pub whole_pages : ℕ → List Page → ℕ → ℕ → Bool
whole_pages page mapped address bytes =
    not (eqb bytes 0) && aligned page bytes && aligned page address && every (is_mapped mapped) (pages page address bytes)

-- none of these addresses is in a live buffer
unfoldable pub none_live : List Live → ℕ → ℕ → Bool
none_live live address bytes = every (λ b. clear address bytes b.start b.size) live

-- R0: the first line is an open, with a page size, and no other line is one;
abbrev pub is_open : Said → Bool
is_open (Call c) = if_open c true false
is_open (Record w) = false
is_open Result = false
is_open Aside = false
is_open Unknown = false

abbrev pub open_first : Said → Run → Line → Bool
open_first what run l = cond (is_open what) (not run.opened && not (eqb l.first 0)) run.opened

-- a call, its records and its result follow each other, and a small buffer's line stands between calls; once the pool is over, a call has no record and is
-- answered 1.
abbrev pub in_runs : Said → Run → Line → Bool
in_runs (Call c) run l = not run.waiting
in_runs (Record w) run l = run.waiting && not run.over
in_runs Result run l = run.waiting && (not run.over || eqb l.first 0 && eqb l.second 0 && eqb l.third 1)
in_runs Aside run l = not run.waiting
in_runs Unknown run l = false

unfoldable pub R0 : Said → Run → Line → Bool
R0 what run l = open_first what run l && in_runs what run l

-- R1: the base of a reserve can be true, beside the reservations that are held,
unfoldable pub credible : ℕ → List Reservation → ℕ → ℕ → Bool
credible page reservations base size =
    not (eqb base 0) && aligned page base && leb (base + size) (2 ^ 63) && every (λ r. clear base size r.base r.size) reservations

-- and its size is the va_size of the open, in whole pages.
unfoldable pub R1 : Judge → ℕ → ℕ → Bool
R1 s base size = credible s.run.page s.reservations base size && eqb size s.run.va && not (eqb size 0) && aligned s.run.page size

-- R2: a create hands out a handle that nobody holds.
unfoldable pub R2 : Judge → ℕ → Bool
R2 s handle = not (is_in handle s.held)

-- R3: a map puts a handle that is held at a page of a reservation at which nothing is mapped.
unfoldable pub in_reservation : ℕ → List Reservation → ℕ → Bool
in_reservation page reservations address =
    aligned page address && any (λ r. leb r.base address && leb (address + page) (r.base + r.size)) reservations

unfoldable pub R3 : Judge → ℕ → ℕ → Bool
R3 s address handle = in_reservation s.run.page s.reservations address && not (is_mapped s.mapped address) && is_in handle s.held

-- R4: an unmap takes away mapped pages, none of a live buffer.
unfoldable pub R4 : Judge → ℕ → ℕ → Bool
R4 s address bytes = whole_pages s.run.page s.mapped address bytes && none_live s.live address bytes

-- R5: a release gives up a handle that is held, and under no page.
unfoldable pub R5 : Judge → ℕ → Bool
R5 s handle = is_in handle s.held && not (is_under s.mapped handle)

-- R6: an access is to mapped pages.
unfoldable pub R6 : Judge → ℕ → ℕ → Bool
R6 s address bytes = whole_pages s.run.page s.mapped address bytes

-- of R7: the address is in the buffer or in a live one
abbrev pub in_buffers : List Live → ℕ → ℕ → ℕ → Bool
in_buffers live start size x = inside start size x || any (λ b. inside b.start b.size x) live

-- no other mapped page in these has the handle of `p`
abbrev pub alone : List Page → List Live → ℕ → ℕ → Page → Bool
alone mapped live start size p =
    every (λ q. eqb q.at p.at || not (eqb q.handle p.handle) || not (in_buffers live start size q.at)) mapped

unfoldable pub no_handle_twice : List Page → List Live → ℕ → ℕ → Bool
no_handle_twice mapped live start size = every (λ p. not (inside start size p.at) || alone mapped live start size p) mapped

-- R7: a malloc hands over what it was asked for: mapped pages that no live buffer has, with handles of their own.
unfoldable pub R7 : Judge → ℕ → ℕ → Bool
R7 s start size =
    eqb size s.run.asked.first && whole_pages s.run.page s.mapped start size && none_live s.live start size
    && no_handle_twice s.mapped s.live start size

-- R8: a free names size and stream of the live buffer at its address.
unfoldable pub R8 : Judge → ℕ → ℕ → Bool
R8 s size stream = any (λ b. eqb b.start s.run.asked.first && eqb b.size size && eqb b.stream stream) s.live

-- R9: each id recorded is above the one before; only ids up to the last are asked or waited for.
abbrev pub rises : Option ℕ → ℕ → Bool
rises none id = true
rises (some last) id = ltb last id

abbrev pub not_above : Option ℕ → ℕ → Bool
not_above none id = false
not_above (some last) id = leb id last

unfoldable pub R9_recorded : Judge → ℕ → Bool
R9_recorded s id = rises s.last id

unfoldable pub R9_asked : Judge → ℕ → Bool
R9_asked s id = not_above s.last id

-- R10: a giveback is of a reservation that is held, with no page mapped in it.
unfoldable pub R10 : Judge → ℕ → ℕ → Bool
R10 s base size = any (λ r. eqb r.base base && eqb r.size size) s.reservations && every (λ p. not (inside base size p.at)) s.mapped
