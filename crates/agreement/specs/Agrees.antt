-- The relation between the pool's tables and the judge's state: reservations are the roots; the handles held are those of the page table; mapped are the
-- active pages and the zombies' pages, on active pages as the page table says, and every handle under a mapped page is held; the live buffers are the
-- same; the last recorded id is the counter less one. The theorem does not name it: what is to be believed is in Runs, Premises and Replays.
use Rattle.std.specs.Prelude.{◌≡◌, true, false, ◌||◌, List, [], ℕ, zero, suc, ◌+◌, ◌<◌, ◌%◌}
use Rattle.std.proofs.Math.Option.{Option, none, some}
use Rattle.lists.specs.Tests.{All, Member}
use Rattle.lists.specs.Walks.{sum}
use Rattle.words.specs.declared.Address.{Address}
use Rattle.tables.specs.Values.{Tables}
use Rattle.tables.specs.Outcomes.{is}
use Rattle.tables.specs.declared.LiveBuffer.{LiveBuffer}
use Rattle.tables.specs.declared.Outcome.{Outcome}
use Rattle.tables.specs.declared.Page as Pool
use Rattle.keeping.specs.Cover.{equal, cover_free, cover_live, cover_zombies}
use Rattle.keeping.specs.Sound.{none as nowhere, Left}
use Rattle.judge_rules.specs.Rules.{Reservation, Page, Live, Judge}
use Rattle.judge_rules.specs.Verdict.{ended}
use Rattle.judge_rules.specs.declared.Run.{Run}

-- The elements of `l` are those that the elements of `m` stand for, each as often, in whatever order: every weight adds up to the same.
pub record SameBy {A B : Type 0} (f : B → A) (l : List A) (m : List B) : Type 0 where
  pub sums : (weight : A → ℕ) → sum weight l ≡ sum (λ x. weight (f x)) m

abbrev pub reservation : ℕ → Address → Reservation
reservation va a = record { base = a.0; size = va }

abbrev pub mapping : Pool.Page → Page
mapping g = record { at = g.start.0; handle = g.handle.0 }

abbrev pub buffer : LiveBuffer → Live
buffer b = record { start = b.start.0; size = b.size; stream = b.stream }

-- how many mapped pages start at `x`; how often a handle is held
abbrev pub mapped_at : List Page → ℕ → ℕ
mapped_at m x = sum (λ g. equal g.at x) m

abbrev pub held_at : List ℕ → ℕ → ℕ
held_at l h = sum (λ k. equal k h) l

-- the last of the ids below a counter
abbrev pub last_below : ℕ → Option ℕ
last_below zero = none
last_below (suc c) = some c

-- Where the judge stands inside a call of an open pool: the call's line is read, its result is to come.
pub record Inside (run : Run) : Type 0 where
  pub opened : run.opened ≡ true
  pub waiting : run.waiting ≡ true
  pub over : run.over ≡ false

-- The same, where the call is no close.
pub record Serving (run : Run) : Type 0 where
  pub inside : Inside run
  pub keeps : (s : Judge) → ended run.asked.call s ≡ s

-- While a call is under way, `new` counts the mapped pages that are in no table's range, `spare` are handles that are held but not active, and `live`
-- are the live buffers that the judge knows of.
pub record Agrees (run : Run) (new : ℕ → ℕ) (spare : List ℕ) (live : List LiveBuffer) (t : Tables) (s : Judge) : Type 0 where
  pub runs : s.run ≡ run
  pub page : run.page ≡ t.fields.page
  pub va : run.va ≡ t.fields.va
  pub reservations : SameBy (reservation t.fields.va) s.reservations t.roots
  pub held : (weight : ℕ → ℕ) → sum weight s.held ≡ sum (λ g. weight g.handle.0) t.pages + sum weight spare
  pub aligned : All (λ g. g.at % t.fields.page ≡ 0) s.mapped
  pub mapped : (x : ℕ) → x % t.fields.page ≡ 0 → mapped_at s.mapped x ≡ cover_free t.free x + cover_live t.live x + cover_zombies t.zombies x + new x
  pub active : All (λ g. Member (mapping g) s.mapped) t.pages
  pub owned : All (λ g. 0 < held_at s.held g.handle) s.mapped
  pub buffers : SameBy buffer s.live live
  pub last : s.last ≡ last_below t.fields.counter

-- Where the judge knows of the buffers in the live table.
abbrev pub Agreeing : Run → (ℕ → ℕ) → List ℕ → Tables → Judge → Type 0
Agreeing run new spare t s = Agrees run new spare t.live t s

-- What an early end leaves: its number is neither 0 nor 14, and nothing is in hand.
abbrev pub Ended : Run → Outcome → Tables → Judge → Type 0
Ended run o t s = ((is 0 o || is 14 o) ≡ false) × Agreeing run nowhere [] t s

abbrev pub Ends : Run → (ℕ → ℕ) → Outcome → Tables → Judge → Type 0
Ends run lost o t s = Left lost o t × Ended run o t s
