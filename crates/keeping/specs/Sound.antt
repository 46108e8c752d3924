-- What is true of the tables during a call: each table in order, whole pages everywhere, and one equation over all tables for every address.
-- Between calls nothing is in hand and no page is bare.
use Rattle.std.specs.Prelude.{◌≡◌, Bool, true, false, ◌||◌, ℕ, ◌+◌, ◌≤◌, ◌<◌, ◌%◌, length}
use Rattle.lists.specs.Tests.{All}
use Rattle.lists.specs.Order.{Rises}
use Rattle.tables.specs.Bounds.{END, HOLES, PAGES, ROOTS, SPANS, VA, ZOMBIES}
use Rattle.tables.specs.Values.{Tables}
use Rattle.tables.specs.Outcomes.{is}
use Rattle.tables.specs.declared.Outcome.{Outcome}
use Rattle.tables.specs.InsertHole.{Apart}
use Rattle.keeping.specs.Cover.{within, cover_free, cover_live, cover_holes, cover_zombies, cover_roots, pages_at, handles_at, ids_at}

-- no address
abbrev pub none : ℕ → ℕ
none x = 0

-- a nonzero multiple of the page size
pub record Whole (page n : ℕ) : Type 0 where
  pub positive : 0 < n
  pub aligned : n % page ≡ 0

pub record WholeRange (page a n : ℕ) : Type 0 where
  pub start : Whole page a
  pub size : Whole page n

-- `lost` are the addresses of the roots that are in no table; `hand` those that a call has taken out of the tables and will put back; at those of
-- `bare` a page is active beside what free and live say.
pub record Sound (lost hand bare : ℕ → ℕ) (t : Tables) : Type 0 where
  pub page : 0 < t.fields.page
  pub va : Whole t.fields.page t.fields.va
  pub small : t.fields.va ≤ VA
  pub roots : All (λ a. Whole t.fields.page a.0 × (a.0 + t.fields.va ≤ END)) t.roots
  pub free : All (λ r. WholeRange t.fields.page r.start.0 r.size) t.free
  pub live : All (λ b. WholeRange t.fields.page b.start.0 b.size) t.live
  pub holes : All (λ h. WholeRange t.fields.page h.start.0 h.size) t.holes
  pub zombies : All (λ z. WholeRange t.fields.page z.start.0 z.size) t.zombies
  pub pages : All (λ g. Whole t.fields.page g.start.0) t.pages
  pub free_rises : Rises (λ r. r.start.0) 0 t.free
  pub live_rises : Rises (λ b. b.start.0) 0 t.live
  pub holes_apart : Apart 0 END t.holes
  pub pages_rise : Rises (λ g. g.start.0) 0 t.pages
  pub roots_once : (x : ℕ) → cover_roots t.fields.va t.roots x ≤ 1
  pub covered : (x : ℕ) →
      cover_free t.free x + cover_live t.live x + cover_holes t.holes x + cover_zombies t.zombies x + hand x + lost x
      ≡ cover_roots t.fields.va t.roots x
  pub pages_match : (x : ℕ) → x % t.fields.page ≡ 0 → pages_at t.pages x ≡ cover_free t.free x + cover_live t.live x + bare x
  pub handles_once : (h : ℕ) → handles_at t.pages h ≤ 1
  pub ids_once : (i : ℕ) → ids_at t.free i ≤ 1
  pub free_ids : All (λ r. r.id.0 < t.fields.counter) t.free
  pub zombie_ids : All (λ z. z.id.0 < t.fields.counter) t.zombies

-- the ceilings (docs/RULES.md 1.5)
pub record Ceilings (t : Tables) : Type 0 where
  pub pages : length t.pages ≤ PAGES
  pub spans : length t.free + length t.live ≤ SPANS
  pub zombies : length t.zombies ≤ ZOMBIES
  pub holes : length t.holes + length t.zombies ≤ HOLES
  pub roots : length t.roots ≤ ROOTS

-- What stands between calls.
pub record Kept (lost : ℕ → ℕ) (t : Tables) : Type 0 where
  pub sound : Sound lost none none t
  pub ceilings : Ceilings t

-- The same, with one range more that is in no table: its start and its size, which is 0 for none.
pub record KeptBut (lost : ℕ → ℕ) (t : Tables) : Type 0 where
  pub dropped : ℕ × ℕ
  pub kept : Kept (λ x. lost x + within dropped.0 dropped.1 x) t

-- What a call that ends early leaves, by its number (docs/RULES.md 4.5): at 17 the tables don't matter, 14 and 15 keep the ceilings, all others lose no
-- address.
abbrev pub LeftAt : Bool → Bool → (ℕ → ℕ) → Tables → Type 0
LeftAt true halts lost t = Unit {0}
LeftAt false true lost t = Ceilings t
LeftAt false false lost t = Kept lost t

abbrev pub Left : (ℕ → ℕ) → Outcome → Tables → Type 0
Left lost o t = LeftAt (is 17 o) (is 14 o || is 15 o) lost t
