-- What the code of a close needs, and what it promises.
use Rattle.std.specs.Prelude.{◌≡◌, Result, ℕ, ◌+◌, ◌*◌, ◌≤◌}
use Rattle.words.specs.declared.Address.{Address}
use Rattle.tables.specs.Bounds.{PAGES, ROOTS, ZOMBIES}
use Rattle.tables.specs.Values.{Tables, tables_of}
use Rattle.tables.specs.Kept.{KeptZombies, KeptPages, KeptRoots}
use Rattle.tables.specs.Steps.{Act, ends, ◌>>◌}
use Rattle.tables.specs.Driver.{try, unmap, release, giveback}
use Rattle.tables.specs.NewPages.{at}
use Rattle.tables.specs.Close.{close_steps}
use Rattle.tables.specs.declared.Zombie.{Zombie}
use Rattle.tables.specs.declared.Page.{Page}
use Rattle.tables.specs.declared.Pool.{Pool}
use Rattle.tables.specs.declared.Outcome.{Outcome}
use Rattle.tables.specs.declared.Outcome.TheVariants.{AnswersRanOut}
use Rattle.driving.specs.Ran.{Lent, stands}
use Rattle.driving.specs.Endings.{ending}
use Rattle.driving.specs.declared.Driver.{Driver}
use Rattle.step_close.specs.Counting.{RanCounting}

-- The steps of a close, for one entry of each table.
abbrev pub unmap_zombie : Zombie → Act
unmap_zombie z = try (unmap z.start.0 z.size)

abbrev pub close_page : ℕ → Page → Act
close_page page g = try (unmap (at g) page) >> try (release g.handle.0)

abbrev pub give_back : ℕ → Address → Act
give_back va a = try (giveback a.0 va)

-- A part of a close, of at most `n` driver calls: it leaves the tables as they are, whatever they are, and only 17 ends it.
pub record Counts (act : Act) (n : ℕ) (d : Driver) (f : ℕ) (r : Result (Unit {0}) Outcome) (d' : Driver) (g : ℕ) : Type 0 where
  pub lent : Lent d d'
  pub ran : (t : Tables) → RanCounting act d.answers.now (stands d t) f (ending r) (stands d' t) g
  pub only : (o : Outcome) → ending r ≡ ends o → o ≡ AnswersRanOut
  pub most : d'.made ≤ d.made + n
  pub few : g ≤ d'.made

-- The tables that a close reads are kept; nothing is asked of the numbers in them.
pub record Closable (p : Pool) : Type 0 where
  pub zombies : KeptZombies p.zombies
  pub pages : KeptPages p.pages
  pub roots : KeptRoots p.roots

-- The most driver calls of a close: the sync, one for each zombie, two for each page, one for each root.
abbrev pub close_calls : ℕ
close_calls = 1 + ZOMBIES + 2 * PAGES + ROOTS

-- The whole close: at every end the failed lines are counted.
pub record Closes (d : Driver) (f : ℕ) (p : Pool) (r : Result (Unit {0}) Outcome) (d' : Driver) (g : ℕ) : Type 0 where
  pub lent : Lent d d'
  pub ran : RanCounting close_steps d.answers.now (stands d (tables_of p)) f (ending r) (stands d' (tables_of p)) g
  pub only : (o : Outcome) → ending r ≡ ends o → o ≡ AnswersRanOut
  pub most : d'.made ≤ d.made + close_calls
