-- What a test leans on: what those before it have shown.
use Rattle.std.specs.Prelude.{◌≡◌, true, ℕ, ◌+◌, ◌≤◌, ◌<◌}
use Rattle.lists.specs.Tests.{All, pairwise}
use Rattle.tables.specs.Bounds.{END, ROOTS, VA}
use Rattle.tables.specs.Values.{Roots, roots_of}
use Rattle.tables.specs.TakeRange.{apart}
use Rattle.pool_soundness.specs.Tests.{roots_pass}
use Rattle.pool_soundness.specs.declared.walk.Front.{Front}

-- the roots are as they must be
pub record Rooted (roots : Roots) (page va : ℕ) : Type 0 where
  pub few : roots.count ≤ ROOTS
  pub paged : 0 < page
  pub small : va ≤ VA
  pub pass : roots_pass page va (roots_of roots) ≡ true

-- the roots stand apart, and they and a range that is not empty end where addresses end
pub record Bounded (x : Front) (roots : Roots) (va : ℕ) : Type 0 where
  pub some : 0 < x.size
  pub ends : x.from + x.size ≤ END
  pub few : roots.count ≤ ROOTS
  pub small : va ≤ VA
  pub roots_end : All (λ a. a.0 + va ≤ END) (roots_of roots)
  pub roots_apart : pairwise (λ a b. apart va a.0 b.0) (roots_of roots) ≡ true
