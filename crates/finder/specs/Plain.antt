-- The layer and its plain form: the same numbers, in the same order.
use Rattle.std.specs.Prelude.{◌≡◌, refl}
use Rattle.plain_pool.specs.Plain as Pool
use Rattle.manager_rules.specs.declared.Manager.{Manager}
use Rattle.finder.specs.declared.plain.PlainManager.{PlainManager}

abbrev pub manager_of : PlainManager → Manager
manager_of m =
    record {
      pool = Pool.pool_of m.pool;
      small = record { cells = m.small.cells; count = m.small.count };
      current = m.current;
      highest = m.highest;
    }

abbrev pub plain_of : Manager → PlainManager
plain_of m =
    record {
      pool = Pool.plain_of m.pool;
      small = record { cells = m.small.cells; count = m.small.count };
      current = m.current;
      highest = m.highest;
    }

-- nothing is lost on the way
pub there_and_back : (m : Manager) → manager_of (plain_of m) ≡ m
there_and_back m = refl

pub back_and_there : (m : PlainManager) → plain_of (manager_of m) ≡ m
back_and_there m = refl
