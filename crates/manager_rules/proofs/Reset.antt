-- A reset keeps a layer well formed: highest is not below current.
use mathlib.Core.Path.{◌≡◌, refl}
use mathlib.Core.Logic.{◌⊎◌, inl, inr}
use mathlib.Core.Bool.{Bool, true, false}
use native.Mathlib.Omega.{arith}
use borrow.Author.Tests.{eqb-true}
use lib.Dec.{eqb}
use Rattle.tables.specs.Values.{stopped}
use Rattle.manager_rules.specs.WellFormed.{well_formed}
use Rattle.manager_rules.specs.Reset.{highest_reset}
use Rattle.manager_rules.specs.declared.Manager.{Manager}
use Rattle.manager_rules.proofs.Own.{Own, formed, formed-pool, formed-count, formed-own}

pub reset-keeps : (m : Manager) → well_formed m ≡ true → well_formed (highest_reset m) ≡ true
reset-keeps m w = formed (highest_reset m) (formed-pool m w) (formed-count m w) (go (eqb m.pool.state stopped) refl)
  where
    go : (b : Bool) → eqb m.pool.state stopped ≡ b → (m.pool.state ≡ stopped) ⊎ Own (highest_reset m)
    go true e = inl (eqb-true m.pool.state stopped e)
    go false e =
        let o = formed-own m w e in
        inr (record { nonzero = o.nonzero; distinct = o.distinct; sizes = o.sizes; held = o.held; highest = omega arith })
