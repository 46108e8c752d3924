-- A scan for the element of the least key among those that pass a test: from the front, with the place and the key of the best so far, if there is one.
use Rattle.std.specs.Prelude.{Bool, cond, List, ℕ, ltb, get_or, Option as Found, Some, None}
use Rattle.std.proofs.Math.Option.{Option, some, none}
use Rattle.lists.specs.Walks.{walk}
use Rattle.lists.specs.declared.Best.{Best}

-- the element at place `i`, of key `k`, is looked at: it is taken where there is none yet, or its key is below the best one's
abbrev pub better : ℕ → ℕ → Found Best → Found Best
better i k None = Some (record { at = i; least = k })
better i k (Some b) = cond (ltb k b.least) (Some (record { at = i; least = k })) (Some b)

module _ {ℓ} {A : Type ℓ} where
  -- the best after each element of `l`, whose places are counted from `i`
  abbrev pub scan : (A → ℕ) → (A → Bool) → ℕ → Found Best → List A → Found Best
  scan key p = walk (λ i b x. cond (p x) (better i (key x) b) b)

  -- the element of `l` that was found; `z` stands for one past its end
  abbrev pub found : A → List A → Found Best → Option A
  found z l None = none
  found z l (Some b) = some (get_or l b.at z)
