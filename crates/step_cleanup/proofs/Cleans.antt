-- What the body of cleanup's loop does to a complete zombie is the rule's `clean`: the zombie is taken out, its range unmapped, and where the call goes on
-- that range is a hole. The body reads the zombie from its cell, the rule from its list.
use mathlib.Core.Path.{◌≡◌, ap, ◌∙◌}
use mathlib.Core.List.{List}
use Prim.Native.Nat.{ℕ, ◌-◌, ◌<◌}
use native.Mathlib.Omega.{arith}
use lib.ListN.{length, get_or}
use Rattle.words.specs.declared.Word.TheVariants.{Unmap}
use Rattle.lists.specs.Places.{swap_out}
use Rattle.lists.proofs.Swap.{length-swap_out}
use Rattle.tables.specs.Values.{Tables, holes_of, pack_holes, zombies_of, pack_zombies, with_zombies, empty_zombie}
use Rattle.tables.specs.Kept.{KeptZombies}
use Rattle.tables.specs.InsertHole.{insert_hole}
use Rattle.tables.specs.Steps.{Ending, on, ends}
use Rattle.tables.specs.Driver.{try, unmap}
use Rattle.tables.specs.Cleanup.{clean}
use Rattle.tables.specs.Values.{Holes}
use Rattle.tables.specs.declared.Outcome.{Outcome}
use Rattle.tables.specs.declared.Zombie.{Zombie}
use Rattle.tables.specs.Values.{Zombies}
use Rattle.tables.proofs.Packs.{holes_pack, zombies-count, zombies_pack, zombies_cell}
use Rattle.driving.specs.Ran.{Ran, stands}
use Rattle.driving.specs.Promises.{telling}
use Rattle.driving.specs.declared.Driver.{Driver}
use Rattle.step_cleanup.specs.Promises.{cleaning, Cleanable}
use Rattle.step_cleanup.proofs.Turns.{clean-on, clean-stop}
use Rattle.step_cleanup.proofs.Sounds.{kept_out, cleanable-hole}

-- the zombie in a cell
abbrev cell : Zombies → ℕ → Zombie
cell z i = get_or z.cells i empty_zombie

-- the range of a zombie as a hole
abbrev returned : Holes → Zombie → Holes
returned h y = pack_holes (insert_hole y.start.0 y.size (holes_of h))

-- `left` are the zombies with the one at `i` taken out
module _ {z left : Zombies} {h : Holes} {i : ℕ} (c : Cleanable z h) (b : i < z.count) (out : left ≡ pack_zombies (swap_out i (zombies_of z))) where
  left_is : zombies_of left ≡ swap_out i (zombies_of z)
  left_is = ap zombies_of out ∙ zombies_pack _

  pub kept-left : KeptZombies left
  kept-left = rw out (kept_out z h i c b)

  pub count_left : left.count ≡ z.count - 1
  count_left = omega (arith, zombies-count left kept-left, ap length left_is, length-swap_out i (zombies_of z), zombies-count z c.zombies)

  pub cleanable-left : {hs : Holes} → hs ≡ returned h (cell z i) → Cleanable left hs
  cleanable-left put = rw (out, put, ← zombies_cell z i b) (cleanable-hole z h i c b)

  -- the unmap ended as `e`
  module _ {xs : List ℕ} (d d' : Driver) {e : Ending (Unit {0})}
      (tried : (t : Tables) → Ran (try (telling Unmap (cell z i).start.0 (cell z i).size)) xs (stands d t) e (stands d' t)) (t : Tables) where
    unmapped :
        let u = with_zombies (swap_out i (zombies_of z)) (cleaning z h t) in
        let y = get_or (zombies_of z) i empty_zombie in
        Ran (try (unmap y.start.0 y.size)) xs (stands d u) e (stands d' u)
    unfolding unmap
    unmapped = rw (← zombies_cell z i b) at (tried (with_zombies (swap_out i (zombies_of z)) (cleaning z h t)))

    pub cleans-stop : {o : Outcome} → e ≡ ends o →
        Ran (clean i (get_or (zombies_of z) i empty_zombie)) xs (stands d (cleaning z h t)) (ends o) (stands d' (cleaning left h t))
    cleans-stop p = rw left_is (clean-stop i _ (rw p at unmapped))

    pub cleans-on : {hs : Holes} → hs ≡ returned h (cell z i) → e ≡ on tt →
        Ran (clean i (get_or (zombies_of z) i empty_zombie)) xs (stands d (cleaning z h t)) (on tt) (stands d' (cleaning left hs t))
    cleans-on put p = rw (left_is, put, ← zombies_cell z i b, holes_pack) (clean-on i _ (rw p at unmapped))
