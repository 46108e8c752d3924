-- A zombie comes into the hand and goes into the holes: the hand's range ends where addresses end, so the hole fits, and all is sound again.
use Prim.Native.Nat.{ℕ, ◌+◌, ◌≤◌, ◌<◌}
use native.Mathlib.Omega.{arith}
use lib.ListN.{length, get_or}
use Rattle.lists.specs.Places.{swap_out}
use Rattle.lists.proofs.Tests.{all-at}
use Rattle.lists.proofs.Swap.{sum-swap_out, all-swap_out, length-swap_out}
use Rattle.tables.specs.Bounds.{END, HOLES}
use Rattle.tables.specs.Values.{holes_of, pack_holes, zombies_of, pack_zombies, with_zombies, empty_zombie}
use Rattle.tables.specs.Kept.{KeptZombies}
use Rattle.tables.specs.InsertHole.{insert_hole}
use Rattle.tables.specs.Values.{Holes}
use Rattle.tables.specs.declared.Zombie.{Zombie}
use Rattle.tables.specs.Values.{Zombies}
use Rattle.tables.proofs.Packs.{holes-count, holes-kept, holes_pack, zombies-count, zombies-kept, zombies_pack}
use Rattle.keeping.specs.Cover.{within}
use Rattle.keeping.specs.Sound.{none, WholeRange, Sound}
use Rattle.keeping.proofs.Holes.{length-hole}
use Rattle.keeping.proofs.Sounds.{sound-zombies, sound-hole, sound-range}
use Rattle.step_cleanup.specs.Promises.{cleaning, Cleanable}

module _ (z : Zombies) (h : Holes) (i : ℕ) (c : Cleanable z h) (b : i < z.count) where
  abbrev it : Zombie
  it = get_or (zombies_of z) i empty_zombie

  below : i < length (zombies_of z)
  below = omega (arith, zombies-count z c.zombies)

  range : WholeRange c.around.fields.page it.start.0 it.size
  range = all-at _ (zombies_of z) i empty_zombie c.kept.sound.zombies below

  in-hand : Sound c.lost (within it.start.0 it.size) none (with_zombies (swap_out i (zombies_of z)) (cleaning z h c.around))
  in-hand =
      let l = zombies_of z in
      let d = empty_zombie in
      let s = c.kept.sound in
      sound-zombies s (swap_out i l) (all-swap_out _ l i d s.zombies below)
      (λ x. omega (arith, sum-swap_out (λ y. within y.start.0 y.size x) l i d below)) (all-swap_out _ l i d s.zombie_ids below)

  pub it-ends : (get_or (zombies_of z) i empty_zombie).start.0 + (get_or (zombies_of z) i empty_zombie).size ≤ END
  it-ends = sound-range in-hand it.start.0 it.size range.size.positive (λ x. omega arith)

  pub room : h.count < HOLES
  room = omega (arith, holes-count h c.holes, below, c.kept.ceilings.holes)

  pub kept_out : KeptZombies (pack_zombies (swap_out i (zombies_of z)))
  kept_out = zombies-kept (swap_out i (zombies_of z)) (omega (arith, length-swap_out i (zombies_of z), c.kept.ceilings.zombies))

  pub cleanable-hole : Cleanable (pack_zombies (swap_out i (zombies_of z)))
      (pack_holes (insert_hole (get_or (zombies_of z) i empty_zombie).start.0 (get_or (zombies_of z) i empty_zombie).size (holes_of h)))
  cleanable-hole =
      let l = zombies_of z in
      let k = c.kept.ceilings in
      let fewer = length-swap_out i l in
      let longer = length-hole it.start.0 it.size (holes_of h) in
      record {
        zombies = kept_out;
        holes = holes-kept _ (omega (arith, longer, room, holes-count h c.holes));
        lost = c.lost;
        around = c.around;
        kept = rw (zombies_pack, holes_pack)
            (record {
              sound = sound-hole in-hand it.start.0 it.size (λ x. omega arith) (λ _. range);
              ceilings =
                  record {
                    pages = k.pages;
                    spans = k.spans;
                    zombies = omega (arith, fewer, k.zombies);
                    holes = omega (arith, fewer, longer, below, k.holes);
                    roots = k.roots;
                  };
            });
      }
