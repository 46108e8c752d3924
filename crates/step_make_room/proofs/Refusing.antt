-- The ways of the refusals: each of the four passed or taken in order.
use mathlib.Core.Path.{◌≡◌}
use mathlib.Core.Bool.{Bool, true, false, ◌&&◌, ◌||◌, and-false}
use mathlib.Core.List.{List}
use mathlib.Core.Option.{some, none}
use Prim.Native.Nat.{ℕ, ◌+◌, ◌-◌, ◌/◌, ◌≤◌, ◌<◌}
use native.Mathlib.Omega.{arith}
use borrow.Author.Tests.{lt-ltb, le-ltb, le-leb, lt-leb}
use lib.Dec.{ltb, leb}
use lib.ListN.{length}
use Rattle.tables.specs.Bounds.{HOLES, PAGES, ROOTS, ZOMBIES}
use Rattle.tables.specs.Values.{Tables, tables_of, free_of, holes_of, zombies_of, pages_of}
use Rattle.tables.specs.Kept.{KeptPool}
use Rattle.tables.specs.InsertFree.{bytes}
use Rattle.tables.specs.Steps.{Ending, on, ends, end_if}
use Rattle.tables.specs.TakeRange.{smallest_hole}
use Rattle.tables.specs.MakeRoom.{missing}
use Rattle.tables.specs.Malloc.{no_hole, room_refused}
use Rattle.tables.specs.declared.Hole.{Hole}
use Rattle.tables.specs.declared.Outcome.{Outcome}
use Rattle.tables.specs.declared.Pool.{Pool}
use Rattle.tables.specs.declared.Outcome.TheVariants.{RequestedExceedsVa, PagesFull, ZombiesFull, RootsFull}
use Rattle.driving.specs.Ran.{Ran, Point}
use Rattle.tables.proofs.Packs.{free-count, holes-count, zombies-count, pages-count}
use Rattle.std.specs.Prelude.{Err}
use Rattle.step_make_room.specs.Promises.{Refuses}
use Rattle.driving.proofs.Ran.{next, stop, gave, ended, looked, taken, passed}

-- zombies and free regions, and the test for 10
abbrev pulled : Tables → ℕ
pulled t = length t.zombies + length t.free

abbrev crowded : Tables → Bool
crowded t = ltb ZOMBIES (pulled t) || ltb (HOLES - 1) (pulled t + length t.holes)

-- the test for 11
abbrev rootless : ℕ → Tables → Bool
rootless n t = no_hole (smallest_hole n t.holes) && leb ROOTS (length t.roots)

module _ {xs : List ℕ} {s : Point} where
  -- one refusal, taken or passed
  refused : {b : Bool} {o : Outcome} → b ≡ true → Ran (end_if b o) xs s (ends o) s
  refused h = taken _ h ended

  not_so : {b : Bool} (o : Outcome) → b ≡ false → Ran (end_if b o) xs s (on tt) s
  not_so o h = passed _ h gave

  -- 8 to 11 in order: each where those before it are passed
  module _ (n : ℕ) where
    pub too_large : s.tables.fields.va < n → Ran (room_refused n) xs s (ends (RequestedExceedsVa n s.tables.fields.va)) s
    unfolding room_refused
    too_large h = next _ looked (stop _ (refused (lt-ltb _ _ h)))

    module _ (fits : n ≤ s.tables.fields.va) where
      pub pages-full : PAGES < length s.tables.pages + missing n s.tables / s.tables.fields.page → Ran (room_refused n) xs s (ends PagesFull) s
      unfolding room_refused
      pages-full h = next _ looked (next _ (not_so _ (le-ltb _ _ fits)) (stop _ (refused (lt-ltb _ _ h))))

      module _ (few : length s.tables.pages + missing n s.tables / s.tables.fields.page ≤ PAGES) where
        pub zombies-full : ZOMBIES < pulled s.tables → Ran (room_refused n) xs s (ends ZombiesFull) s
        unfolding room_refused
        zombies-full h =
            let e : crowded s.tables ≡ true = rw (lt-ltb _ _ h) in
            next _ looked (next _ (not_so _ (le-ltb _ _ fits)) (next _ (not_so _ (le-ltb _ _ few)) (stop _ (refused e))))

        module _ (pullable : pulled s.tables ≤ ZOMBIES) where
          pub holes-full : (HOLES - 1) < pulled s.tables + length s.tables.holes →
              Ran (room_refused n) xs s (ends ZombiesFull) s
          unfolding room_refused
          holes-full h =
              let e : crowded s.tables ≡ true = rw (le-ltb _ _ pullable, lt-ltb _ _ h) in
              next _ looked (next _ (not_so _ (le-ltb _ _ fits)) (next _ (not_so _ (le-ltb _ _ few)) (stop _ (refused e))))

          module _ (holes : pulled s.tables + length s.tables.holes ≤ (HOLES - 1)) where
            last : {e : Ending (Unit {0})} → Ran (end_if (rootless n s.tables) RootsFull) xs s e s → Ran (room_refused n) xs s e s
            unfolding room_refused
            last r =
                let e : crowded s.tables ≡ false = rw (le-ltb _ _ pullable, le-ltb _ _ holes) in
                next _ looked (next _ (not_so _ (le-ltb _ _ fits)) (next _ (not_so _ (le-ltb _ _ few)) (next _ (not_so _ e) r)))

            pub roots-full : smallest_hole n s.tables.holes ≡ none → ROOTS ≤ length s.tables.roots → Ran (room_refused n) xs s (ends RootsFull) s
            roots-full e h =
                let f : rootless n s.tables ≡ true = rw (e, le-leb _ _ h) in
                last (refused f)

            pub root-left : length s.tables.roots < ROOTS → Ran (room_refused n) xs s (on tt) s
            root-left h =
                let f : rootless n s.tables ≡ false = rw (lt-leb _ _ h) (and-false (no_hole (smallest_hole n s.tables.holes))) in
                last (not_so _ f)

            pub hole-left : (h : Hole) → smallest_hole n s.tables.holes ≡ some h → Ran (room_refused n) xs s (on tt) s
            hole-left h e =
                let f : rootless n s.tables ≡ false = rw e in
                last (not_so _ f)

-- 10, by the counts that are tested: the zombies that there would be, with the holes, are as many as there is room for holes
pub refuses_holes : (n : ℕ) (p : Pool) → KeptPool p → n ≤ p.va → missing n (tables_of p) / p.page ≤ PAGES - p.pages.count →
    p.zombies.count + p.free.count ≤ ZOMBIES → HOLES ≤ p.zombies.count + p.free.count + p.holes.count → Refuses n p (Err ZombiesFull)
unfolding tables_of
refuses_holes n p t fits pages pull full =
    let few : length (pages_of p.pages) + (n - bytes (free_of p.free)) / p.page ≤ PAGES = omega (arith, pages-count p.pages t.pages, t.pages.most) in
    let z = zombies-count p.zombies t.zombies in
    let f = free-count p.free t.free in
    let h = holes-count p.holes t.holes in
    let pullable : length (zombies_of p.zombies) + length (free_of p.free) ≤ ZOMBIES = omega (arith, z, f) in
    let crowds : (HOLES - 1) < length (zombies_of p.zombies) + length (free_of p.free) + length (holes_of p.holes) = omega (arith, z, f, h) in
    record { ran = λ xs k l. holes-full n fits few pullable crowds }
