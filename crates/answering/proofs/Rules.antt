-- No rule below changes the page size or the live buffers: what `P` says of them stays true, walked step by step. And how each rule may end a call: with
-- outcomes of which `F` holds, if it holds of those that the rule names.
use mathlib.Core.Bool.{cond, ◌&&◌, ◌||◌, not}
use mathlib.Core.List.{List, [], ◌∷◌}
use mathlib.Core.Option.{Option, some, none}
use Prim.Native.Nat.{ℕ, zero, suc, ◌+◌, ◌-◌, ◌/◌}
use lib.Dec.{ltb, leb, eqb}
use lib.ListN.{length, get_or}
use Rattle.words.specs.Answers.{code_of, value_of, failed}
use Rattle.words.specs.declared.Answer.{Answer}
use Rattle.tables.specs.Bounds.{HOLES, PAGES, ROOTS, ZOMBIES}
use Rattle.tables.specs.Values.{Tables, empty_zombie}
use Rattle.tables.specs.InsertFree.{from, without_free, insert_free}
use Rattle.tables.specs.TakeRange.{credible, smallest_hole, reserve_root, take_hole, take_range}
use Rattle.tables.specs.NewPages.{Room, at, map_page, unmake, new_pages, roll_back, is_active, created, make_pages, insert_new}
use Rattle.tables.specs.Pull.{pull_order, settle, pull_one, pull, pages_in, handle_at, move_pages, pull_in}
use Rattle.tables.specs.MakeRoom.{missing, fill, make_room}
use Rattle.tables.specs.Cleanup.{clean, walk, cleanup}
use Rattle.tables.specs.Fit.{candidates, smallest, ask_all, on_stream, take_over, or_other, fit}
use Rattle.tables.specs.Malloc.{no_hole, room_refused, or_room}
use Rattle.tables.specs.declared.FreeRegion.{FreeRegion}
use Rattle.tables.specs.declared.LiveBuffer.{LiveBuffer}
use Rattle.tables.specs.declared.Hole.{Hole}
use Rattle.tables.specs.declared.Zombie.{Zombie}
use Rattle.tables.specs.declared.Page.{Page}
use Rattle.tables.specs.declared.Outcome.{Outcome}
use Rattle.tables.specs.declared.Outcome.TheVariants.{
  RequestedExceedsVa,
  PagesFull,
  ZombiesFull,
  RootsFull,
  ReserveFailed,
  OutOfMemory,
  DriverFailed,
  Incredible,
  AnswersRanOut,
}
use Rattle.keeping.proofs.Holds.{drives-reserve, drives-create, drives-map, drives-access, drives-unmap, drives-release, drives-record, drives-wait}
use Rattle.answering.proofs.Stays.{
  Stays,
  May,
  stays_then,
  stays-give,
  stays-end,
  stays_looked,
  stays-change,
  stays-cond,
  stays-end_if,
  stays-each,
  stays_drive,
  stays-try,
  stays-is_complete,
  stays-must,
}
use Rattle.answering.proofs.Ends.{Ends}

-- what `P` says of the page size and the live buffers
abbrev pub On : (ℕ → List LiveBuffer → Type 0) → Tables → Type 0
On P t = P t.fields.page t.live

-- Cleanup and fit: 17.
module _ (P : ℕ → List LiveBuffer → Type 0) (F : Outcome → Tables → Type 0) (short : May (On P) F AnswersRanOut) where
  cleans : (i : ℕ) (z : Zombie) → Stays (On P) F (clean i z)
  unfolding clean
  cleans i z =
      stays_then (stays-change _ (λ _ h. h)) (λ _.
      stays_then (stays-try short (drives-unmap z.start.0 z.size)) (λ _. stays-change _ (λ _ h. h)))

  walks : (n i : ℕ) → Stays (On P) F (walk n i)
  walks zero i = stays-give tt
  walks (suc n) i =
      stays_looked (λ t.
      let z = get_or t.zombies i empty_zombie in
      stays_then (stays-is_complete short z.id.0) (λ c. stays-cond c (stays_then (cleans i z) (λ _. walks n i)) (walks n (i + 1))))

  pub cleanup-stays : Stays (On P) F cleanup
  unfolding cleanup
  cleanup-stays = stays_looked (λ t. walks (length t.zombies) 0)

  asks-all : (l : List FreeRegion) → Stays (On P) F (ask_all l)
  asks-all [] = stays-give []
  asks-all (r ∷ l) =
      stays_then (stays-is_complete short r.id.0) (λ c.
      stays_then (asks-all l) (λ done. stays-give (cond c (r ∷ done) done)))

  takes-over : (s : ℕ) (o : Option FreeRegion) → Stays (On P) F (take_over s o)
  unfolding take_over
  takes-over s none = stays-give none
  takes-over s (some r) = stays_then (stays-change _ (λ _ h. h)) (λ _. stays-give (some (on_stream s r)))

  or-other : (s : ℕ) (l : List FreeRegion) (o : Option FreeRegion) → Stays (On P) F (or_other s l o)
  unfolding or_other
  or-other s l none = stays_then (asks-all l) (λ done. takes-over s (smallest done))
  or-other s l (some r) = stays-give (some r)

  pub fit_stays : (n s : ℕ) → Stays (On P) F (fit n s)
  unfolding fit
  fit_stays n s = stays_looked (λ t. or-other s (candidates n t.free) _)

  -- Insert free, and to pull and move what is free: 14 too.
  module _ (fails : (code : ℕ) → May (On P) F (DriverFailed code)) where
    pub insert_free-stays : (a n s : ℕ) → Stays (On P) F (insert_free a n s)
    unfolding insert_free
    insert_free-stays a n s =
        stays_looked (λ t.
        stays_then (stays-change _ (λ _ h. h)) (λ _.
        stays_then (stays-must short fails (drives-record t.fields.counter s)) (λ _.
        stays_then (stays-change _ (λ _ h. h)) (λ _.
        stays_then (stays-change _ (λ _ h. h)) (λ _. stays-give _)))))

    maps-page : (a h : ℕ) → Stays (On P) F (map_page a h)
    unfolding map_page
    maps-page a h = stays_then (stays-must short fails (drives-map a h)) (λ _. stays-change _ (λ _ h. h))

    settles : (s : ℕ) (r : FreeRegion) → Stays (On P) F (settle s r)
    unfolding settle
    settles s r =
        stays-cond (eqb r.stream s) (stays-give tt)
        (stays_then (stays-is_complete short r.id.0) (λ c.
        stays-cond c (stays-give tt) (stays-must short fails (drives-wait r.id.0 s))))

    pulls-one : (s lacks : ℕ) (r : FreeRegion) → Stays (On P) F (pull_one s lacks r)
    unfolding pull_one
    pulls-one s lacks r =
        stays_then (stays-change _ (λ _ h. h)) (λ _.
        stays_then (settles s r) (λ _.
        stays_then (stays-change _ (λ _ h. h)) (λ _.
        stays_then (stays-change _ (λ _ h. h)) (λ _. stays-give _))))

    pulls : (l : List FreeRegion) (s lacks : ℕ) → Stays (On P) F (pull l s lacks)
    pulls [] s lacks = stays-give []
    pulls (r ∷ l) s lacks =
        stays-cond (eqb lacks 0) (stays-give [])
        (stays_then (pulls-one s lacks r) (λ z.
        stays_then (pulls l s (lacks - z.size)) (λ zs. stays-give (z ∷ zs))))

    moves-pages : (l : List ℕ) (a : ℕ) → Stays (On P) F (move_pages l a)
    moves-pages [] a = stays-give tt
    moves-pages (b ∷ l) a =
        stays_looked (λ t.
        stays_then (stays-change _ (λ _ h. h)) (λ _.
        stays_then (maps-page a (handle_at b t.pages)) (λ _. moves-pages l (a + t.fields.page))))

    pulls-in : (o : Room) (lacks : ℕ) (others : List FreeRegion) → Stays (On P) F (pull_in o lacks others)
    unfolding pull_in
    pulls-in o lacks others =
        let a = o.start + o.missing in
        stays_then (pulls (pull_order o.stream others) o.stream lacks) (λ zs.
        stays_looked (λ t.
        stays_then (moves-pages (pages_in t.fields.page zs) a) (λ _.
        stays_then (stays-must short fails (drives-access a lacks)) (λ _. insert_free-stays a lacks o.stream))))

    pub fill-stays : (o : Room) (r : Option FreeRegion) → Stays (On P) F (fill o r)
    unfolding fill
    fill-stays o none = stays_looked (λ t. pulls-in o o.size t.free)
    fill-stays o (some r) =
        stays_looked (λ t.
        stays-cond (leb o.size r.size) (stays-give r) (pulls-in o (o.size - r.size) (without_free (from r) t.free)))

    pub insert_new-stays : (o : Room) → Stays (On P) F (insert_new o)
    unfolding insert_new
    insert_new-stays o =
        stays-cond (eqb o.missing 0) (stays-give none)
        (stays_then (stays-must short fails (drives-access o.start o.missing)) (λ _.
        stays_then (insert_free-stays o.start o.missing o.stream) (λ r. stays-give (some r))))

    -- A root: 12 and 15 too.
    module _ (reserves : (va page : ℕ) → May (On P) F (ReserveFailed va page)) (incredible : May (On P) F Incredible) where
      pub reserve_root-stays : (n : ℕ) → Stays (On P) F (reserve_root n)
      unfolding reserve_root
      reserve_root-stays n =
          stays_looked (λ t.
          stays_then (stays_drive short (drives-reserve t.fields.va)) (λ x.
          stays_then (stays-end_if (failed x) (ReserveFailed t.fields.va t.fields.page) (reserves t.fields.va t.fields.page)) (λ _.
          stays_then (stays-end_if (not (credible (value_of x) t)) Incredible incredible) (λ _.
          stays_then (stays-change _ (λ _ h. h)) (λ _.
          stays_then (stays-change _ (λ _ h. h)) (λ _. stays-give (value_of x)))))))

      takes-hole : (n : ℕ) (h : Option Hole) → Stays (On P) F (take_hole n h)
      unfolding take_hole
      takes-hole n none = reserve_root-stays n
      takes-hole n (some h) = stays_then (stays-change _ (λ _ h. h)) (λ _. stays-give _)

      takes-range : (n : ℕ) → Stays (On P) F (take_range n)
      unfolding take_range
      takes-range n = stays_looked (λ t. takes-hole n (smallest_hole n t.holes))

      -- Make room: 13 too.
      module _ (memory : (missing made : ℕ) → May (On P) F (OutOfMemory missing made)) where
        unmakes : (g : Page) → Stays (On P) F (unmake g)
        unfolding unmake
        unmakes g =
            stays_looked (λ t.
            stays_then (stays-try short (drives-unmap (at g) t.fields.page)) (λ _.
            stays_then (stays-change _ (λ _ h. h)) (λ _. stays-try short (drives-release g.handle.0))))

        rolls-back : (o : Room) (a : ℕ) → Stays (On P) F (roll_back o a)
        unfolding roll_back
        rolls-back o a =
            stays_looked (λ t.
            stays_then (stays-each unmakes (new_pages o a t.pages)) (λ _.
            stays_then (stays-change _ (λ _ h. h)) (λ _. stays-end (OutOfMemory o.missing (a - o.start)) (memory o.missing (a - o.start)))))

        checks-created : (o : Room) (a : ℕ) (x : Answer) → Stays (On P) F (created o a x)
        unfolding created
        checks-created o a x =
            stays_looked (λ t.
            stays_then (stays-cond (eqb (code_of x) 2) (rolls-back o a) (stays-give tt)) (λ _.
            stays_then (stays-end_if (failed x) (DriverFailed (code_of x)) (fails (code_of x))) (λ _.
            stays-end_if (is_active (value_of x) t.pages) Incredible incredible)))

        makes-pages : (k : ℕ) (o : Room) (a : ℕ) → Stays (On P) F (make_pages k o a)
        makes-pages zero o a = stays-give tt
        makes-pages (suc k) o a =
            stays_looked (λ t.
            stays_then (stays_drive short (drives-create t.fields.page)) (λ x.
            stays_then (checks-created o a x) (λ _.
            stays_then (maps-page a (value_of x)) (λ _. makes-pages k o (a + t.fields.page)))))

        pub make_room-stays : (n s : ℕ) → Stays (On P) F (make_room n s)
        unfolding make_room
        make_room-stays n s =
            stays_looked (λ t.
            stays_then (takes-range n) (λ a.
            let o : Room = record { start = a; size = n; missing = missing n t; stream = s } in
            stays_then (makes-pages (o.missing / t.fields.page) o a) (λ _.
            stays_then (insert_new-stays o) (fill-stays o))))

        -- Room is made only where nothing fits, and refused before: 8 to 11 too.
        module _
            (exceeds : (size va : ℕ) → May (On P) F (RequestedExceedsVa size va))
            (pages : May (On P) F PagesFull)
            (zombies : May (On P) F ZombiesFull)
            (roots : May (On P) F RootsFull)
          where
            refuses-room : (n : ℕ) → Stays (On P) F (room_refused n)
            unfolding room_refused
            refuses-room n =
                stays_looked (λ t.
                let pulled = length t.zombies + length t.free in
                stays_then (stays-end_if (ltb t.fields.va n) (RequestedExceedsVa n t.fields.va) (exceeds n t.fields.va)) (λ _.
                stays_then (stays-end_if (ltb PAGES (length t.pages + missing n t / t.fields.page)) PagesFull pages) (λ _.
                stays_then (stays-end_if (ltb ZOMBIES pulled || ltb (HOLES - 1) (pulled + length t.holes)) ZombiesFull zombies) (λ _.
                stays-end_if (no_hole (smallest_hole n t.holes) && leb ROOTS (length t.roots)) RootsFull roots))))

            pub or_room-stays : (n s : ℕ) (o : Option FreeRegion) → Stays (On P) F (or_room n s o)
            unfolding or_room
            or_room-stays n s none = stays_then (refuses-room n) (λ _. make_room-stays n s)
            or_room-stays n s (some r) = stays-give r

-- The ends alone, whatever the live buffers are.
module _ (F : Outcome → Type 0) (short : F AnswersRanOut) where
  pub cleanup-ends : Ends F cleanup
  cleanup-ends = cleanup-stays (λ _ _. Unit {0}) (λ o _. F o) (λ _ _. short)

  pub fit-ends : (n s : ℕ) → Ends F (fit n s)
  fit-ends = fit_stays (λ _ _. Unit {0}) (λ o _. F o) (λ _ _. short)

  module _ (fails : (code : ℕ) → F (DriverFailed code)) where
    pub insert_free-ends : (a n s : ℕ) → Ends F (insert_free a n s)
    insert_free-ends = insert_free-stays (λ _ _. Unit {0}) (λ o _. F o) (λ _ _. short) (λ c _ _. fails c)

    pub fills : (o : Room) (r : Option FreeRegion) → Ends F (fill o r)
    fills = fill-stays (λ _ _. Unit {0}) (λ o _. F o) (λ _ _. short) (λ c _ _. fails c)

    pub inserts-new : (o : Room) → Ends F (insert_new o)
    inserts-new = insert_new-stays (λ _ _. Unit {0}) (λ o _. F o) (λ _ _. short) (λ c _ _. fails c)

    module _ (reserves : (va page : ℕ) → F (ReserveFailed va page)) (incredible : F Incredible) where
      pub reserve_root-ends : (n : ℕ) → Ends F (reserve_root n)
      reserve_root-ends =
          reserve_root-stays (λ _ _. Unit {0}) (λ o _. F o) (λ _ _. short) (λ c _ _. fails c) (λ v p _ _. reserves v p) (λ _ _. incredible)

      module _ (memory : (missing made : ℕ) → F (OutOfMemory missing made)) where
        pub make_room-ends : (n s : ℕ) → Ends F (make_room n s)
        make_room-ends =
            make_room-stays (λ _ _. Unit {0}) (λ o _. F o) (λ _ _. short) (λ c _ _. fails c) (λ v p _ _. reserves v p) (λ _ _. incredible)
            (λ m k _ _. memory m k)

        pub or_room-ends : ((size va : ℕ) → F (RequestedExceedsVa size va)) → F PagesFull → F ZombiesFull → F RootsFull → (n s : ℕ) (o : Option FreeRegion) →
            Ends F (or_room n s o)
        or_room-ends exceeds pages zombies roots =
            or_room-stays (λ _ _. Unit {0}) (λ o _. F o) (λ _ _. short) (λ c _ _. fails c) (λ v p _ _. reserves v p) (λ _ _. incredible)
            (λ m k _ _. memory m k) (λ n v _ _. exceeds n v) (λ _ _. pages) (λ _ _. zombies) (λ _ _. roots)
