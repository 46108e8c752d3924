-- Each rule of a call hears the answers to its own driver calls alone: it is made of steps that do.
use mathlib.Core.List.{List, [], ◌∷◌}
use mathlib.Core.Option.{Option, some, none}
use Prim.Native.Nat.{ℕ, zero, suc}
use Rattle.words.specs.declared.Answer.{Answer}
use Rattle.tables.specs.Cleanup.{clean, walk, cleanup}
use Rattle.tables.specs.Fit.{ask_all, take_over, or_other, fit}
use Rattle.tables.specs.TakeRange.{reserve_root, take_hole, take_range}
use Rattle.tables.specs.NewPages.{Room, map_page, unmake, roll_back, created, make_pages, insert_new}
use Rattle.tables.specs.InsertFree.{insert_free}
use Rattle.tables.specs.Pull.{settle, pull_one, pull, move_pages, pull_in}
use Rattle.tables.specs.MakeRoom.{fill, make_room}
use Rattle.tables.specs.Malloc.{room_refused, or_room, hand_over, malloc_steps}
use Rattle.tables.specs.Free.{free_steps}
use Rattle.tables.specs.Close.{close_steps}
use Rattle.tables.specs.Open.{open_steps}
use Rattle.tables.specs.declared.FreeRegion.{FreeRegion}
use Rattle.tables.specs.declared.LiveBuffer.{LiveBuffer}
use Rattle.tables.specs.declared.Hole.{Hole}
use Rattle.tables.specs.declared.Page.{Page}
use Rattle.tables.specs.declared.Zombie.{Zombie}
use Rattle.spare_answers.specs.Hears.{Hears}
use Rattle.spare_answers.proofs.Hears.{hears-give, hears_then, hears-is_complete, hearing}

hears-clean : (i : ℕ) (z : Zombie) → Hears (clean i z)
unfolding clean
hears-clean i z = search hearing depth 20

hears-walk : (n i : ℕ) → Hears (walk n i)
hears-walk zero i = search hearing
hears-walk (suc n) i = let again = hears-walk n in search (hearing, hears-clean, again) depth 20

hears-cleanup : Hears cleanup
unfolding cleanup
hears-cleanup = search (hearing, hears-walk) depth 20

hears-ask_all : (l : List FreeRegion) → Hears (ask_all l)
hears-ask_all [] = search hearing
hears-ask_all (r ∷ l) = hears_then (hears-is_complete _) (λ c. hears_then (hears-ask_all l) (λ done. hears-give _))

hears-take_over : (s : ℕ) (o : Option FreeRegion) → Hears (take_over s o)
unfolding take_over
hears-take_over s none = search hearing
hears-take_over s (some r) = search hearing depth 20

hears-or_other : (s : ℕ) (l : List FreeRegion) (o : Option FreeRegion) → Hears (or_other s l o)
unfolding or_other
hears-or_other s l none = search (hearing, hears-ask_all, hears-take_over) depth 20
hears-or_other s l (some r) = search hearing

hears-fit : (n s : ℕ) → Hears (fit n s)
unfolding fit
hears-fit n s = search (hearing, hears-or_other) depth 20

hears-reserve_root : (n : ℕ) → Hears (reserve_root n)
unfolding reserve_root
hears-reserve_root n = search hearing depth 20

hears-take_hole : (n : ℕ) (o : Option Hole) → Hears (take_hole n o)
unfolding take_hole
hears-take_hole n none = hears-reserve_root n
hears-take_hole n (some h) = search hearing depth 20

hears-take_range : (n : ℕ) → Hears (take_range n)
unfolding take_range
hears-take_range n = search (hearing, hears-take_hole) depth 20

hears-map_page : (a h : ℕ) → Hears (map_page a h)
unfolding map_page
hears-map_page a h = search hearing depth 20

hears-unmake : (g : Page) → Hears (unmake g)
unfolding unmake
hears-unmake g = search hearing depth 20

hears-roll_back : (o : Room) (a : ℕ) → Hears (roll_back o a)
unfolding roll_back
hears-roll_back o a = search (hearing, hears-unmake) depth 20

hears-created : (o : Room) (a : ℕ) (x : Answer) → Hears (created o a x)
unfolding created
hears-created o a x = search (hearing, hears-roll_back) depth 20

hears-make_pages : (k : ℕ) (o : Room) (a : ℕ) → Hears (make_pages k o a)
hears-make_pages zero o a = search hearing
hears-make_pages (suc k) o a = let again = hears-make_pages k in search (hearing, hears-created, hears-map_page, again) depth 20

hears-insert_free : (a n s : ℕ) → Hears (insert_free a n s)
unfolding insert_free
hears-insert_free a n s = search hearing depth 20

hears-insert_new : (o : Room) → Hears (insert_new o)
unfolding insert_new
hears-insert_new o = search (hearing, hears-insert_free) depth 20

hears-settle : (s : ℕ) (r : FreeRegion) → Hears (settle s r)
unfolding settle
hears-settle s r = search hearing depth 20

hears-pull_one : (s lacks : ℕ) (r : FreeRegion) → Hears (pull_one s lacks r)
unfolding pull_one
hears-pull_one s lacks r = search (hearing, hears-settle) depth 20

hears-pull : (l : List FreeRegion) (s lacks : ℕ) → Hears (pull l s lacks)
hears-pull [] s lacks = search hearing
hears-pull (r ∷ l) s lacks = let again = hears-pull l in search (hearing, hears-pull_one, again) depth 20

hears-move_pages : (l : List ℕ) (a : ℕ) → Hears (move_pages l a)
hears-move_pages [] a = search hearing
hears-move_pages (b ∷ l) a = let again = hears-move_pages l in search (hearing, hears-map_page, again) depth 20

hears-pull_in : (o : Room) (lacks : ℕ) (others : List FreeRegion) → Hears (pull_in o lacks others)
unfolding pull_in
hears-pull_in o lacks others = search (hearing, hears-pull, hears-move_pages, hears-insert_free) depth 20

hears-fill : (o : Room) (r : Option FreeRegion) → Hears (fill o r)
unfolding fill
hears-fill o none = search (hearing, hears-pull_in) depth 20
hears-fill o (some r) = search (hearing, hears-pull_in) depth 20

hears-make_room : (n s : ℕ) → Hears (make_room n s)
unfolding make_room
hears-make_room n s = search (hearing, hears-take_range, hears-make_pages, hears-insert_new, hears-fill) depth 20

hears-room_refused : (n : ℕ) → Hears (room_refused n)
unfolding room_refused
hears-room_refused n = search hearing depth 20

hears-or_room : (n s : ℕ) (o : Option FreeRegion) → Hears (or_room n s o)
unfolding or_room
hears-or_room n s none = search (hearing, hears-room_refused, hears-make_room) depth 20
hears-or_room n s (some r) = search hearing

hears-hand_over : (n s : ℕ) (r : FreeRegion) → Hears (hand_over n s r)
unfolding hand_over
hears-hand_over n s r = search hearing depth 20

pub hears-malloc : (n s : ℕ) → Hears (malloc_steps n s)
unfolding malloc_steps
hears-malloc n s = search (hearing, hears-cleanup, hears-fit, hears-or_room, hears-hand_over) depth 20

pub hears-free : (b : LiveBuffer) → Hears (free_steps b)
unfolding free_steps
hears-free b = search (hearing, hears-insert_free) depth 20

pub hears-close : Hears close_steps
unfolding close_steps
hears-close = search hearing depth 20

pub hears-open : (initial stream : ℕ) → Hears (open_steps initial stream)
unfolding open_steps
hears-open initial stream = search (hearing, hears-reserve_root, hears-make_room) depth 20
