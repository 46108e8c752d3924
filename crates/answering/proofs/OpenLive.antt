-- Opening leaves no live buffer, whatever it answers: its rules put none in.
use mathlib.Core.Path.{◌≡◌, refl, ◌∙◌}
use mathlib.Core.Bool.{cond, ◌||◌}
use mathlib.Core.List.{List, []}
use Prim.Native.Nat.{ℕ, ◌*◌}
use lib.Dec.{ltb, eqb}
use lib.ListN.{length}
use Rattle.tables.specs.Bounds.{LOG}
use Rattle.tables.specs.Values.{Tables, opened, closed, stopped, pool_of, no_tables, closed_pool}
use Rattle.tables.specs.Steps.{Ending, on, ends, Went}
use Rattle.tables.specs.Outcomes.{is}
use Rattle.tables.specs.HandsBack.{Reply, outcome_of}
use Rattle.tables.specs.Open.{page_size, bad_configuration, open_steps, open_finished, open_pool}
use Rattle.tables.specs.declared.LiveBuffer.{LiveBuffer}
use Rattle.tables.specs.declared.Outcome.{Outcome}
use Rattle.keeping.specs.Holds.{After}
use Rattle.keeping.proofs.Holds.{drives-sync}
use Rattle.answering.specs.Live.{live}
use Rattle.answering.proofs.Stays.{Stays, stays_then, stays-give, stays_looked, stays-cond, stays-must}
use Rattle.answering.proofs.Rules.{reserve_root-stays, make_room-stays}
use Rattle.answering.proofs.Calls.{either_way}
use Rattle.answering.proofs.Live.{live-read}

abbrev NoneLive : Tables → Type 0
NoneLive t = t.live ≡ []

opens-none : (initial stream : ℕ) → Stays NoneLive (λ _. NoneLive) (open_steps initial stream)
unfolding open_steps
opens-none initial stream =
    let P : ℕ → List LiveBuffer → Type 0 = λ _ l. l ≡ [] in
    let F : Outcome → Tables → Type 0 = λ _. NoneLive in
    let k : (t : Tables) → NoneLive t → NoneLive t = λ t h. h in
    stays_then (reserve_root-stays P F k (λ _. k) (λ _ _. k) k 0) (λ base.
    stays_looked (λ t.
    stays_then
    (stays-cond (eqb initial 0) (stays-give tt)
    (stays_then (make_room-stays P F k (λ _. k) (λ _ _. k) k (λ _ _. k) (initial * t.fields.page) stream) (λ _.
    stays-must k (λ _. k) (drives-sync stream)))) (λ _.
    stays-give _)))

-- whichever way the steps went
either-ending : (t : Tables) (e : Ending Outcome) → After (λ _. NoneLive) (λ _. NoneLive) t e → NoneLive t
either-ending t (on o) h = h
either-ending t (ends o) h = h

none_read : (state : ℕ) (t : Tables) → NoneLive t → live (pool_of state t) ≡ []
none_read state t e = live-read state t (rw e tt) ∙ e

closed_none : live closed_pool ≡ []
closed_none = none_read closed (no_tables 0 0) refl

opened-none : (w : Went Outcome) → NoneLive w.tables → live (open_finished w).pool ≡ []
unfolding open_finished
opened-none w h =
    let o = outcome_of w.ending in
    either_way (λ q. live q ≡ []) (is 17 o || eqb (length w.tables.roots) 0) closed_pool (pool_of (cond (is 0 o) opened stopped) w.tables) closed_none
    (none_read (cond (is 0 o) opened stopped) w.tables h)

pub open-live : (granularity override va initial stream : ℕ) (xs : List ℕ) (log : ℕ) → live (open_pool granularity override va initial stream xs log).pool ≡ []
unfolding open_pool
open-live granularity override va initial stream xs log =
    let K : Reply → Type 0 = λ r. live r.pool ≡ [] in
    let t = no_tables (page_size granularity override) va in
    let w = open_steps initial stream xs 0 t in
    either_way K (ltb log LOG) _ _ closed_none
    (either_way K (bad_configuration granularity override va initial) _ _ closed_none
    (opened-none w (either-ending w.tables w.ending ((opens-none initial stream).leaves xs 0 t refl))))
