-- The turns of replay, and the end, with what they print put behind what is written.
use mathlib.Core.Path.{◌≡◌, refl, sym, ap, ◌∙◌}
use mathlib.Core.Bool.{Bool, true, false, cond}
use mathlib.Core.List.{List, [], ◌∷◌, ◌++◌, append-nil}
use Prim.Native.Nat.{ℕ, ◌+◌, ◌*◌, ◌≤◌}
use native.Mathlib.Omega.{arith}
use lib.ListN.{length, take, drop, drop_of_length-le}
use Rattle.tables.specs.Values.{closed_pool}
use Rattle.tables.specs.declared.Pool as tables
use Rattle.trace.specs.Put.{Put}
use Rattle.trace.proofs.Put.{put-none}
use Rattle.replay_answers.specs.Promises.{KEPT, Keeps}
use Rattle.calls.specs.declared.Pool.{Pool}
use Rattle.replay_waiting.specs.Places.{first_place, is_ended, todo}
use Rattle.replay_waiting.specs.declared.Place.{Place}
use Rattle.replay_chunks.specs.Promises.{Turned, Lasts}
use Rattle.replay_chunks.specs.declared.Ran.{Ran}
use Rattle.replay_chunks.specs.declared.Step.{Step}
use Rattle.replay_chunks.proofs.Runs.{Run, start, comes, turns, printed_by, so_far, run-todo, fed-todo}
use Rattle.replay_whole.specs.Promises.{Fits, Replays, Adds, Ends}
use Rattle.replay_whole.specs.declared.Replayed.{Replayed}
use Rattle.replay_whole.proofs.Fits.{fits_as, put-fits, fits_more, adds_as, adds-more, adds_then}

-- replay shows nothing of the pool
abbrev nothing : tables.Pool → List ℕ
nothing p = []

no-show : (b : Bool) → ◌≡◌ {A = List ℕ} (cond b [] []) []
no-show true = refl
no-show false = refl

-- the end of an input whose last line has its line feed
pub ends_last : {p : Pool} {s : Place} {cells piece out out' : List ℕ} {at : ℕ} {r : Ran} {d : Replayed} → Lasts p s cells piece r → is_ended s ≡ true
    → Adds (take r.filled piece) at out out' d → Ends p s cells at out out' d
ends_last {piece = piece} {r = r} l e a =
    record {
      ends = λ xs k. adds_as a (sym (append-nil (take r.filled piece)) ∙ ap (λ (x : List ℕ). take r.filled piece ++ x) (sym (no-show r.shown)) ∙ l.same xs k e nothing);
    }

-- The end of one whose last line lacks it: what the turn over a line feed prints, and then the end.
module _ {p : Pool} {s : Place} {cells cells' piece out m : List ℕ} {at : ℕ} {t : Step} {d : Replayed} (w : Turned p s (10 ∷ []) 0 cells cells' piece t) (e : is_ended s ≡ false)
    (a : Adds (take t.filled piece) at out m d) where
  fed : (xs : List ℕ) (k : Keeps cells s.count xs) → take t.filled piece ++ todo nothing t.pool.value t.place (w.turns xs k).answers [] ≡ todo nothing p.value s xs []
  fed xs k = let n = no-show t.shown in rw (n, append-nil) at (fed-todo nothing w e xs k)

  pub ends_cut : d.whole ≡ false → Ends p s cells at out m d
  ends_cut n = record { ends = λ xs k. adds_as (adds-more a n _) (fed xs k) }

  pub ends-fed : d.whole ≡ true → {out' : List ℕ} {r : Replayed} → Ends t.pool t.place cells' d.written m out' r → Ends p s cells at out out' r
  ends-fed n f = record { ends = λ xs k. adds_as (adds_then a n (f.ends _ (w.turns xs k).keeps)) (fed xs k) }

-- Where the loop stands: a run over the input, whose text is put whole into the buffer, which was `before`. Each byte that is read counts at most one line.
pub record Goes (input before cells out : List ℕ) (p : Pool) (s : Place) (at written : ℕ) : Type 0 where
  pub printed : List ℕ
  pub run : Run nothing input printed (drop at input) p s cells
  pub puts : Put before out 0 written printed
  pub within : at ≤ length input
  pub lines : 1 ≤ s.line
  pub counted : s.line ≤ at + 1

pub goes-start : (input before cells : List ℕ) {p : Pool} {s : Place} → length cells ≡ 2 * KEPT → p.value ≡ closed_pool → s ≡ first_place → Goes input before cells before p s 0 0
goes-start input before cells {p} {s} e f g =
    let q : p ≡ record { value = closed_pool } = ap (λ (v : tables.Pool). record { value = v }) f in
    rw (q, g)
    (record {
      printed = [];
      run = comes input (start cells e);
      puts = put-none before 0 0 (omega arith) refl;
      within = omega arith;
      lines = omega arith;
      counted = omega arith;
    })

module _ {input before cells out : List ℕ} {p : Pool} {s : Place} {at written : ℕ} (g : Goes input before cells out p s at written) where
  pub goes-keeps : Keeps cells s.count (so_far nothing g.run).answers
  goes-keeps = (so_far nothing g.run).keeps

  module _ {cells' piece m : List ℕ} {t : Step} {d : Replayed} (w : Turned p s input at cells cells' piece t) (a : Adds (take t.filled piece) written out m d) where
    printed-next : Fits (g.printed ++ printed_by nothing t piece) before m d
    printed-next = let e = no-show t.shown in rw (e, append-nil) (a.adds g.printed before g.puts)

    run-next : Run nothing input (g.printed ++ printed_by nothing t piece) (drop t.at input) t.pool t.place cells'
    run-next = turns input at g.run w

    pub goes_cut : d.whole ≡ false → Replays input before m d
    goes_cut e = fits_as (fits_more printed-next e _) (run-todo nothing run-next)

    pub goes_on : d.whole ≡ true → Goes input before cells' m t.pool t.place t.at d.written
    goes_on e =
        record {
          printed = g.printed ++ printed_by nothing t piece;
          run = run-next;
          puts = put-fits printed-next e;
          within = w.within;
          lines = w.lines;
          counted = omega (arith, w.counted, g.counted);
        }

  pub goes-ends : length input ≤ at → {out' : List ℕ} {r : Replayed} → Ends p s cells written out out' r → Replays input before out' r
  goes-ends h f =
      let f' = so_far nothing g.run in
      let left : g.printed ++ todo nothing p.value s f'.answers [] ≡ g.printed ++ todo nothing p.value s f'.answers (drop at input) =
      ap (λ (x : List ℕ). g.printed ++ todo nothing p.value s f'.answers x) (sym (drop_of_length-le input h)) in
      fits_as ((f.ends f'.answers f'.keeps).adds g.printed before g.puts) (left ∙ run-todo nothing g.run)
