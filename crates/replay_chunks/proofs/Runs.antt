-- Turn after turn, chunk after chunk: what is printed in all is what replay prints for the whole input, however it is cut.
use mathlib.Core.Path.{◌≡◌, refl, sym, ap, ◌∙◌}
use mathlib.Core.Bool.{true, false, cond}
use mathlib.Core.List.{List, [], ◌∷◌, ◌++◌, append_assoc, append-nil}
use Prim.Native.Nat.{ℕ, ◌*◌}
use native.Mathlib.Omega.{arith}
use lib.ListN.{length, take, drop, drop_of_length-le}
use Rattle.lists.proofs.Tests.{neither}
use Rattle.tables.specs.Values.{closed_pool}
use Rattle.tables.specs.declared.Pool as tables
use Rattle.trace.specs.Machine.{is_fresh}
use Rattle.trace.proofs.Chunks.{lines_from-fresh}
use Rattle.replay_answers.specs.Promises.{KEPT, Keeps}
use Rattle.calls.specs.declared.Pool.{Pool}
use Rattle.replay_rules.specs.Replay.{replay_lines, replayed_showing}
use Rattle.replay_waiting.specs.Places.{first_place, is_ended, todo}
use Rattle.replay_waiting.specs.declared.Place.{Place}
use Rattle.replay_chunks.specs.Promises.{Turned, Lasts}
use Rattle.replay_chunks.specs.declared.Ran.{Ran}
use Rattle.replay_chunks.specs.declared.Step.{Step}

module _ (show : tables.Pool → List ℕ) where
  -- what a turn and the end print, with what is shown of the pool after a result
  abbrev pub printed_by : Step → List ℕ → List ℕ
  printed_by r out = take r.filled out ++ cond r.shown (show r.pool.value) []

  abbrev pub printed_last : Ran → List ℕ → List ℕ
  printed_last r out = take r.filled out ++ cond r.shown (show r.pool.value) []

  -- A run: `input` came so far, `out` is printed, and `left` is what is not yet read of the last chunk. A chunk comes where nothing is left of the one before it;
  -- a turn reads on in a chunk.
  pub data Run : List ℕ → List ℕ → List ℕ → Pool → Place → List ℕ → Type 0 where
    start : (cells : List ℕ) → length cells ≡ 2 * KEPT → Run [] [] [] (record { value = closed_pool }) first_place cells
    comes : {input out : List ℕ} {p : Pool} {s : Place} {cells : List ℕ} (chunk : List ℕ) → Run input out [] p s cells → Run (input ++ chunk) out chunk p s cells
    turns : {input out : List ℕ} {p : Pool} {s : Place} {cells cells' buffer : List ℕ} {r : Step} (chunk : List ℕ) (at : ℕ)
        → Run input out (drop at chunk) p s cells → Turned p s chunk at cells cells' buffer r
        → Run input (out ++ printed_by r buffer) (drop r.at chunk) r.pool r.place cells'

  -- what is printed, and what is still to be printed, is what replay prints for the whole
  pub record Sofar (input out left : List ℕ) (p : Pool) (s : Place) (cells : List ℕ) : Type 0 where
    pub answers : List ℕ
    pub keeps : Keeps cells s.count answers
    pub same : (more : List ℕ) → out ++ todo show p.value s answers (left ++ more) ≡ replayed_showing show (input ++ more)

  pub so_far : {input out left : List ℕ} {p : Pool} {s : Place} {cells : List ℕ} → Run input out left p s cells → Sofar input out left p s cells
  unfolding todo replayed_showing
  so_far (start cells e) =
      record {
        answers = [];
        keeps = record { room = e; few = omega arith; front = refl };
        same = λ more. ap (replay_lines show closed_pool) (lines_from-fresh more);
      }
  so_far (comes {input} {out} {p} {s} {cells} chunk r) =
      let f = so_far r in
      record { answers = f.answers; keeps = f.keeps; same = λ more. f.same (chunk ++ more) ∙ ap (replayed_showing show) (sym (append_assoc input chunk more)) }
  so_far (turns {input} {out} {p} {s} {cells} {cells'} {buffer} {r} chunk at run t) =
      let f = so_far run in
      let g = t.turns f.answers f.keeps in
      record {
        answers = g.answers;
        keeps = g.keeps;
        same = λ more.
            append_assoc out (printed_by r buffer) _
            ∙ ap (λ (x : List ℕ). out ++ x) (append_assoc (take r.filled buffer) (cond r.shown (show r.pool.value) []) _ ∙ g.same show more)
            ∙ f.same more;
      }

  -- the same where nothing follows
  pub run-todo : {input out left : List ℕ} {p : Pool} {s : Place} {cells : List ℕ} (r : Run input out left p s cells)
      → out ++ todo show p.value s (so_far r).answers left ≡ replayed_showing show input
  run-todo r = simp append-nil at ((so_far r).same [])

  -- the end of an input whose last line has its line feed
  pub run_prints : {input out : List ℕ} {p : Pool} {s : Place} {cells buffer : List ℕ} {r : Ran} → Run input out [] p s cells → is_ended s ≡ true
      → Lasts p s cells buffer r → out ++ printed_last r buffer ≡ replayed_showing show input
  run_prints {input} {out} run e w =
      let f = so_far run in
      ap (λ (x : List ℕ). out ++ x) (w.same f.answers f.keeps e show) ∙ run-todo run

  -- a line that lacks its line feed says what it says with it
  feed-todo : (p : tables.Pool) (s : Place) (xs : List ℕ) → is_ended s ≡ false → todo show p s xs (10 ∷ []) ≡ todo show p s xs []
  unfolding todo
  feed-todo p s xs e =
      let n = neither s.over (is_fresh s.partial) e in
      rw n.1

  -- the turn that reads the line feed which the last line lacks
  pub fed-todo : {p : Pool} {s : Place} {cells cells' buffer : List ℕ} {t : Step} (w : Turned p s (10 ∷ []) 0 cells cells' buffer t) → is_ended s ≡ false
      → (xs : List ℕ) (k : Keeps cells s.count xs)
      → printed_by t buffer ++ todo show t.pool.value t.place (w.turns xs k).answers [] ≡ todo show p.value s xs []
  fed-todo {p} {s} {cells} {cells'} {buffer} {t} w e xs k =
      let g = w.turns xs k in
      let feed : List ℕ = 10 ∷ [] in
      let all : drop t.at feed ++ [] ≡ [] = append-nil (drop t.at feed) ∙ drop_of_length-le feed {i = t.at} w.moved in
      append_assoc (take t.filled buffer) (cond t.shown (show t.pool.value) []) _ ∙ rw all at (g.same show []) ∙ feed-todo p.value s xs e

  -- the end of an input whose last line lacks it: one is put behind it
  pub run-fed_prints : {input out : List ℕ} {p : Pool} {s : Place} {cells cells' buffer buffer' : List ℕ} {t : Step} {r : Ran} → Run input out [] p s cells → is_ended s ≡ false
      → Turned p s (10 ∷ []) 0 cells cells' buffer t → Lasts t.pool t.place cells' buffer' r
      → out ++ (printed_by t buffer ++ printed_last r buffer') ≡ replayed_showing show input
  run-fed_prints {out = out} {buffer = buffer} {t = t} run e w l =
      let f = so_far run in
      let g = w.turns f.answers f.keeps in
      ap (λ (x : List ℕ). out ++ (printed_by t buffer ++ x)) (l.same g.answers g.keeps (w.fed (record { front = []; is = refl })) show)
      ∙ ap (λ (x : List ℕ). out ++ x) (fed-todo w e f.answers f.keeps)
      ∙ run-todo run
