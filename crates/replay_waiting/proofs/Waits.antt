-- A call waits: the chunk is read, the run ends at a malformed line or an open, or the call is due at the next call line.
use mathlib.Core.Path.{◌≡◌, refl, sym, ap, ◌∙◌}
use mathlib.Core.Bool.{Bool, true, false, cond, not}
use mathlib.Core.List.{List, ◌∷◌, ◌++◌}
use Prim.Native.Nat.{ℕ, ◌+◌, ◌≤◌}
use native.Mathlib.Omega.{arith}
use borrow.Author.Tests.{not-true}
use lib.ListN.{drop}
use Rattle.lists.proofs.Tests.{both}
use Rattle.std.specs.Prelude.{Some}
use Rattle.tables.specs.declared.Pool.{Pool}
use Rattle.trace.specs.Chunks.{lines_from}
use Rattle.trace.specs.Form.{bad_line}
use Rattle.trace.specs.Machine.{fresh}
use Rattle.trace.specs.declared.Line.{Line}
use Rattle.trace.specs.declared.Reading.{Reading}
use Rattle.trace.specs.declared.Reading.TheVariants.{Good}
use Rattle.replay_answers.specs.Lending.{is_driver, is_passed_over, is_call}
use Rattle.replay_answers.specs.Promises.{Keeps, ahead, feeds, Gathers}
use Rattle.replay_answers.specs.declared.Gathered.{Gathered}
use Rattle.replay_answers.specs.declared.Stop.{Stop}
use Rattle.replay_answers.specs.declared.Stop.TheVariants.{More, Call, Malformed}
use Rattle.replay_lines.specs.Traced.{is_open}
use Rattle.replay_rules.specs.Replay.{ran, waits, replay_from}
use Rattle.replay_rules.proofs.Passed.{replay_passed, replay-passed}
use Rattle.replay_waiting.specs.Places.{reading_at, waiting_of, todo}
use Rattle.replay_waiting.specs.Promises.{reading, due_at, Stops, Meets, Advances}
use Rattle.replay_waiting.specs.declared.Pending.{Pending}
use Rattle.replay_waiting.specs.declared.Place.{Place}
use Rattle.replay_waiting.specs.declared.Advanced.{Advanced}
use Rattle.replay_waiting.proofs.Steps.{todo-waiting, stop_goes, stop-advances}

-- a call line while a call waits
at_call : (l : Line) → is_call l ≡ true → (show : Pool → List ℕ) (p : Pool) (s : Pending) (xs : List ℕ) (n : ℕ) (ls : List Reading)
    → replay_from show p (waiting_of s xs) n (Good l ∷ ls) ≡ cond (is_open l) (bad_line n) (ran show p (waiting_of s xs) (λ q. replay_from show q (waits n l) (n + 1) ls))
unfolding is_call
at_call l e show p s xs n ls =
    let b = both (not (is_driver l)) (not (is_passed_over l)) e in
    simp (not-true (is_driver l) b.0, not-true (is_passed_over l) b.1)

pub counted : (s : Place) {chunk : List ℕ} {at : ℕ} {cells cells' : List ℕ} {g : Gathered} → Gathers s.partial s.line chunk at cells s.count cells' g
    → {c : Stop} → g.stop ≡ c → feeds c + (g.line + at) ≤ s.line + g.at
counted s w e = rw e at w.counted

module _ (s : Place) {chunk : List ℕ} {at : ℕ} {cells cells' : List ℕ} {g : Gathered} (w : Gathers s.partial s.line chunk at cells s.count cells' g)
    (one : 1 ≤ s.line) (over : s.over ≡ false) {call : Pending} (started : s.pending ≡ Some call) (out : List ℕ) where
  module _ {c : Stop} (e : g.stop ≡ c) where
    -- what is to be printed, by what stopped it
    by-stop : (xs : List ℕ) (k : Keeps cells s.count xs) (show : Pool → List ℕ) (p : Pool) (more : List ℕ)
        → todo show p s xs (drop at chunk ++ more)
        ≡ replay_from show p (waiting_of call (w.takes xs k).answers) g.line (ahead c g.partial (drop g.at chunk ++ more))
    by-stop xs k show p more =
        let t = w.takes xs k in
        todo-waiting show p s xs (drop at chunk ++ more) over started
        ∙ (replay-passed show p (waiting_of call xs) xs s.line (lines_from s.partial (drop at chunk ++ more))
        ∙ ap (replay_passed show p (waiting_of call xs)) (t.same more)
        ∙ sym (replay-passed show p (waiting_of call xs) t.answers g.line (ahead g.stop g.partial (drop g.at chunk ++ more)))
        ∙ ap (λ (x : Stop). replay_from show p (waiting_of call t.answers) g.line (ahead x g.partial (drop g.at chunk ++ more))) e)

  -- the chunk is read
  pub waits-on : g.stop ≡ More → Advances s chunk at cells cells' out (reading g.at g.count (reading_at s g.partial g.line g.count))
  waits-on e =
      record {
        within = w.within;
        moved = w.moved;
        counted = omega (arith, counted s w e);
        lines = omega (arith, w.lines);
        few = w.few;
        next = refl;
        filled = omega arith;
        fed = λ f m. rw (over, w.fed f m);
        goes = λ xs k.
            record {
              answers = (w.takes xs k).answers;
              keeps = (w.takes xs k).keeps;
              same = λ show p more.
                  todo-waiting show p (reading_at s g.partial g.line g.count) (w.takes xs k).answers (drop g.at chunk ++ more) over started
                  ∙ sym (by-stop e xs k show p more);
            };
      }

  pub waits-stops : {c : Stop} {before : List ℕ} {a : Advanced} → g.stop ≡ c → feeds c ≡ 1
      → ((show : Pool → List ℕ) (p : Pool) (xs l : List ℕ) → replay_from show p (waiting_of call xs) g.line (ahead c g.partial l) ≡ bad_line g.line)
      → Stops g.at g.line g.count before out a → Advances s chunk at cells cells' out a
  waits-stops e f bad v =
      stop-advances s chunk at cells' out v w.within w.moved (omega (arith, counted s w e)) (omega (arith, w.lines)) w.few
      (λ xs k.
      stop_goes s chunk at cells' out v (w.takes xs k).keeps
      (λ show p more. by-stop e xs k show p more ∙ bad show p (w.takes xs k).answers (drop g.at chunk ++ more)))

  pub waits-bad : {before : List ℕ} {a : Advanced} → g.stop ≡ Malformed → Stops g.at g.line g.count before out a → Advances s chunk at cells cells' out a
  waits-bad e v = waits-stops e refl (λ show p xs l. refl) v

  module _ (l : Line) (e : g.stop ≡ Call l) where
    is-call : is_call l ≡ true
    is-call = rw e at w.calls

    pub waits-open : {before : List ℕ} {a : Advanced} → is_open l ≡ true → Stops g.at g.line g.count before out a → Advances s chunk at cells cells' out a
    waits-open o v = waits-stops e refl (λ show p xs m. at_call l is-call show p call xs g.line (lines_from fresh m) ∙ rw o) v

    pub waits-due : is_open l ≡ false → Advances s chunk at cells cells' out (due_at call l g.at g.line g.count)
    unfolding todo
    waits-due o =
        record {
          within = w.within;
          moved = w.moved;
          counted = omega (arith, counted s w e);
          lines = omega arith;
          few = w.few;
          next = refl;
          filled = omega arith;
          fed = λ f m. refl;
          goes = λ xs k.
              record {
                answers = (w.takes xs k).answers;
                keeps = (w.takes xs k).keeps;
                same = λ show p more.
                    sym
                    (by-stop e xs k show p more
                    ∙ at_call l is-call show p call (w.takes xs k).answers g.line (lines_from fresh (drop g.at chunk ++ more))
                    ∙ rw o);
              };
        }

    pub waits-meets : {before : List ℕ} {a : Advanced} → Meets call l g.at g.line g.count before out a → Advances s chunk at cells cells' out a
    waits-meets {before} {a} m = go (is_open l) refl
      where
        go : (b : Bool) → is_open l ≡ b → Advances s chunk at cells cells' out a
        go true o = waits-open o (m.bad o)
        go false o = rw (m.due o) (waits-due o)
