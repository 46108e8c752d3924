-- The first line: it goes on in the next chunk, it is no open and ends the run, or it is an open, which waits.
use mathlib.Core.Path.{◌≡◌, refl, sym, ap, ◌∙◌}
use mathlib.Core.Bool.{true, false, true≢false}
use mathlib.Core.List.{List, [], ◌∷◌, ◌++◌}
use Prim.Native.Nat.{ℕ, ◌<◌}
use native.Mathlib.Omega.{arith}
use lib.ListN.{length, drop}
use Rattle.std.specs.Prelude.{None}
use Rattle.tables.specs.declared.Pool.{Pool}
use Rattle.trace.specs.Chunks.{lines_from, reached}
use Rattle.trace.specs.Form.{bad_line}
use Rattle.trace.specs.Machine.{fresh, line_at}
use Rattle.trace.specs.declared.Line.{Line}
use Rattle.trace.specs.declared.Reach.{Reach}
use Rattle.trace.specs.declared.Reading.{Reading}
use Rattle.trace.specs.declared.Reading.TheVariants.{Good}
use Rattle.trace.proofs.Scanned.{Scanned}
use Rattle.replay_answers.proofs.Sofar.{line-fed}
use Rattle.replay_lines.specs.Traced.{is_open}
use Rattle.replay_rules.specs.Replay.{replay_lines}
use Rattle.replay_waiting.specs.Places.{waiting_at, reading_at, Stands, todo}
use Rattle.replay_waiting.specs.Promises.{reading, Stops, Advances}
use Rattle.replay_waiting.specs.declared.Place.{Place}
use Rattle.replay_waiting.specs.declared.Advanced.{Advanced}
use Rattle.replay_waiting.proofs.Steps.{keeps-none, todo-first, stop_goes, stop-advances}

module _ (s : Place) {chunk : List ℕ} {at : ℕ} {r : Reach} (d : Scanned r chunk at s.partial) (stands : Stands s)
    (over : s.over ≡ false) (started : s.pending ≡ None) (cells out : List ℕ) where
  -- the line does not end in the chunk
  pub first-open : at < length chunk → r ≡ reached at s.partial (drop at chunk) → r.ended ≡ false → Advances s chunk at cells cells out (reading r.at s.count (reading_at s r.partial s.line s.count))
  first-open h is e =
      record {
        within = d.within;
        moved = d.moved;
        counted = omega (arith, d.from);
        lines = stands.line;
        few = stands.few;
        next = refl;
        filled = omega arith;
        fed = λ f m. absurd (true≢false (sym (line-fed f h at s.partial) ∙ ap (λ (x : Reach). x.ended) (sym is) ∙ e));
        goes = λ xs k.
            record {
              answers = xs;
              keeps = k;
              same = λ show p more.
                  todo-first show p (reading_at s r.partial s.line s.count) xs (drop r.at chunk ++ more) over started
                  ∙ ap (replay_lines show p) (sym (d.going e more))
                  ∙ sym (todo-first show p s xs (drop at chunk ++ more) over started);
            };
      }

  module _ (h : at < length chunk) (e : r.ended ≡ true) where
    -- what is to be printed, by what the line says
    by-line : {x : Reading} → x ≡ line_at r.partial → (show : Pool → List ℕ) (p : Pool) (xs more : List ℕ)
        → todo show p s xs (drop at chunk ++ more) ≡ replay_lines show p (x ∷ lines_from fresh (drop r.at chunk ++ more))
    by-line el show p xs more =
        todo-first show p s xs (drop at chunk ++ more) over started
        ∙ (ap (replay_lines show p) (d.ended e more ∙ ap (λ (y : Reading). y ∷ lines_from fresh (drop r.at chunk ++ more)) (sym el)))

    pub first_stops : {x : Reading} {before : List ℕ} {a : Advanced} → x ≡ line_at r.partial
        → ((show : Pool → List ℕ) (p : Pool) (ls : List Reading) → replay_lines show p (x ∷ ls) ≡ bad_line 1)
        → Stops r.at 1 s.count before out a → Advances s chunk at cells cells out a
    first_stops el bad w =
        stop-advances s chunk at cells out w d.within d.moved (omega (arith, d.moved h)) (omega arith) stands.few
        (λ xs k. stop_goes s chunk at cells out w k (λ show p more. by-line el show p xs more ∙ bad show p (lines_from fresh (drop r.at chunk ++ more))))

    pub first-waits : (l : Line) → Good l ≡ line_at r.partial → is_open l ≡ true → Advances s chunk at cells cells out (reading r.at 0 (waiting_at l 1))
    unfolding todo
    first-waits l el o =
        record {
          within = d.within;
          moved = d.moved;
          counted = omega (arith, d.moved h);
          lines = omega arith;
          few = omega arith;
          next = refl;
          filled = omega arith;
          fed = λ f m. refl;
          goes = λ xs k. record { answers = []; keeps = keeps-none k; same = λ show p more. sym (by-line el show p xs more ∙ rw o) };
        }
