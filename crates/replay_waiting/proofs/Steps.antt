-- What each way to go on comes to: what is printed, and what is then to be printed, is what was to be printed.
use mathlib.Core.Path.{◌≡◌, refl, sym, ap, ◌∙◌, subst}
use mathlib.Core.Bool.{true, false}
use mathlib.Core.List.{List, [], ◌++◌, append-nil}
use Prim.Native.Nat.{ℕ, ◌+◌, ◌≤◌, ◌<◌}
use native.Mathlib.Omega.{arith}
use lib.ListN.{length, take, drop}
use Rattle.std.specs.Prelude.{Some, None}
use Rattle.tables.specs.declared.Pool.{Pool}
use Rattle.trace.specs.Chunks.{lines_from}
use Rattle.trace.specs.Form.{bad_line}
use Rattle.trace.proofs.Put.{put_front, put-length}
use Rattle.replay_answers.specs.Promises.{KEPT, Keeps}
use Rattle.replay_rules.specs.Replay.{replay_from, replay_lines}
use Rattle.replay_waiting.specs.Places.{Stands, waiting_of, todo}
use Rattle.replay_waiting.specs.Promises.{reading, Stops, Goes, Advances}
use Rattle.replay_waiting.specs.declared.Pending.{Pending}
use Rattle.replay_waiting.specs.declared.Place.{Place}
use Rattle.replay_waiting.specs.declared.Advanced.{Advanced}

pub keeps-none : {cells xs : List ℕ} {count : ℕ} → Keeps cells count xs → Keeps cells 0 []
keeps-none k = record { room = k.room; few = omega arith; front = refl }

module _ (show : Pool → List ℕ) (p : Pool) (s : Place) (xs l : List ℕ) (over : s.over ≡ false) where
  pub todo-first : s.pending ≡ None → todo show p s xs l ≡ replay_lines show p (lines_from s.partial l)
  unfolding todo
  todo-first e = rw (over, e)

  pub todo-waiting : {w : Pending} → s.pending ≡ Some w → todo show p s xs l ≡ replay_from show p (waiting_of w xs) s.line (lines_from s.partial l)
  unfolding todo
  todo-waiting e = rw (over, e)

module _ (s : Place) (chunk : List ℕ) (at : ℕ) (cells out : List ℕ) where
  -- a run that is over
  pub still-over : s.over ≡ true → at ≤ length chunk → Stands s → Advances s chunk at cells cells out (reading (length chunk) s.count s)
  unfolding todo
  still-over e h stands =
      record {
        within = omega arith;
        moved = λ m. m;
        counted = omega arith;
        lines = stands.line;
        few = stands.few;
        next = refl;
        filled = omega arith;
        fed = λ f m. rw e;
        goes = λ xs k. record { answers = xs; keeps = k; same = λ show p more. simp e };
      }

  -- the run ends at a malformed line
  pub stop_goes : {at' n count : ℕ} {before xs answers : List ℕ} {a : Advanced} → Stops at' n count before out a → Keeps cells count answers
      → ((show : Pool → List ℕ) (p : Pool) (more : List ℕ) → todo show p s xs (drop at chunk ++ more) ≡ bad_line n) → Goes s chunk at xs cells out a
  unfolding todo
  stop_goes {at'} {n} {count} {before} {xs} {answers} {a} w k e =
      subst (λ (x : Advanced). Goes s chunk at xs cells out x) (sym w.is)
      (record {
        answers = answers;
        keeps = k;
        same = λ show p more. append-nil (take a.filled out) ∙ put_front w.puts ∙ sym (e show p more);
      })

  pub stop-advances : {at' n count : ℕ} {cells₀ before : List ℕ} {a : Advanced} → Stops at' n count before out a → at' ≤ length chunk → (at < length chunk → at < at')
      → n + at ≤ s.line + at' → 1 ≤ n → count ≤ KEPT
      → ((xs : List ℕ) → Keeps cells₀ s.count xs → Goes s chunk at xs cells out a)
      → Advances s chunk at cells₀ cells out a
  stop-advances {at'} {n} {count} {cells₀} {before} {a} w h m c l f g =
      let e : a.at ≡ at' = ap (λ (x : Advanced). x.at) w.is in
      let i : a.place.line ≡ n = ap (λ (x : Advanced). x.place.line) w.is in
      let j : a.count ≡ count = ap (λ (x : Advanced). x.count) w.is in
      let d : a.place.count ≡ count = ap (λ (x : Advanced). x.place.count) w.is in
      let o : a.place.over ≡ true = ap (λ (x : Advanced). x.place.over) w.is in
      let u : a.due ≡ None = ap (λ (x : Advanced). x.due) w.is in
      record {
        within = omega arith;
        moved = λ q. omega (arith, m q);
        counted = omega arith;
        lines = omega arith;
        few = omega arith;
        next = rw u (d ∙ sym j);
        filled = omega (arith, put-length w.puts, w.puts.fits, w.puts.next);
        fed = λ q m. rw o;
        goes = g;
      }
