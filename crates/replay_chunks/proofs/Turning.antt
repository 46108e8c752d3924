-- What a turn comes to, by whether the waiting call is due and has a result; and the end.
use mathlib.Core.Path.{◌≡◌, refl, sym, ap, ◌∙◌}
use mathlib.Core.Bool.{Bool, true, false, cond}
use mathlib.Core.List.{List, [], ◌++◌, append-nil}
use Prim.Native.Nat.{ℕ, ◌*◌, ◌<◌}
use native.Mathlib.Omega.{arith}
use borrow.Author.Tests.{ne_eqb}
use lib.ListN.{length, take, drop}
use Rattle.std.specs.Prelude.{Some, None}
use Rattle.tables.specs.Bounds.{LOG}
use Rattle.tables.specs.declared.Pool as tables
use Rattle.trace.specs.Kinds.{OPEN, MALLOC, FREE}
use Rattle.trace.specs.Machine.{is_fresh}
use Rattle.trace.specs.declared.Line.{Line}
use Rattle.replay_answers.specs.Promises.{Keeps}
use Rattle.calls.specs.Promises.{Opens, Mallocs, Frees, Closes}
use Rattle.calls.specs.declared.Pool.{Pool}
use Rattle.calls.specs.declared.Called.{Called}
use Rattle.replay_rules.specs.Replay.{answered}
use Rattle.replay_waiting.specs.Places.{is_ended, todo}
use Rattle.replay_waiting.specs.Promises.{Advances}
use Rattle.replay_waiting.specs.declared.Pending.{Pending}
use Rattle.replay_waiting.specs.declared.Place.{Place}
use Rattle.replay_waiting.specs.declared.Advanced.{Advanced}
use Rattle.replay_chunks.specs.Promises.{Runs, RunsDue, Turned, Lasts}
use Rattle.replay_chunks.specs.declared.Ran.{Ran}

-- the call that a line names
module _ (p : Pool) (l : Line) {xs log : List ℕ} {r : Called} {log' : List ℕ} (size : length log ≡ 4 * LOG) where
  pub runs-open : l.kind ≡ OPEN → Opens l.first 0 l.second l.third 0 xs log r log' → Runs p l xs log r log'
  unfolding answered
  runs-open k h = record { replies = λ n. rw k (rw size at h) }

  pub runs-malloc : l.kind ≡ MALLOC → Mallocs p l.first l.second xs log r log' → Runs p l xs log r log'
  unfolding answered
  runs-malloc k h = record { replies = λ n. rw k (rw size at h) }

  pub runs-free : l.kind ≡ FREE → Frees p (record { 0 = l.first }) xs log r log' → Runs p l xs log r log'
  unfolding answered
  runs-free k h = record { replies = λ n. rw k (rw size at h) }

  pub runs_close : (l.kind ≡ OPEN → ⊥) → (l.kind ≡ MALLOC → ⊥) → (l.kind ≡ FREE → ⊥) → Closes p xs log r log' → Runs p l xs log r log'
  unfolding answered
  runs_close a b c h = record { replies = λ n. rw (ne_eqb l.kind OPEN a, ne_eqb l.kind MALLOC b, ne_eqb l.kind FREE c) (rw size at h) }

-- the run is over
abbrev pub over_of : Place → Place
over_of s = record { partial = s.partial; line = s.line; pending = s.pending; count = s.count; over = true }

module _ (p : Pool) (s : Place) {chunk : List ℕ} {at : ℕ} {cells cells' middle : List ℕ} {a : Advanced} (w : Advances s chunk at cells cells' middle a) (h : at < length chunk) where
  -- no call is due
  pub turn-reads : a.due ≡ None → Turned p s chunk at cells cells' middle (record { pool = p; place = a.place; at = a.at; filled = a.filled; shown = false })
  turn-reads e =
      let n : a.place.count ≡ a.count = w.next ∙ rw e in
      record {
        within = w.within;
        moved = w.moved h;
        counted = w.counted;
        lines = w.lines;
        few = omega (arith, w.few);
        filled = w.filled;
        fed = λ f. w.fed f h;
        turns = λ xs k.
            let g = w.goes xs k in
            record { answers = g.answers; keeps = rw n g.keeps; same = λ show more. rw e at (g.same show p.value more) };
      }

  module _ {due : Pending} (e : a.due ≡ Some due) {out : List ℕ} {r : Ran} (d : RunsDue p due.call due.number (take (2 * a.count) cells') out r) where
    none_lent : a.place.count ≡ 0
    none_lent = w.next ∙ rw e

    next-keeps : (xs : List ℕ) → Keeps cells s.count xs → Keeps cells' a.place.count []
    next-keeps xs k = rw none_lent (record { room = (w.goes xs k).keeps.room; few = omega arith; front = refl })

    -- what the call printed, and what is then to be printed
    due-same : (xs : List ℕ) → Keeps cells s.count xs → (show : tables.Pool → List ℕ) (more : List ℕ)
        → take r.filled out ++ cond r.shown (show r.pool.value ++ todo show r.pool.value a.place [] (drop a.at chunk ++ more)) []
        ≡ todo show p.value s xs (drop at chunk ++ more)
    due-same xs k show more =
        let g = w.goes xs k in
        d.same g.answers g.keeps.front show (λ q. todo show q a.place [] (drop a.at chunk ++ more))
        ∙ rw e at (g.same show p.value more)

    pub turn-runs : r.shown ≡ true → Turned p s chunk at cells cells' out (record { pool = r.pool; place = a.place; at = a.at; filled = r.filled; shown = true })
    turn-runs v =
        record {
          within = w.within;
          moved = w.moved h;
          counted = w.counted;
          lines = w.lines;
          few = omega (arith, none_lent);
          filled = d.filled;
          fed = λ f. w.fed f h;
          turns = λ xs k. record { answers = []; keeps = next-keeps xs k; same = λ show more. rw v at (due-same xs k show more) };
        }

    pub turn-short : r.shown ≡ false → Turned p s chunk at cells cells' out (record { pool = r.pool; place = over_of a.place; at = a.at; filled = r.filled; shown = false })
    unfolding todo
    turn-short v =
        record {
          within = w.within;
          moved = w.moved h;
          counted = w.counted;
          lines = w.lines;
          few = omega (arith, none_lent);
          filled = d.filled;
          fed = λ f. refl;
          turns = λ xs k. record { answers = []; keeps = next-keeps xs k; same = λ show more. rw v at (due-same xs k show more) };
        }

fresh-left : (s : Place) → s.over ≡ false → is_ended s ≡ true → is_fresh s.partial ≡ true
fresh-left s e f = rw e at f

-- the end of the input
module _ (p : Pool) (s : Place) {cells out : List ℕ} where
  pub last-over : s.over ≡ true → Lasts p s cells out (record { pool = p; filled = 0; shown = false })
  unfolding todo
  last-over e = record { filled = omega arith; same = λ xs k f show. rw e }

  pub last_none : s.pending ≡ None → Lasts p s cells out (record { pool = p; filled = 0; shown = false })
  unfolding todo
  last_none b = go s.over refl
    where
      go : (o : Bool) → s.over ≡ o → Lasts p s cells out (record { pool = p; filled = 0; shown = false })
      go true e = last-over e
      go false e = record { filled = omega arith; same = λ xs k f show. rw (e, b, fresh-left s e f) }

  pub last_runs : {due : Pending} → s.over ≡ false → s.pending ≡ Some due → {r : Ran} → RunsDue p due.call due.number (take (2 * s.count) cells) out r → Lasts p s cells out r
  unfolding todo
  last_runs {due} e b {r} d =
      record {
        filled = d.filled;
        same = λ xs k f show.
            ap (λ (x : List ℕ). take r.filled out ++ cond r.shown x []) (sym (append-nil (show r.pool.value)))
            ∙ d.same xs k.front show (λ q. [])
            ∙ rw (e, b, fresh-left s e f);
      }
