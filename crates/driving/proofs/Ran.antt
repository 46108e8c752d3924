-- The laws of `Ran`: one for each primitive step, and the two of `◌>>=◌`.
use mathlib.Core.Path.{◌≡◌, refl, ap, sym, ◌∙◌}
use mathlib.Core.Bool.{Bool, true, false, cond}
use mathlib.Core.List.{List, [], ◌∷◌, ◌++◌}
use Prim.Native.Nat.{ℕ, ◌+◌}
use native.Mathlib.Omega.{arith}
use lib.ListN.{length, length-append}
use Rattle.tables.specs.Values.{Tables}
use Rattle.words.specs.Log.{written}
use Rattle.words.proofs.Log.{written-append, written_none}
use Rattle.tables.specs.Steps.{Ending, on, ends, went, Step, ◌>>=◌, give, end, tables, change}
use Rattle.words.specs.Answers.{lent}
use Rattle.tables.specs.Driver.{heard, driver}
use Rattle.driving.specs.Ran.{Point, point, Ran}
use Rattle.words.specs.declared.Record.{Record}
use Rattle.words.specs.declared.Answer.{Answer}
use Rattle.tables.specs.declared.Outcome.{Outcome}

module _ {xs : List ℕ} {s : Point} where
  -- a step that makes no driver call
  still : {A : Type 0} {e : Ending A} {t : Tables} (m : Step A) → m xs s.made s.tables ≡ went e t [] → Ran m xs s e (point s.made t s.log)
  still m h = record { records = []; goes = h; log = sym (written_none s.log s.made); made = omega arith }

  pub gave : {A : Type 0} {a : A} → Ran (give a) xs s (on a) s
  gave {a = a} = still (give a) refl

  pub ended : {A : Type 0} {o : Outcome} → Ran (end {A = A} o) xs s (ends o) s
  ended {A = A} {o = o} = still (end {A = A} o) refl

  pub looked : Ran tables xs s (on s.tables) s
  looked = still tables refl

  pub changed : (f : Tables → Tables) → Ran (change f) xs s (on tt) (point s.made (f s.tables) s.log)
  changed f = still (change f) refl

  -- one of two, by a test
  pub taken : {A : Type 0} {b : Bool} {x : Step A} (y : Step A) {e : Ending A} {u : Point} → b ≡ true → Ran x xs s e u → Ran (cond b x y) xs s e u
  taken y h r = rw h r

  pub passed : {A : Type 0} {b : Bool} (x : Step A) {y : Step A} {e : Ending A} {u : Point} → b ≡ false → Ran y xs s e u → Ran (cond b x y) xs s e u
  passed x h r = rw h r

  -- one step went on, then the next
  pub next : {A B : Type 0} {m : Step A} (f : A → Step B) {a : A} {e : Ending B} {u v : Point} → Ran m xs s (on a) u → Ran (f a) xs u e v → Ran (m >>= f) xs s e v
  unfolding ◌>>=◌
  next f {u = u} r q =
      record {
        records = r.records ++ q.records;
        goes = rw (r.goes, ← r.made, q.goes);
        log =
            q.log ∙ ap (λ z. written z u.made q.records) r.log
            ∙ written-append s.log s.made r.records q.records u.made (omega (arith, r.made));
        made = simp length-append (omega (arith, r.made, q.made));
      }

  -- an end is the end
  pub stop : {A B : Type 0} {m : Step A} (f : A → Step B) {o : Outcome} {u : Point} → Ran m xs s (ends o) u → Ran (m >>= f) xs s (ends o) u
  unfolding ◌>>=◌
  stop f r = record { records = r.records; goes = rw r.goes; log = r.log; made = r.made }

  -- a driver call: the answer that was lent, and its record in the log
  pub drove : (row : Answer → Record) {x : Answer} {l : List ℕ} → x ≡ lent xs s.made → l ≡ written s.log s.made (row x ∷ []) →
      Ran (driver row) xs s (heard x) (point (s.made + 1) s.tables l)
  drove row {x} h e = record { records = row x ∷ []; goes = rw h; log = e; made = refl }

-- What `Ran` says, as equations with the rule: for the promise of an entry point.
module _ {A : Type 0} {m : Step A} {xs : List ℕ} {s : Point} {e : Ending A} {u : Point} (r : Ran m xs s e u) where
  pub ending-is : e ≡ (m xs s.made s.tables).ending
  ending-is = ap (λ w. w.ending) (sym r.goes)

  pub tables_are : u.tables ≡ (m xs s.made s.tables).tables
  tables_are = ap (λ w. w.tables) (sym r.goes)

  records_are : r.records ≡ (m xs s.made s.tables).records
  records_are = ap (λ w. w.records) (sym r.goes)

  pub log_is : u.log ≡ written s.log s.made (m xs s.made s.tables).records
  log_is = r.log ∙ ap (written s.log s.made) records_are

  pub made-is : u.made ≡ s.made + length (m xs s.made s.tables).records
  made-is = r.made ∙ ap (λ l. s.made + length l) records_are

-- a second answer that meets the promise is the first
pub ran-once : {A : Type 0} {m : Step A} {xs : List ℕ} {s : Point} {e f : Ending A} {u v : Point} → Ran m xs s e u → Ran m xs s f v → (e ≡ f) × (u ≡ v)
ran-once r q = (
  ending-is r ∙ sym (ending-is q),
  λ i. record {
    made = (made-is r ∙ sym (made-is q)) i;
    tables = (tables_are r ∙ sym (tables_are q)) i;
    log = (log_is r ∙ sym (log_is q)) i;
  },
)
