-- What is written where tables are asked for: after a turn and at the end what `turn` and `last` put into the buffer, and after a result what `put_tables` then puts there.
-- In all it is what replay prints for the whole input with the pool's tables after each result, however the input is cut.
use mathlib.Core.Path.{◌≡◌, refl, ap}
use mathlib.Core.Bool.{Bool, true, false, cond}
use mathlib.Core.List.{List, [], ◌∷◌, ◌++◌}
use Prim.Native.Nat.{ℕ}
use lib.ListN.{take, drop}
use Rattle.tables.specs.declared.Pool as tables
use Rattle.trace.proofs.Put.{put_front}
use Rattle.replay_table_text.specs.Bounds.{longest_tables}
use Rattle.replay_table_text.specs.Tables.{tables_text}
use Rattle.replay_table_text.specs.Puts.{Puts}
use Rattle.calls.specs.declared.Pool.{Pool}
use Rattle.replay_rules.specs.Replay.{replayed_showing}
use Rattle.replay_waiting.specs.Places.{is_ended}
use Rattle.replay_waiting.specs.declared.Place.{Place}
use Rattle.replay_chunks.specs.Promises.{Turned, Lasts}
use Rattle.replay_chunks.specs.declared.Ran.{Ran}
use Rattle.replay_chunks.specs.declared.Step.{Step}
use Rattle.replay_chunks.proofs.Runs.{Run, turns, run_prints, run-fed_prints}

-- after a result the tables of the pool are put into the buffer; `n` is the place after them
pub record Shows (shown : Bool) (p : tables.Pool) (out out' : List ℕ) (n : ℕ) : Type 0 where
  pub tables : shown ≡ true → Puts longest_tables out out' 0 n (tables_text p)

-- the front of the buffer as far as it was filled, and then the front that the tables fill
abbrev pub written : Bool → ℕ → List ℕ → ℕ → List ℕ → List ℕ
written shown filled out n out' = take filled out ++ cond shown (take n out') []

-- what stood in the buffer does not matter
written_is : (shown : Bool) {p : tables.Pool} {out out' : List ℕ} {n : ℕ} (filled : ℕ) → Shows shown p out out' n
    → written shown filled out n out' ≡ take filled out ++ cond shown (tables_text p) []
written_is true {out = out} filled w = ap (λ (x : List ℕ). take filled out ++ x) (put_front (w.tables refl).puts)
written_is false filled w = refl

-- a turn
pub turns-shown : {input out : List ℕ} {p : Pool} {s : Place} {cells cells' buffer buffer' : List ℕ} {n : ℕ} {r : Step} (chunk : List ℕ) (at : ℕ)
    → Run tables_text input out (drop at chunk) p s cells → Turned p s chunk at cells cells' buffer r → Shows r.shown r.pool.value buffer buffer' n
    → Run tables_text input (out ++ written r.shown r.filled buffer n buffer') (drop r.at chunk) r.pool r.place cells'
turns-shown {r = r} chunk at run t w = rw (written_is r.shown r.filled w) (turns chunk at run t)

-- the end of an input whose last line has its line feed
pub shown_prints : {input out : List ℕ} {p : Pool} {s : Place} {cells buffer buffer' : List ℕ} {n : ℕ} {r : Ran} → Run tables_text input out [] p s cells → is_ended s ≡ true
    → Lasts p s cells buffer r → Shows r.shown r.pool.value buffer buffer' n
    → out ++ written r.shown r.filled buffer n buffer' ≡ replayed_showing tables_text input
shown_prints {r = r} run e l w = rw (written_is r.shown r.filled w) (run_prints tables_text run e l)

-- the end of an input whose last line lacks it: one is put behind it
pub shown-fed_prints : {input out : List ℕ} {p : Pool} {s : Place} {cells cells' buffer buffer₁ buffer₂ buffer₃ : List ℕ} {m n : ℕ} {t : Step} {r : Ran}
    → Run tables_text input out [] p s cells → is_ended s ≡ false
    → Turned p s (10 ∷ []) 0 cells cells' buffer t → Shows t.shown t.pool.value buffer buffer₁ m
    → Lasts t.pool t.place cells' buffer₂ r → Shows r.shown r.pool.value buffer₂ buffer₃ n
    → out ++ (written t.shown t.filled buffer m buffer₁ ++ written r.shown r.filled buffer₂ n buffer₃) ≡ replayed_showing tables_text input
shown-fed_prints {t = t} {r = r} run e a v b w = rw (written_is t.shown t.filled v, written_is r.shown r.filled w) (run-fed_prints tables_text run e a b)
