-- docs/RULES.md 12.7: close. The small buffers go first, and then the pool's own close, whose answer it is.
use Rattle.std.specs.Prelude.{cond, not, List, [], ◌∷◌, ◌++◌, ℕ, ◌+◌, ◌*◌, ◌/◌, ltb, eqb, length, drop}
use Rattle.words.specs.Answers.{lent, code_of}
use Rattle.words.specs.declared.Record.{Record}
use Rattle.tables.specs.Values.{closed}
use Rattle.tables.specs.Outcomes.{is}
use Rattle.tables.specs.HandsBack.{short_log}
use Rattle.tables.specs.Calls.{closes, answer}
use Rattle.tables.specs.declared.Outcome.TheVariants.{PoolClosed, NotWellFormed, ShortLog, AnswersRanOut}
use Rattle.manager_rules.specs.Values.{small, closed_manager}
use Rattle.manager_rules.specs.WellFormed.{well_formed}
use Rattle.manager_rules.specs.HandsBack.{Reply, reply, refused}
use Rattle.manager_rules.specs.Free.{drop_record}
use Rattle.manager_rules.specs.declared.SmallBuffer.{SmallBuffer}
use Rattle.manager_rules.specs.declared.Manager.{Manager}

-- A record for each, by the answers from the one after `k` others on, up to the first that has none; a failure ends nothing.
abbrev pub drops : List ℕ → ℕ → List SmallBuffer → List Record
drops xs k [] = []
drops xs k (b ∷ l) = drop_record b (code_of (lent xs k)) ∷ cond (ltb (2 * k + 1) (length xs)) (drops xs (k + 1) l) []

unfoldable pub close_served : Manager → List ℕ → ℕ → Reply
close_served m xs log =
    let l = small m in
    let r = answer m.pool closes (drop (2 * length l) xs) log in
    cond (ltb (length xs / 2) (length l)) (reply m AnswersRanOut (drops xs 0 l))
    (record {
      manager = cond (is 17 r.outcome) m closed_manager;
      outcome = r.outcome;
      records = drops xs 0 l ++ r.records;
      taken = length l + r.taken;
    })

-- 1, 3, 4, as the pool's close has them. A stopped layer is closed too.
unfoldable pub close : Manager → List ℕ → ℕ → Reply
close m xs log =
    cond (eqb m.pool.state closed) (refused m PoolClosed)
    (cond (not (well_formed m)) (refused m NotWellFormed)
    (cond (short_log log) (refused m ShortLog)
    (close_served m xs log)))
