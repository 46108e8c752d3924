-- An opening, as far as its records go: one root is reserved, the initial pages are made as room is, then sync.
use mathlib.Core.Path.{◌≡◌, refl, ap, sym, subst}
use mathlib.Core.Logic.{inl}
use mathlib.Core.List.{[]}
use Prim.Native.Nat.{ℕ, ◌*◌, ◌<◌}
use native.Mathlib.Omega.{arith}
use borrow.Author.Tests.{eqb-false}
use lib.Dec.{eqb}
use Rattle.words.specs.declared.Word.TheVariants.{Sync}
use Rattle.tables.specs.Values.{Tables, address, no_tables}
use Rattle.tables.specs.Steps.{◌>>◌}
use Rattle.tables.specs.Driver.{must, sync}
use Rattle.tables.specs.MakeRoom.{make_room}
use Rattle.tables.specs.Open.{open_steps}
use Rattle.tables.specs.declared.Outcome.{Outcome}
use Rattle.tables.specs.declared.Outcome.TheVariants.{Opened}
use Rattle.keeping.specs.Sound.{none}
use Rattle.keeping.specs.Open.{Configured}
use Rattle.keeping.proofs.TakeRange.{Reserved}
use Rattle.keeping.proofs.Open.{OpenedKept, empty-kept, takes-from, opens_kept}
use Rattle.judge_rules.specs.Rules.{Judge}
use Rattle.judge_rules.specs.Verdict.{on, recorded}
use Rattle.judge_rules.specs.declared.Run.{Run}
use Rattle.agreement.specs.Agrees.{Serving, Agreeing, Ended, Ends}
use Rattle.agreement.specs.Judges.{Judges}
use Rattle.agreement.proofs.Judges.{judges-from, judges_to, judges-ends, judges-named, judges-and, judges_then, judges-give, judges-known, judges-cond}
use Rattle.agreement.proofs.Words.{Accepts, judges-must}
use Rattle.agreement.proofs.Meets.{agrees-inside, agrees-seen}
use Rattle.agreement.proofs.TakeRange.{judges-reserve_root}
use Rattle.agreement.proofs.MakeRoom.{judges-make_room}

module _ {run : Run} (serving : Serving run) (page va initial stream : ℕ) (c : Configured page va initial) where
  abbrev u : Tables
  u = no_tables page va

  -- sync has nothing to meet
  accepts-sync : (t : Tables) (s : Judge) → Agreeing run none [] t s → Accepts Sync stream 0 s (Agreeing run none [] t)
  unfolding recorded
  accepts-sync t s g = record { inside = agrees-inside serving g; state = s; accepts = ap on (agrees-seen serving g); holds = g }

  syncs : {E : Outcome → Tables → Judge → Type 0} → Judges (Agreeing run none []) (must (sync stream)) (λ _. Agreeing run none []) E
  unfolding sync
  syncs = judges-must Sync stream 0 (λ _. refl) (λ t s g few. accepts-sync t s g)

  starts : (b : ℕ) (v : Tables) → Reserved none 0 u b v → 0 < initial →
      Judges (λ t s. (t ≡ v) × Agreeing run none [] v s) (make_room (initial * page) stream >> must (sync stream)) (λ _. Agreeing run none []) (Ended run)
  starts b v w some =
      judges_then (λ _. Agreeing run none [])
      (judges-ends (λ o t s e. e.1)
      (judges_to (λ r t s q. q.1)
      (judges-from (λ t s q. (rw (q.0, w.tables) (takes-from page va initial c some b v w), rw q.0 q.1)) (judges-make_room serving none (initial * page) stream page 0)))) (λ _. syncs)

  opens : Judges (λ t s. (t ≡ u) × Agreeing run none [] u s) (open_steps initial stream) (λ _. Agreeing run none []) (Ended run)
  unfolding open_steps
  opens =
      judges_then (λ b t s. Reserved none 0 u b t × Agreeing run none [] t s)
      (judges-ends (λ o t s e. e.1) (judges-reserve_root serving none 0 u (empty-kept page va initial c) (omega arith) (inl refl) (omega arith))) (λ b.
      judges-named (λ v z q.
      judges-known v (λ x e. rw e
      (judges_then (λ _. Agreeing run none [])
      (judges-cond (eqb initial 0)
      (λ e. judges-from (λ t s k. rw (k.0, k.1) q.1) (judges-give tt))
      (λ e. judges-from (λ t s k. (k.0, rw k.1 q.1)) (subst (λ p. Judges (λ t s. (t ≡ v) × Agreeing run none [] v s) (make_room (initial * p) stream >> must (sync stream)) (λ _. Agreeing run none []) (Ended run)) (sym (ap (λ (t : Tables). t.fields.page) q.0.tables)) (starts b v q.0 (omega (arith, eqb-false initial 0 e))))))
      (λ _. judges-give (Opened (address b) v.fields.page))))))

  pub judges-open_steps : Judges (λ t s. (t ≡ u) × Agreeing run none [] u s) (open_steps initial stream) (λ o t s. OpenedKept t × Agreeing run none [] t s) (Ends run none)
  judges-open_steps = judges-and (opens_kept page va initial stream c) opens
