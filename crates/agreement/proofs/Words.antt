-- One record read inside a call: R0 is met, so a record of code 0 meets the rule of its word and a failed one has no effect. From that, what is to be
-- shown of each way to make a driver call.
use mathlib.Core.Path.{◌≡◌, refl, sym, ◌∙◌}
use mathlib.Core.Logic.{◌⊎◌, inl, inr, ⊎_elim}
use mathlib.Core.Bool.{Bool, true, false, cond, false≢true}
use mathlib.Core.List.{List, [], ◌∷◌, map}
use Prim.Native.Nat.{ℕ, ◌+◌, ◌*◌, ◌≤◌}
use native.Mathlib.Omega.{arith}
use borrow.Author.Tests.{leb-true, eqb-true, eqb-false, ne_eqb}
use lib.Dec.{leb, ltb, eqb}
use lib.ListN.{length, get_or}
use Rattle.lists.proofs.Tests.{both}
use Rattle.lists.proofs.Every.{and-true}
use Rattle.words.specs.Words.{number, line}
use Rattle.words.specs.Answers.{of_pair, lent, code_of, failed, complete}
use Rattle.words.specs.declared.Record.{Record}
use Rattle.words.specs.declared.Answer.{Answer}
use Rattle.words.specs.declared.Answer.TheVariants.{Done, Failed, Missing}
use Rattle.words.specs.declared.Word.{Word}
use Rattle.words.specs.declared.Word.TheVariants.{
  Reserve,
  Create,
  Map,
  Access,
  Unmap,
  Release,
  Record as RecordEvent,
  Asked,
  Wait,
  Sync,
  Giveback,
}
use Rattle.tables.specs.Values.{Tables}
use Rattle.tables.specs.Steps.{Ending, on, ends, Step, went, after, ◌>>=◌}
use Rattle.tables.specs.Driver.{heard, driver, must, try, is_complete, ask}
use Rattle.tables.specs.declared.Outcome.{Outcome}
use Rattle.tables.specs.declared.Outcome.TheVariants.{DriverFailed, AnswersRanOut}
use Rattle.trace.specs.Kinds.{of_record}
use Rattle.trace.specs.declared.Line.{Line}
use Rattle.trace.specs.declared.Reading.TheVariants.{Good}
use Rattle.judge_rules.specs.Sizes.{most_mapped}
use Rattle.judge_rules.specs.Said.{said}
use Rattle.judge_rules.specs.Rules.{Judge, R0, R9_asked}
use Rattle.judge_rules.specs.Verdict as Verdict
use Rattle.judge_rules.specs.declared.Said.TheVariants.{Record as Records}
use Rattle.agreement.specs.Premises.{may_answer, reliable, credible, mapped_by, mapped_after}
use Rattle.agreement.specs.Agrees.{Inside}
use Rattle.agreement.specs.Judges.{Reach, Breaks, Fair, addresses, excused, Reached, Judges}
use Rattle.agreement.proofs.Reading.{breaks-first, reach_to, fair-first}
use Rattle.agreement.proofs.Judges.{judges-from, judges_to, judges_then, all_read, judges-give, judges-end_if}

said-word : (w : Word) → said (number w) ≡ Records w
unfolding said
said-word Reserve = refl
said-word Create = refl
said-word Map = refl
said-word Access = refl
said-word Unmap = refl
said-word Release = refl
said-word RecordEvent = refl
said-word Asked = refl
said-word Wait = refl
said-word Sync = refl
said-word Giveback = refl

-- the state that the rule of a record sees: the first record of a close has ended all live buffers
abbrev pub seen : Judge → Judge
seen s = Verdict.ended s.run.asked.call s

step-word : (w : Word) (a b c : ℕ) (s : Judge) → Inside s.run →
    Verdict.step s (Good (of_record (line w a b c))) ≡ cond (eqb c 0) (Verdict.recorded w (seen s) a b) (Verdict.on (seen s))
unfolding Verdict.judged Verdict.taken Verdict.ruled R0
step-word w a b c s i = rw (said-word w, i.opened, i.waiting, i.over)

reliable-word : (w : Word) (a b c : ℕ) → reliable (of_record (line w a b c)) ≡ may_answer w c
unfolding reliable
reliable-word w a b c = rw (said-word w)

mapped-word : (w : Word) (a b : ℕ) (m : List ℕ) → mapped_after (of_record (line w a b 0)) m ≡ mapped_by w a b m
unfolding mapped_after
mapped-word w a b m = rw (said-word w)

credible-word : (w : Word) (a b c : ℕ) → credible (of_record (line w a b c)) ≡ true
unfolding credible
credible-word w a b c = rw (said-word w)

-- A record of code 0 meets its rule, and `R` holds of the state after it.
pub record Accepts (w : Word) (a b : ℕ) (s : Judge) (R : Judge → Type 0) : Type 0 where
  pub inside : Inside s.run
  pub state : Judge
  pub accepts : Verdict.recorded w (seen s) a b ≡ Verdict.on state
  pub holds : R state

pub reach-word : (w : Word) (a b : ℕ) (s : Judge) (R : Judge → Type 0) → Accepts w a b s R → Reach s (of_record (line w a b 0) ∷ []) R
reach-word w a b s R h =
    record {
      state = h.state;
      reads = rw (step-word w a b 0 s h.inside, h.accepts);
      credible = and-true _ true (credible-word w a b 0) refl;
      holds = h.holds;
    }

pub reach-failed : (w : Word) (a b c : ℕ) (s : Judge) (R : Judge → Type 0) → (c ≡ 0 → ⊥) → Inside s.run → R (seen s) →
    Reach s (of_record (line w a b c) ∷ []) R
reach-failed w a b c s R n i r =
    record {
      state = seen s;
      reads = rw (step-word w a b c s i, ne_eqb c 0 n);
      credible = and-true _ true (credible-word w a b c) refl;
      holds = r;
    }

-- a record of code 0 that is rejected, as one whose answer can't be true
pub breaks-word : (w : Word) (a b : ℕ) (s : Judge) → Inside s.run →
    (Verdict.recorded w (seen s) a b ≡ Verdict.broken 1) ⊎ (Verdict.recorded w (seen s) a b ≡ Verdict.broken 2) → Breaks s (of_record (line w a b 0) ∷ [])
breaks-word w a b s i (inl e) = inl (rw (step-word w a b 0 s i, e))
breaks-word w a b s i (inr e) = inr (rw (step-word w a b 0 s i, e))

-- fair lines say of one record which codes it may have, and that few pages are mapped after it
pub fair-code : (w : Word) (a b c : ℕ) (m : List ℕ) → Fair m (of_record (line w a b c) ∷ []) → may_answer w c ≡ true
fair-code w a b c m f = sym (reliable-word w a b c) ∙ (both (reliable (of_record (line w a b c))) true f.driver).0

pub fair-mapped : (w : Word) (a b : ℕ) (m : List ℕ) → Fair m (of_record (line w a b 0) ∷ []) → length (mapped_by w a b m) ≤ most_mapped
fair-mapped w a b m f =
    leb-true (length (mapped_by w a b m)) most_mapped
    (rw (mapped-word w a b m) at (both (leb (length (mapped_after (of_record (line w a b 0)) m)) most_mapped) true f.mapped).0)

-- an answer that was lent: where it says that the driver failed, the code is not 0
abbrev pub Heard : Answer → Type 0
Heard (Done v) = Unit {0}
Heard (Failed c) = c ≡ 0 → ⊥
Heard Missing = ⊥

lent-heard : (xs : List ℕ) (k : ℕ) (x : Answer) → lent xs k ≡ x → (x ≡ Missing → ⊥) → Heard x
unfolding lent of_pair
lent-heard xs k (Done v) e n = tt
lent-heard xs k Missing e n = n refl
lent-heard xs k (Failed c) e n = go (ltb (2 * k + 1) (length xs)) (get_or xs (2 * k) 0) (get_or xs (2 * k + 1) 0) e
  where
    go : (b : Bool) (code value : ℕ) → cond b (cond (eqb code 0) (Done value) (Failed code)) Missing ≡ Failed c → c ≡ 0 → ⊥
    go false code value q z = let y : ◌≡◌ {A = ℕ} 0 1 = cc in absurd (omega arith)
    go true code value q z = pair (eqb code 0) refl q
      where
        pair : (b : Bool) → eqb code 0 ≡ b → cond b (Done value) (Failed code) ≡ Failed c → ⊥
        pair true h q = let y : ◌≡◌ {A = ℕ} 0 1 = cc in absurd (omega arith)
        pair false h q = let y : code ≡ c = cc in eqb-false code 0 h (y ∙ z)

-- A driver call: what its record reaches, whatever is answered.
pub judges_drive : (row : Answer → Record) {P : Tables → Judge → Type 0} {Q : Answer → Tables → Judge → Type 0} {E : Outcome → Tables → Judge → Type 0} →
    ((x : Answer) (t : Tables) (s : Judge) → Heard x → P t s → Fair (addresses s.mapped) (of_record (row x) ∷ []) →
    Reach s (of_record (row x) ∷ []) (Q x t)) → Judges P (driver row) Q E
judges_drive row {P} {Q} {E} h = record { reads = λ xs k t s p fair. go (lent xs k) (lent-heard xs k (lent xs k) refl) t s p fair }
  where
    go : (x : Answer) → ((x ≡ Missing → ⊥) → Heard x) → (t : Tables) (s : Judge) → P t s → Fair (addresses s.mapped) (of_record (row x) ∷ []) →
        Reached Q E s (of_record (row x) ∷ []) t (heard x)
    go (Done v) g t s p fair = h (Done v) t s tt p fair
    go (Failed c) g t s p fair = h (Failed c) t s (g (λ e. let y : ◌≡◌ {A = ℕ} 0 1 = cc in absurd (omega arith))) p fair
    go Missing g t s p fair = all_read AnswersRanOut refl (λ x. absurd (false≢true (sym x)))

-- an end in 15 or 17, after which the judge need reach no state
abbrev pub Excuses : {B : Type 0} → Ending B → Type 0
Excuses (on b) = ⊥
Excuses (ends o) = excused o ≡ true

-- A driver call whose answer is tested only once its record is read: the record reaches a state to go on from, or the judge rejects it and whatever follows
-- it is excused.
pub judges_unless : {B : Type 0} (row : Answer → Record) {f : Answer → Step B} {P : Tables → Judge → Type 0} {R : B → Tables → Judge → Type 0}
    {E : Outcome → Tables → Judge → Type 0} (Q : Answer → Tables → Judge → Type 0) →
    ((x : Answer) (t : Tables) (s : Judge) → Heard x → P t s → Fair (addresses s.mapped) (of_record (row x) ∷ []) →
    Reach s (of_record (row x) ∷ []) (Q x t) ⊎ (Breaks s (of_record (row x) ∷ []) × ((xs : List ℕ) (k : ℕ) → Excuses (f x xs k t).ending))) →
    ((x : Answer) → Judges (Q x) (f x) R E) → Judges P (driver row >>= f) R E
unfolding ◌>>=◌
judges_unless {B} row {f} {P} {R} {E} Q h j = record { reads = λ xs k t s p. go xs k (lent xs k) (lent-heard xs k (lent xs k) refl) t s p }
  where
    -- the driver call, where its answer is known
    hears : Answer → Step Answer
    hears x = λ xs k t. went (on x) t (row x ∷ [])

    excuse : (s : Judge) (ls : List Line) (t : Tables) (e : Ending B) → Breaks s ls → Excuses e → Reached R E s ls t e
    excuse s ls t (on b) w z = absurd z
    excuse s ls t (ends o) w z = record { breaks = λ _. w; reaches = λ y. absurd (false≢true (sym y ∙ z)) }

    hear : (x : Answer) → Heard x → (xs : List ℕ) (k : ℕ) (t : Tables) (s : Judge) → P t s → Fair (addresses s.mapped) (map of_record ((hears x >>= f) xs k t).records) →
        Reached R E s (map of_record ((hears x >>= f) xs k t).records) ((hears x >>= f) xs k t).tables ((hears x >>= f) xs k t).ending
    hear x y xs k t s p fair =
        ⊎_elim
        (λ r. (judges_then {m = hears x} {P = λ u v. (u ≡ t) × (v ≡ s)} Q (record { reads = λ xs k u v e _. rw (e.0, e.1) r }) j).reads xs k t s (refl, refl) fair)
        (λ z.
        excuse s _ _ ((hears x >>= f) xs k t).ending (breaks-first s (of_record (row x) ∷ []) (map of_record (f x xs (k + 1) t).records) z.0) (z.1 xs (k + 1)))
        (h x t s y p (fair-first (addresses s.mapped) (of_record (row x) ∷ []) _ fair))

    go : (xs : List ℕ) (k : ℕ) (x : Answer) → ((x ≡ Missing → ⊥) → Heard x) → (t : Tables) (s : Judge) → P t s →
        Fair (addresses s.mapped) (map of_record (after f xs k t (row x ∷ []) (heard x)).records) →
        Reached R E s (map of_record (after f xs k t (row x ∷ []) (heard x)).records) (after f xs k t (row x ∷ []) (heard x)).tables
        (after f xs k t (row x ∷ []) (heard x)).ending
    go xs k (Done v) g t s p fair = hear (Done v) tt xs k t s p fair
    go xs k (Failed c) g t s p fair = hear (Failed c) (g (λ e. let y : ◌≡◌ {A = ℕ} 0 1 = cc in absurd (omega arith))) xs k t s p fair
    go xs k Missing g t s p fair = all_read AnswersRanOut refl (λ x. absurd (false≢true (sym x)))

-- The words whose call must not fail, or fails by premise never.
abbrev pub Strict : Word → Type 0
Strict w = (c : ℕ) → may_answer w c ≡ eqb c 0

module _ {P Q : Tables → Judge → Type 0} {E : Outcome → Tables → Judge → Type 0} (w : Word) (a b : ℕ) (strict : Strict w)
    (h : (t : Tables) (s : Judge) → P t s → length (mapped_by w a b (addresses s.mapped)) ≤ most_mapped → Accepts w a b s (Q t)) where
  tells : Judges P (driver (λ x. line w a b (code_of x))) (λ x t s. Q t s × (failed x ≡ false)) E
  tells = judges_drive _ go
    where
      go : (x : Answer) (t : Tables) (s : Judge) → Heard x → P t s → Fair (addresses s.mapped) (of_record (line w a b (code_of x)) ∷ []) →
          Reach s (of_record (line w a b (code_of x)) ∷ []) (λ z. Q t z × (failed x ≡ false))
      go (Done v) t s y p fair =
          reach_to (λ z q. (q, refl)) (reach-word w a b s (Q t) (h t s p (fair-mapped w a b (addresses s.mapped) fair)))
      go (Failed c) t s y p fair = absurd (y (eqb-true c 0 (sym (strict c) ∙ fair-code w a b c (addresses s.mapped) fair)))
      go Missing t s y p fair = absurd y

  pub judges-must : Judges P (must (driver (λ x. line w a b (code_of x)))) (λ _. Q) E
  judges-must =
      judges_then (λ x t s. Q t s × (failed x ≡ false)) tells
      (λ x. judges_to (λ _ t s q. q.0.0) (judges-end_if (failed x) (DriverFailed (code_of x)) (λ t s q e. absurd (false≢true (sym q.1 ∙ e)))))

  pub judges-try : Judges P (try (driver (λ x. line w a b (code_of x)))) (λ _. Q) E
  judges-try = judges_then (λ x t s. Q t s × (failed x ≡ false)) tells (λ x. judges-from (λ t s q. q.0) (judges-give tt))

-- asked: any code will do, and nothing changes
pub judges-is_complete : (id : ℕ) {P : Tables → Judge → Type 0} {E : Outcome → Tables → Judge → Type 0} →
    ((t : Tables) (s : Judge) → P t s → Inside s.run × ((seen s ≡ s) × (R9_asked s id ≡ true))) → Judges P (is_complete id) (λ _. P) E
unfolding ask Verdict.recorded Verdict.ruled
judges-is_complete id {P} {E} h = judges_then (λ _. P) (judges_drive _ go) (λ x. judges-give (complete x))
  where
    go : (x : Answer) (t : Tables) (s : Judge) → Heard x → P t s → Fair (addresses s.mapped) (of_record (line Asked id (cond (complete x) 1 0) (code_of x)) ∷ []) →
        Reach s (of_record (line Asked id (cond (complete x) 1 0) (code_of x)) ∷ []) (P t)
    go (Done v) t s y p fair =
        let q = h t s p in
        reach-word Asked id (cond (complete (Done v)) 1 0) s (P t) (record { inside = q.0; state = s; accepts = rw (q.1.0, q.1.1); holds = p })
    go (Failed c) t s y p fair =
        let q = h t s p in
        reach-failed Asked id (cond (complete (Failed c)) 1 0) c s (P t) y q.0 (rw q.1.0 p)
    go Missing t s y p fair = absurd y
