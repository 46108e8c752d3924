-- Laws of `drops`: how many records there are, and the loop that writes them.
use mathlib.Core.Path.{◌≡◌, refl, ap, sym, ◌∙◌}
use mathlib.Core.Logic.{⊎_elim}
use mathlib.Core.Bool.{Bool, true, false, cond}
use mathlib.Core.List.{List, [], ◌∷◌, ◌++◌, append_assoc, append-nil}
use Prim.Native.Nat.{ℕ, ◌+◌, ◌*◌, ◌/◌, ◌≤◌, ◌<◌}
use native.Mathlib.Omega.{arith}
use borrow.Author.Tests.{lt-ltb, le-ltb}
use lib.Dec.{eqb}
use lib.ListN.{length, length-append}
use Rattle.lists.proofs.Tests.{cases_lt}
use Rattle.words.specs.Log.{written}
use Rattle.words.specs.Answers.{of_pair, lent, code_of}
use Rattle.words.specs.declared.Answer.TheVariants.{Done, Failed, Missing}
use Rattle.words.proofs.Answers.{lent_pair, lent-missing}
use Rattle.words.specs.declared.Record.{Record}
use Rattle.words.proofs.Log.{written-append, written_none}
use Rattle.manager_rules.specs.Free.{drop_record}
use Rattle.manager_rules.specs.Close.{drops}
use Rattle.manager_rules.specs.declared.SmallBuffer.{SmallBuffer}

-- whether there is an answer
pair-answers : (c v : ℕ) → of_pair c v ≡ Missing → ⊥
unfolding of_pair
pair-answers c v = go (eqb c 0)
  where
    go : (b : Bool) → cond b (Done v) (Failed c) ≡ Missing → ⊥
    go true q = let z : ◌≡◌ {A = ℕ} 0 1 = cc in absurd (omega arith)
    go false q = let z : ◌≡◌ {A = ℕ} 0 1 = cc in absurd (omega arith)

pub answered-none : (xs : List ℕ) (k : ℕ) → lent xs k ≡ Missing → length xs ≤ 2 * k + 1
answered-none xs k e = ⊎_elim (λ h. absurd (pair-answers _ _ (sym (lent_pair xs k h) ∙ e))) (λ h. h) (cases_lt (2 * k + 1) (length xs))

pub answered-some : (xs : List ℕ) (k : ℕ) → (lent xs k ≡ Missing → ⊥) → 2 * k + 1 < length xs
answered-some xs k n = ⊎_elim (λ h. h) (λ h. absurd (n (lent-missing xs k h))) (cases_lt (2 * k + 1) (length xs))

module _ (xs : List ℕ) (k : ℕ) (b : SmallBuffer) (l : List SmallBuffer) where
  pub drops-more : 2 * k + 1 < length xs → drops xs k (b ∷ l) ≡ drop_record b (code_of (lent xs k)) ∷ drops xs (k + 1) l
  drops-more h = rw (lt-ltb (2 * k + 1) (length xs) h)

  pub drops-last : length xs ≤ 2 * k + 1 → drops xs k (b ∷ l) ≡ drop_record b (code_of (lent xs k)) ∷ []
  drops-last h = rw (le-ltb (2 * k + 1) (length xs) h)

-- Where there is an answer for each, there is a record for each.
length-drops-from : (xs : List ℕ) (k : ℕ) (l : List SmallBuffer) → k + length l ≤ length xs / 2 → length (drops xs k l) ≡ length l
length-drops-from xs k [] h = refl
length-drops-from xs k (b ∷ l) h =
    omega (arith, ap length (drops-more xs k b l (omega arith)), length-drops-from xs (k + 1) l (omega arith))

pub length-drops : (xs : List ℕ) (l : List SmallBuffer) → length l ≤ length xs / 2 → length (drops xs 0 l) ≡ length l
length-drops xs l h = length-drops-from xs 0 l (omega arith)

-- Otherwise there is one more than there are answers.
length-drops-short-from : (xs : List ℕ) (k : ℕ) (l : List SmallBuffer) → k ≤ length xs / 2 → length xs / 2 < k + length l → k + length (drops xs k l) ≡ length xs / 2 + 1
length-drops-short-from xs k [] h s = absurd (omega arith)
length-drops-short-from xs k (b ∷ l) h s =
    ⊎_elim (λ m. some m (length-drops-short-from xs (k + 1) l (omega arith) (omega arith))) none (cases_lt (2 * k + 1) (length xs))
  where
    some : 2 * k + 1 < length xs → k + 1 + length (drops xs (k + 1) l) ≡ length xs / 2 + 1 → k + length (drops xs k (b ∷ l)) ≡ length xs / 2 + 1
    some m e = omega (arith, ap length (drops-more xs k b l m))

    none : length xs ≤ 2 * k + 1 → k + length (drops xs k (b ∷ l)) ≡ length xs / 2 + 1
    none m = omega (arith, ap length (drops-last xs k b l m))

pub length-drops-short : (xs : List ℕ) (l : List SmallBuffer) → length xs / 2 < length l → length (drops xs 0 l) ≡ length xs / 2 + 1
length-drops-short xs l h = omega (arith, length-drops-short-from xs 0 l (omega arith) (omega arith))

-- The log with the records of the first `i`; `left` is what is still to be written.
pub record Dropping (xs : List ℕ) (all : List SmallBuffer) (l₀ : List ℕ) (i : ℕ) (left : List SmallBuffer) (l : List ℕ) : Type 0 where
  pub done : List Record
  pub as_many : length done ≡ i
  pub whole : done ++ drops xs i left ≡ drops xs 0 all
  pub log : l ≡ written l₀ 0 done

pub dropping-first : {xs : List ℕ} {all : List SmallBuffer} {l : List ℕ} → Dropping xs all l 0 all l
dropping-first {l} = record { done = []; as_many = refl; whole = refl; log = sym (written_none l 0) }

-- All is written: how many records, and the log.
pub record Dropped (xs : List ℕ) (all : List SmallBuffer) (l₀ : List ℕ) (i : ℕ) (l : List ℕ) : Type 0 where
  pub counted : i ≡ length (drops xs 0 all)
  pub wrote : l ≡ written l₀ 0 (drops xs 0 all)

module _ {xs : List ℕ} {all : List SmallBuffer} {l₀ : List ℕ} {i : ℕ} {left : List SmallBuffer} {l : List ℕ} (d : Dropping xs all l₀ i left l) where
  pub dropping_done : left ≡ [] → Dropped xs all l₀ i l
  dropping_done e =
      let same : d.done ≡ drops xs 0 all = sym (append-nil d.done) ∙ (rw e at d.whole) in
      record { counted = sym d.as_many ∙ ap length same; wrote = d.log ∙ ap (written l₀ 0) same }

  module _ {b : SmallBuffer} {rest : List SmallBuffer} (e : left ≡ b ∷ rest) {m : List ℕ} {r : Record} (w : m ≡ written l i (r ∷ []))
      (q : r ≡ drop_record b (code_of (lent xs i))) where
    more : m ≡ written l₀ 0 (d.done ++ r ∷ [])
    more = w ∙ ap (λ z. written z i (r ∷ [])) d.log ∙ written-append l₀ 0 d.done (r ∷ []) i (omega (arith, d.as_many))

    one_more : length (d.done ++ r ∷ []) ≡ i + 1
    one_more = simp length-append (omega (arith, d.as_many))

    pub dropping-next : 2 * i + 1 < length xs → Dropping xs all l₀ (i + 1) rest m
    dropping-next h = record {
      done = d.done ++ r ∷ [];
      as_many = one_more;
      whole = append_assoc d.done (r ∷ []) (drops xs (i + 1) rest)
          ∙ ap (λ z. d.done ++ z) (ap (λ z. z ∷ drops xs (i + 1) rest) q ∙ sym (drops-more xs i b rest h) ∙ ap (drops xs i) (sym e)) ∙ d.whole;
      log = more;
    }

    pub dropping-stop : length xs ≤ 2 * i + 1 → Dropped xs all l₀ (i + 1) m
    dropping-stop h =
        let same : d.done ++ r ∷ [] ≡ drops xs 0 all =
        ap (λ z. d.done ++ z) (ap (λ z. z ∷ []) q ∙ sym (drops-last xs i b rest h) ∙ ap (drops xs i) (sym e)) ∙ d.whole in
        record { counted = sym one_more ∙ ap length same; wrote = more ∙ ap (written l₀ 0) same }
