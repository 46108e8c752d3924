-- What the lent answers hold after `k` driver calls: a pair, or nothing.
use mathlib.Core.Path.{◌≡◌, refl}
use mathlib.Core.Bool.{Bool, true, false, cond, not}
use mathlib.Core.List.{List}
use Prim.Native.Nat.{ℕ, ◌+◌, ◌*◌, ◌≤◌, ◌<◌}
use borrow.Author.Tests.{lt-ltb, le-ltb}
use lib.Dec.{ltb, eqb}
use lib.ListN.{length, get_or}
use Rattle.words.specs.Answers.{of_pair, lent, code_of, failed, taken_after}
use Rattle.words.specs.declared.Answer.TheVariants.{Done, Failed, Missing}

module _ (xs : List ℕ) (k : ℕ) where
  pub lent_pair : 2 * k + 1 < length xs → lent xs k ≡ of_pair (get_or xs (2 * k) 0) (get_or xs (2 * k + 1) 0)
  unfolding lent
  lent_pair h = rw (lt-ltb (2 * k + 1) (length xs) h)

  pub lent-missing : length xs ≤ 2 * k + 1 → lent xs k ≡ Missing
  unfolding lent
  lent-missing h = rw (le-ltb (2 * k + 1) (length xs) h)

  -- a failed one is one with a code above 0
  pub lent-failed : failed (lent xs k) ≡ not (eqb (code_of (lent xs k)) 0)
  unfolding lent of_pair
  lent-failed = some (ltb (2 * k + 1) (length xs))
    where
      pair : (c v : ℕ) (b : Bool) → eqb c 0 ≡ b → failed (cond b (Done v) (Failed c)) ≡ not (eqb (code_of (cond b (Done v) (Failed c))) 0)
      pair c v true e = refl
      pair c v false e = rw e

      some : (b : Bool) →
          let x = cond b (of_pair (get_or xs (2 * k) 0) (get_or xs (2 * k + 1) 0)) Missing in
          failed x ≡ not (eqb (code_of x) 0)
      some true = pair (get_or xs (2 * k) 0) (get_or xs (2 * k + 1) 0) (eqb (get_or xs (2 * k) 0) 0) refl
      some false = refl

  pub taken_more : 2 * k + 1 < length xs → taken_after xs k ≡ k + 1
  unfolding taken_after
  taken_more h = rw (lt-ltb (2 * k + 1) (length xs) h)

  pub taken-same : length xs ≤ 2 * k + 1 → taken_after xs k ≡ k
  unfolding taken_after
  taken-same h = rw (le-ltb (2 * k + 1) (length xs) h)
