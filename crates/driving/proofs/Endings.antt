-- What an answer that did not fail is, and the number by which a test is recorded.
use mathlib.Core.Path.{◌≡◌, refl}
use mathlib.Core.Bool.{Bool, true, false, cond}
use Prim.Native.Nat.{ℕ}
use mir.Val.{bool_byte}
use Rattle.words.specs.Answers.{failed}
use Rattle.words.specs.declared.Answer.{Answer}
use Rattle.words.specs.declared.Answer.TheVariants.{Done, Failed, Missing}

pub not_failed : (a : Answer) → ((c : ℕ) → a ≡ Failed c → ⊥) → failed a ≡ false
not_failed (Done v) h = refl
not_failed (Failed c) h = absurd (h c refl)
not_failed Missing h = refl

pub byte_is : (b : Bool) → bool_byte b ≡ cond b 1 0
byte_is true = refl
byte_is false = refl
