-- Where two let-else leave one variant of an answer: it is neither of the others.
use mathlib.Core.Path.{◌≡◌, refl}
use Prim.Native.Nat.{ℕ}
use Rattle.words.specs.declared.Answer.{Answer}
use Rattle.words.specs.declared.Answer.TheVariants.{Done, Failed, Missing}

pub only-missing : (a : Answer) → ((v : ℕ) → a ≡ Done v → ⊥) → ((v : ℕ) → a ≡ Failed v → ⊥) → a ≡ Missing
only-missing (Done v) p q = absurd (p v refl)
only-missing (Failed v) p q = absurd (q v refl)
only-missing Missing p q = refl
