-- Walks over a list from its front: with a state, summing, joining what each element gives.
use Rattle.std.specs.Prelude.{List, [], ◌∷◌, ◌++◌, ℕ, ◌+◌}

-- the state `s` after each element of `l`, whose places are counted from `i`
abbrev pub walk {ℓ ℓ'} : {A : Type ℓ} {S : Type ℓ'} → (ℕ → S → A → S) → ℕ → S → List A → S
walk f i s [] = s
walk f i s (x ∷ l) = walk f (i + 1) (f i s x) l

abbrev pub sum {ℓ} : {A : Type ℓ} → (A → ℕ) → List A → ℕ
sum f [] = 0
sum f (x ∷ l) = f x + sum f l

-- the lists that `f` gives, one after the other
abbrev pub joined {ℓ ℓ'} : {A : Type ℓ} {B : Type ℓ'} → (A → List B) → List A → List B
joined f [] = []
joined f (x ∷ l) = f x ++ joined f l
