-- Ranges of addresses, and the pages that one is made of.
use Rattle.std.specs.Prelude.{Bool, ◌&&◌, ◌||◌, List, [], ◌∷◌, ℕ, zero, suc, ◌+◌, ◌/◌, ltb, leb}

-- the address `x` is one of the `n` from `a` on
abbrev pub inside : ℕ → ℕ → ℕ → Bool
inside a n x = leb a x && ltb x (a + n)

-- the `n` addresses from `a` on and the `m` from `b` on have none in common
abbrev pub clear : ℕ → ℕ → ℕ → ℕ → Bool
clear a n b m = leb (a + n) b || leb (b + m) a

-- `k` pages of size `p`, each by its start, the first at `a`
abbrev pub pages_from : ℕ → ℕ → ℕ → List ℕ
pages_from p a zero = []
pages_from p a (suc k) = a ∷ pages_from p (a + p) k

-- the pages of `n` bytes from `a` on
unfoldable pub pages : ℕ → ℕ → ℕ → List ℕ
pages p a n = pages_from p a (n / p)
