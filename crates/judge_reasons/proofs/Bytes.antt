-- Laws of a walk over the bytes of a line.
use mathlib.Core.Path.{◌≡◌, ap, ◌∙◌}
use mathlib.Core.Bool.{true, false, cond}
use mathlib.Core.Logic.{⊎_elim}
use mathlib.Core.List.{List}
use Prim.Native.Nat.{ℕ, suc, ◌+◌}
use native.Mathlib.Omega.{arith}
use borrow.Author.Tests.{eq-eqb, ne_eqb}
use lib.ListN.{get_or}
use Rattle.lists.proofs.Tests.{cases_lt}
use Rattle.judge_reasons.specs.Forms.{Byte, NoneFrom, TAB, tabs}

pub none_more : (bs : List ℕ) (a i b : ℕ) → NoneFrom bs a i b → (Byte bs i b → ⊥) → NoneFrom bs a (i + 1) b
none_more bs a i b f g k h q e =
    ⊎_elim
    (λ r. f k h r e)
    (λ r. let s : i ≡ k = omega arith in g (ap (λ n. get_or bs n 0) s ∙ e))
    (cases_lt k i)

pub none_yet : (bs : List ℕ) (a b : ℕ) → NoneFrom bs a a b
none_yet bs a b k h q e = omega arith

pub tab-more : (bs : List ℕ) (i : ℕ) → get_or bs i 0 ≡ TAB → tabs (i + 1) bs ≡ tabs i bs + 1
tab-more bs i e =
    let s : i + 1 ≡ suc i = omega arith in
    let t : suc (tabs i bs) ≡ tabs i bs + 1 = omega arith in
    rw (s, eq-eqb (get_or bs i 0) TAB e) t

pub tab-none : (bs : List ℕ) (i : ℕ) → (get_or bs i 0 ≡ TAB → ⊥) → tabs (i + 1) bs ≡ tabs i bs
tab-none bs i e = let s : i + 1 ≡ suc i = omega arith in rw (s, ne_eqb (get_or bs i 0) TAB e)

pub never : false ≡ true → ⊥
never e = let z : ◌≡◌ {A = ℕ} 0 1 = ap (λ b. cond b 1 0) e in omega arith
