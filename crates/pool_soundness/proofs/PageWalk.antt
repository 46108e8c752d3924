-- A walk over the starts of a span's pages: the next one, the bound of what is left, and that a span has a page.
use mathlib.Core.Path.{◌≡◌, refl}
use mathlib.Core.Bool.{false}
use mathlib.Core.List.{List, [], ◌∷◌, ◌++◌}
use Prim.Native.Nat.{ℕ, zero, suc, ◌+◌, ◌-◌, ◌*◌, ◌/◌, ◌≤◌, ◌<◌}
use native.Mathlib.Omega.{arith}
use native.Mathlib.Nat.{suc-mul, div-mul-le_self, le-div_iff_mul-le}
use Rattle.lists.specs.Tests.{All, same}
use Rattle.tables.specs.Bounds.{END}
use Rattle.tables.specs.Pull.{starts}
use Rattle.tables.specs.WellFormed.{Range, upto}
use Rattle.keeping.proofs.PageStarts.{page_starts}
use Rattle.pool_soundness.specs.Walks.{High}

-- a span that holds a page, and ends at or below 2^63
abbrev pub Spanned : ℕ → Range → Type 0
Spanned page h = (page ≤ h.size) × (upto h ≤ END)

pub next_start : (page left at : ℕ) (rest : List ℕ) → 0 < left → starts left at page ++ rest ≡ at ∷ (starts (left - 1) (at + page) page ++ rest)
next_start page zero at rest h = absurd (omega arith)
next_start page (suc m) at rest h =
    let e : suc m - 1 ≡ m = omega arith in
    rw e

-- where none is left, the next starts are those of the next span
pub next-span : (page at left : ℕ) (l m : List Range) (h : Range) (pages : List ℕ) → left ≡ 0 → l ≡ h ∷ m →
    same pages (starts left at page ++ page_starts page l) ≡ same pages (starts (h.size / page) h.from page ++ page_starts page m)
next-span page at left l m h pages e f = rw (e, f)

pub next_bound : (page left at most : ℕ) → 0 < left → at + left * page ≤ most → at + page + (left - 1) * page ≤ most
next_bound page zero at most h k = absurd (omega arith)
next_bound page (suc m) at most h k =
    let e : suc m - 1 ≡ m = omega arith in
    rw e (omega (arith, suc-mul m page))

pub span_bound : (page most : ℕ) (h : Range) → upto h ≤ most → h.from + h.size / page * page ≤ most
span_bound page most h k = omega (arith, div-mul-le_self h.size page)

-- a span that holds a page has a first one
pub some-page : (page n : ℕ) → 0 < page → page ≤ n → 0 < n / page
some-page page n p k =
    let one : 1 * page ≤ n = omega arith in
    omega (arith, (le-div_iff_mul-le {k = page} {x = 1} {y = n} p).1 one)

pub some-start : (page : ℕ) (h : Range) (l : List Range) → 0 < page → page ≤ h.size → same [] (page_starts page (h ∷ l)) ≡ false
some-start page h l p k = rw (next_start page (h.size / page) h.from (page_starts page l) (some-page page h.size p k))

-- none of them is no address
pub none-high : (page : ℕ) (l : List Range) → All (Spanned page) l → All High l → l ≡ []
none-high page [] a b = refl
none-high page (h ∷ l) a b = absurd (omega (arith, a.0.1, b.0))
