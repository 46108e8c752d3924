-- The starts of the pages of whole ranges: they are as many as the sizes say, at aligned addresses they count as the ranges cover, and for disjoint
-- ranges in order they rise.
use mathlib.Core.Path.{refl, ◌≡◌, ap, ◌∙◌, sym}
use mathlib.Core.List.{List, [], ◌∷◌}
use Prim.Native.Nat.{ℕ, zero, suc, ◌+◌, ◌*◌, ◌/◌, ◌%◌, ◌≤◌, ◌<◌}
use native.Mathlib.Omega.{arith}
use native.Mathlib.Nat.{zero-mul, suc-mul, add-mul, mod_self}
use lib.ListN.{length, length-append}
use Rattle.lists.specs.Tests.{All, Pairs}
use Rattle.lists.specs.Walks.{sum, joined}
use Rattle.lists.proofs.Tests.{all_implies}
use Rattle.lists.proofs.Walks.{sum-joined, sum-equal, sum-none}
use Rattle.lists.proofs.Pairs.{all-joined, pairs-joined}
use Rattle.tables.specs.Pull.{starts}
use Rattle.tables.specs.WellFormed.{Range, upto}
use Rattle.keeping.specs.Cover.{within, equal, keys_at}
use Rattle.keeping.specs.Sound.{Whole, WholeRange}
use Rattle.keeping.proofs.Cover.{within_join, within_none, equal-other}
use Rattle.keeping.proofs.Whole.{aligned_next, aligned-pages, within-page, whole-past}
use Rattle.keeping.proofs.Counting.{cover_at}

count-starts : (p : ℕ) → 0 < p → (k a x : ℕ) → a % p ≡ 0 → x % p ≡ 0 → keys_at (λ s. s) (starts k a p) x ≡ within a (k * p) x
count-starts p h zero a x e f =
    let z : 0 * p ≡ 0 = omega arith in
    rw z (sym (within_none a x))
count-starts p h (suc k) a x e f =
    let s : suc k * p ≡ p + k * p = omega (arith, suc-mul k p) in
    rw s (omega (arith, within_join a p (k * p) x, within-page p a x h e f, count-starts p h k (a + p) x (aligned_next p a e) f))

whole-starts : (p k a : ℕ) → Whole p a → All (Whole p) (starts k a p)
whole-starts p zero a w = tt
whole-starts p (suc k) a w =
    (w, whole-starts p k (a + p) (whole-past p w (mod_self p)))

-- all starts are in the range
between-starts : (p : ℕ) → 0 < p → (k a : ℕ) → All (λ s. (a ≤ s) × (s < a + k * p)) (starts k a p)
between-starts p h zero a = tt
between-starts p h (suc k) a =
    let e = suc-mul k p in (
      (omega arith, omega arith),
      all_implies (λ s. (a + p ≤ s) × (s < a + p + k * p)) (λ s. (a ≤ s) × (s < a + suc k * p)) (λ s q. (omega arith, omega arith)) (starts k (a + p) p)
          (between-starts p h k (a + p)),
    )

rise-starts : (p : ℕ) → 0 < p → (k a : ℕ) → Pairs (λ s u. s < u) (starts k a p)
rise-starts p h zero a = tt
rise-starts p h (suc k) a = (
  all_implies (λ s. (a + p ≤ s) × (s < a + p + k * p)) (λ s. a < s) (λ s q. omega arith) (starts k (a + p) p) (between-starts p h k (a + p)),
  rise-starts p h k (a + p),
)

pub length-starts : (k a p : ℕ) → length (starts k a p) ≡ k
length-starts zero a p = refl
length-starts (suc k) a p = ap suc (length-starts k (a + p) p)

-- the starts of the pages of several ranges, by where they start and their sizes
module _ {A : Type 0} (lo size : A → ℕ) (p : ℕ) where
  abbrev starts_of : List A → List ℕ
  starts_of = joined (λ a. starts (size a / p) (lo a) p)

  abbrev AllWhole : List A → Type 0
  AllWhole = All (λ a. WholeRange p (lo a) (size a))

  pub whole_starts_of : (l : List A) → AllWhole l → All (Whole p) (starts_of l)
  whole_starts_of l w =
      all-joined (λ a. starts (size a / p) (lo a) p) (Whole p) l
      (all_implies _ (λ a. All (Whole p) (starts (size a / p) (lo a) p)) (λ a v. whole-starts p (size a / p) (lo a) v.start) l w)

  -- as many pages as the sizes say
  pub length_starts_of : (l : List A) → AllWhole l → length (starts_of l) * p ≡ sum size l
  length_starts_of [] w = zero-mul p
  length_starts_of (a ∷ l) w =
      rw (
        length-append (starts (size a / p) (lo a) p) (starts_of l),
        length-starts (size a / p) (lo a) p,
        add-mul (size a / p) (length (starts_of l)) p,
        aligned-pages p (size a) w.0.size.aligned,
        length_starts_of l w.1,
      )

  pub count_starts_of : (l : List A) → 0 < p → AllWhole l → (x : ℕ) → x % p ≡ 0 → keys_at (λ s. s) (starts_of l) x ≡ cover_at lo size l x
  count_starts_of l h w x e =
      sum-joined (λ s. equal s x) (λ a. starts (size a / p) (lo a) p) l
      ∙ sum-equal (λ a. keys_at (λ s. s) (starts (size a / p) (lo a) p) x) (λ a. within (lo a) (size a) x) l (all_implies _ _ one l w)
    where
      one : (a : A) → WholeRange p (lo a) (size a) → keys_at (λ s. s) (starts (size a / p) (lo a) p) x ≡ within (lo a) (size a) x
      one a v = rw (aligned-pages p (size a) v.size.aligned) at (count-starts p h (size a / p) (lo a) x v.start.aligned e)

-- a range of whole pages, and the starts of its pages
abbrev pub WholeSpan : ℕ → Range → Type 0
WholeSpan p h = WholeRange p h.from h.size

abbrev pub starts_in : ℕ → Range → List ℕ
starts_in p h = starts (h.size / p) h.from p

abbrev pub page_starts : ℕ → List Range → List ℕ
page_starts p = joined (starts_in p)

-- how often ranges hold an address
abbrev pub cover_spans : List Range → ℕ → ℕ
cover_spans = cover_at (λ h. h.from) (λ h. h.size)

module _ (p : ℕ) (positive : 0 < p) (l : List Range) (whole : All (WholeSpan p) l) where
  pub count-pages : (x : ℕ) → x % p ≡ 0 → keys_at (λ s. s) (page_starts p l) x ≡ cover_spans l x
  count-pages = count_starts_of (λ h. h.from) (λ h. h.size) p l positive whole

  pub whole-pages : All (Whole p) (page_starts p l)
  whole-pages = whole_starts_of (λ h. h.from) (λ h. h.size) p l whole

  pub rise-pages : Pairs (λ h k. upto h ≤ k.from) l → Pairs (λ s u. s < u) (page_starts p l)
  rise-pages r =
      pairs-joined (starts_in p) (λ s u. s < u) (λ h k. upto h ≤ k.from) (λ h s. s < upto h) later l
      (all_implies (WholeSpan p) (λ h. All (λ s. s < upto h) (starts_in p h) × Pairs (λ s u. s < u) (starts_in p h))
      (λ h w. (before h w, rise-starts p positive (h.size / p) h.from)) l whole) r
    where
      later : (h k : Range) (s : ℕ) → s < upto h → upto h ≤ k.from → All (λ u. s < u) (starts_in p k)
      later h k s q r =
          all_implies (λ u. (k.from ≤ u) × (u < k.from + k.size / p * p)) (λ u. s < u) (λ u v. omega arith) (starts_in p k)
          (between-starts p positive (k.size / p) k.from)

      before : (h : Range) → WholeSpan p h → All (λ s. s < upto h) (starts_in p h)
      before h w =
          let e = aligned-pages p h.size w.size.aligned in
          all_implies (λ s. (h.from ≤ s) × (s < h.from + h.size / p * p)) (λ s. s < upto h) (λ s v. omega arith) (starts_in p h)
          (between-starts p positive (h.size / p) h.from)

-- at an address that is not aligned no aligned key counts
pub unaligned-none : {A : Type 0} (key : A → ℕ) (p x : ℕ) → (x % p ≡ 0 → ⊥) → (l : List A) → All (λ a. Whole p (key a)) l → keys_at key l x ≡ 0
unaligned-none key p x e l w =
    sum-none (λ a. equal (key a) x) l
    (all_implies (λ a. Whole p (key a)) (λ a. equal (key a) x ≡ 0) (λ a v. equal-other (key a) x (λ q. e (rw q at v.aligned))) l w)
