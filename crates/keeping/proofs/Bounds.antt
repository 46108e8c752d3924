-- What the counts bound: ranges in the tables end where addresses end and have no more bytes than the roots, and there are no more pages to move than
-- active pages.
use mathlib.Core.Path.{◌≡◌, ap}
use mathlib.Core.Logic.{⊎_elim}
use mathlib.Core.List.{List, [], ◌∷◌}
use Prim.Native.Nat.{ℕ, zero, suc, ◌+◌, ◌-◌, ◌*◌, ◌≤◌, ◌<◌, ◌%◌}
use native.Mathlib.Omega.{arith}
use native.Mathlib.Nat.{suc-mul, zero-mul, mul-le-mul}
use lib.ListN.{length}
use Rattle.lists.specs.Tests.{All, Member}
use Rattle.lists.specs.Order.{Rises, without}
use Rattle.lists.specs.Walks.{sum}
use Rattle.lists.proofs.Tests.{cases_eq, all_implies}
use Rattle.lists.proofs.Members.{all-members, member-all, member-sum, sum-member, rises-without, sum-without, length_without}
use Rattle.tables.specs.Bounds.{END, ROOTS, SPANS}
use Rattle.tables.specs.Values.{Tables}
use Rattle.tables.specs.InsertFree.{upto, bytes}
use Rattle.tables.specs.NewPages.{at}
use Rattle.tables.specs.Pull.{pages_in}
use Rattle.tables.specs.declared.FreeRegion.{FreeRegion}
use Rattle.tables.specs.declared.Zombie.{Zombie}
use Rattle.keeping.specs.Cover.{within, equal, cover_free, pages_at, keys_at}
use Rattle.keeping.specs.Sound.{WholeRange, Sound}
use Rattle.keeping.specs.Move.{Movable, Moving}
use Rattle.keeping.proofs.Cover.{equal-same, equal-positive}
use Rattle.keeping.proofs.Counting.{cover_at}
use Rattle.keeping.proofs.PageStarts.{unaligned-none}
use Rattle.keeping.proofs.Inside.{count, count_plus, count-within, count_cover, in_common}
use Rattle.keeping.proofs.Sounds.{sound-free, sound-range}
use Rattle.keeping.proofs.InsertFree.{Inserting}
use Rattle.keeping.proofs.Move.{moving-first}

count_most : (n a : ℕ) (f g : ℕ → ℕ) → ((x : ℕ) → f x ≤ g x) → count n a f ≤ count n a g
count_most zero a f g h = omega arith
count_most (suc n) a f g h = omega (arith, h a, count_most n (suc a) f g h)

-- ranges below `m` have as many addresses there as their sizes say
common-all : {A : Type 0} (lo size : A → ℕ) (m : ℕ) (l : List A) → All (λ r. lo r + size r ≤ m) l → in_common lo size 0 m l ≡ sum size l
common-all lo size m [] a = omega arith
common-all lo size m (r ∷ l) a = omega (arith, a.0, common-all lo size m l a.1)

-- Ranges that share no address, and are inside others, have no more bytes than those.
sizes-most : {A B : Type 0} (lo size : A → ℕ) (lo' size' : B → ℕ) (m a n : ℕ) (l : List A) (k : List B) → a + n ≤ m → All (λ r. lo r + size r ≤ m) l →
    All (λ r. lo' r + size' r ≤ m) k → ((x : ℕ) → within a n x + cover_at lo size l x ≤ cover_at lo' size' k x) → n + sum size l ≤ sum size' k
sizes-most lo size lo' size' m a n l k fits ends ends' inside =
    omega (
      arith,
      count_most m 0 (λ x. within a n x + cover_at lo size l x) (cover_at lo' size' k) inside,
      count_plus m 0 (within a n) (cover_at lo size l),
      count-within m 0 a n,
      count_cover lo size m 0 l,
      count_cover lo' size' m 0 k,
      common-all lo size m l ends,
      common-all lo' size' m k ends',
    )

sum_same : {A : Type 0} (n : ℕ) (l : List A) → sum (λ r. n) l ≡ length l * n
sum_same n [] = omega (arith, zero-mul n)
sum_same n (r ∷ l) = omega (arith, suc-mul (length l) n, sum_same n l)

-- What the code that inserts a range as free leans on.
pub record Bounds (a n : ℕ) (l : List FreeRegion) : Type 0 where
  pub ends : All (λ q. upto q ≤ END) l
  pub range_end : a + n ≤ END
  pub sizes : n + bytes l ≤ END
  pub few : length l ≤ SPANS - 1

module _ {lost hand bare : ℕ → ℕ} {t : Tables} (s : Sound lost hand bare t) where
  -- every free region is of a root
  pub free-ends : All (λ q. upto q ≤ END) t.free
  free-ends = all-members _ t.free one
    where
      one : (q : FreeRegion) → Member q t.free → upto q ≤ END
      one q m =
          sound-range
          (sound-free s {hand' = λ x. cover_free t.free x + hand x} {bare' = λ x. cover_free t.free x + bare x} [] tt tt (λ x. omega arith)
          (λ x h. omega arith) (λ i. omega arith) tt)
          q.start.0 q.size (member-all (λ r. WholeRange t.fields.page r.start.0 r.size) q t.free m s.free).size.positive
          (λ x. omega (arith, sum-member (λ r. within r.start.0 r.size x) q t.free m))

  -- a range in hand and the free regions share no address
  pub free-sizes : (a n : ℕ) → a + n ≤ END → ((x : ℕ) → within a n x ≤ hand x) → length t.roots ≤ ROOTS → n + bytes t.free ≤ END
  free-sizes a n fits le few =
      omega (
        arith,
        sizes-most (λ r. r.start.0) (λ r. r.size) (λ r. r.0) (λ r. t.fields.va) END a n t.free t.roots fits free-ends
            (all_implies _ _ (λ r w. w.1) t.roots s.roots) (λ x. omega (arith, le x, s.covered x)),
        sum_same t.fields.va t.roots,
        most,
      )
    where
      most : length t.roots * t.fields.va ≤ ROOTS * t.fields.va
      most = mul-le-mul few (omega arith)

pub inserting_bounds : {lost hand bare : ℕ → ℕ} {p f a n : ℕ} {l : List FreeRegion} {t : Tables} → Inserting lost hand bare p f a n l t → Bounds a n t.free
inserting_bounds {a = a} {n = n} {t = t} i =
    let fits = sound-range i.sound a n i.range.size.positive (λ x. omega arith) in
    record {
      ends = free-ends i.sound;
      range_end = fits;
      sizes = free-sizes i.sound a n fits (λ x. omega arith) i.few.roots;
      few = omega (arith, i.few.spans);
    }

-- Numbers each of which counts no more often than among rising keys are no more than those.
keys-most : {A : Type 0} (key : A → ℕ) (b : ℕ) (l : List ℕ) (m : List A) → Rises key b m → ((x : ℕ) → keys_at (λ y. y) l x ≤ keys_at key m x) → length l ≤ length m
keys-most key b [] m r h = omega arith
keys-most key b (x ∷ l) m r h = go (member-sum (λ y. equal (key y) x) m (omega (arith, h x, equal-same x))) (keys-most key b l)
  where
    go : (g : _) × (Member g m × (0 < equal (key g) x)) →
        ((k : List _) → Rises key b k → ((y : ℕ) → keys_at (λ z. z) l y ≤ keys_at key k y) → length l ≤ length k) → suc (length l) ≤ length m
    go (g, (i, c)) f =
        let e = equal-positive (key g) x c in
        omega (
          arith,
          length_without key b g m r i,
          f (without key (key g) m) (rises-without key (key g) b m r)
              (λ y. omega (arith, h y, sum-without key (λ z. equal (key z) y) b g m r i, ap (λ z. equal z y) e)),
        )

-- Each page of a part pulled is active.
pub moved-most : (lost hand : ℕ → ℕ) (p a c : ℕ) (f : List FreeRegion) (zs : List Zombie) (t : Tables) → Movable lost hand p a c f zs t →
    length (pages_in p zs) ≤ length t.pages
moved-most lost hand p a c f zs t w = keys-most at 0 (pages_in p zs) t.pages w.sound.pages_rise among
  where
    m : Moving lost hand p a a c f (pages_in p zs) t
    m = moving-first lost hand p a c f zs t w

    among : (x : ℕ) → keys_at (λ b. b) (pages_in p zs) x ≤ pages_at t.pages x
    among x =
        ⊎_elim
        (λ e. omega (arith, m.sound.pages_match x (rw w.page e)))
        (λ e. omega (arith, unaligned-none (λ b. b) p x e (pages_in p zs) m.starts))
        (cases_eq (x % p) 0)
