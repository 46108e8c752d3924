-- The pages that a close finds mapped: those that the active pages and some ranges beside them hold, each once. An unmap of one of the ranges takes away
-- just its pages, and where no range is left a mapped page has the handle of its active page.
use mathlib.Core.Path.{◌≡◌, refl, ap, sym, ◌∙◌}
use mathlib.Core.Bool.{true, false, not}
use mathlib.Core.List.{List, [], ◌∷◌}
use Prim.Native.Nat.{ℕ, ◌+◌, ◌≤◌, ◌<◌, ◌%◌}
use native.Mathlib.Omega.{arith}
use native.Mathlib.Nat.{mod_self}
use Rattle.lists.specs.Tests.{All, Member, filter}
use Rattle.lists.proofs.Tests.{all_filter}
use Rattle.lists.proofs.Members.{member-all, all-members, filter-member, sum-member, member-sum}
use Rattle.tables.specs.declared.Page as Pool
use Rattle.keeping.specs.Cover.{within, equal, pages_at}
use Rattle.keeping.specs.Sound.{none, Whole, WholeRange}
use Rattle.keeping.proofs.Cover.{within_in, equal-same, equal-positive}
use Rattle.keeping.proofs.Whole.{within-page}
use Rattle.judge_rules.specs.Ranges.{inside}
use Rattle.judge_rules.specs.Rules.{Page, is_under, whole_pages}
use Rattle.agreement.specs.Agrees.{mapping, mapped_at}
use Rattle.agreement.proofs.Meets.{whole-mapped}
use Rattle.agreement.proofs.Counted.{counted-once, inside-none, mapped-without, under_none}

-- `beside` counts the mapped pages that are not those of `gs`.
pub record Mapped (p : ℕ) (beside : ℕ → ℕ) (gs : List Pool.Page) (m : List Page) : Type 0 where
  pub aligned : All (λ g. g.at % p ≡ 0) m
  pub counted : (x : ℕ) → x % p ≡ 0 → mapped_at m x ≡ beside x + pages_at gs x
  pub once : (x : ℕ) → x % p ≡ 0 → beside x + pages_at gs x ≤ 1
  pub active : All (λ g. Member (mapping g) m) gs
  pub starts : All (λ g. Whole p g.start.0) gs

module _ {p : ℕ} (a n : ℕ) (f : ℕ → ℕ) {gs : List Pool.Page} {m : List Page} (h : Mapped p (λ x. within a n x + f x) gs m) where
  -- The pages of the range are whole mapped pages,
  pub range-whole : 0 < p → WholeRange p a n → whole_pages p m a n ≡ true
  range-whole pos w = whole-mapped p a n m pos w (λ x e q r. omega (arith, h.counted x e, within_in a n x q r))

  -- and without them all others are left.
  pub range-unmapped : Mapped p f gs (filter (λ g. not (inside a n g.at)) m)
  range-unmapped =
      record {
        aligned = all_filter (λ g. g.at % p ≡ 0) (λ g. not (inside a n g.at)) m h.aligned;
        counted = λ x e. omega (arith, h.counted x e, mapped-without a n m x (omega (arith, h.counted x e, h.once x e)) (omega (arith, h.counted x e)));
        once = λ x e. omega (arith, h.once x e);
        active = all-members (λ g. Member (mapping g) (filter (λ g. not (inside a n g.at)) m)) gs left;
        starts = h.starts;
      }
    where
      left : (g : Pool.Page) → Member g gs → Member (mapping g) (filter (λ g. not (inside a n g.at)) m)
      left g k =
          let x = g.start.0 in
          let e : x % p ≡ 0 = (member-all (λ g. Whole p g.start.0) g gs k h.starts).aligned in
          let out : within a n x ≡ 0 = omega (arith, h.once x e, sum-member (λ (g : Pool.Page). equal g.start.0 x) g gs k, equal-same x) in
          filter-member (λ g. not (inside a n g.at)) (mapping g) m (member-all (λ g. Member (mapping g) m) g gs k h.active) (rw (inside-none a n x out))

-- the first of the active pages, as a range
pub page-range : (p : ℕ) (g : Pool.Page) {gs : List Pool.Page} {m : List Page} → 0 < p → Mapped p none (g ∷ gs) m → Mapped p (λ x. within g.start.0 p x + none x) gs m
page-range p g pos h =
    record {
      aligned = h.aligned;
      counted = λ x e. omega (arith, h.counted x e, within-page p g.start.0 x pos h.starts.0.aligned e);
      once = λ x e. omega (arith, h.once x e, within-page p g.start.0 x pos h.starts.0.aligned e);
      active = h.active.1;
      starts = h.starts.1;
    }

pub page-whole : {p a : ℕ} → 0 < p → Whole p a → WholeRange p a p
page-whole {p} pos w = record { start = w; size = record { positive = pos; aligned = mod_self p } }

module _ {p : ℕ} {gs : List Pool.Page} {m : List Page} (h : Mapped p none gs m) where
  -- Where only active pages are mapped, each is mapped to its own handle.
  own-handle : (k : Page) → Member k m → (g : Pool.Page) × (Member g gs × (k ≡ mapping g))
  own-handle k i =
      let x = k.at in
      let e : x % p ≡ 0 = member-all (λ g. g.at % p ≡ 0) k m i h.aligned in
      let r = member-sum (λ (g : Pool.Page). equal g.start.0 x) gs (omega (arith, h.counted x e, sum-member (λ (g : Page). equal g.at x) k m i, equal-same x)) in
      let s : r.0.start.0 ≡ x = equal-positive r.0.start.0 x r.1.1 in (
        r.0,
        (r.1.0, counted-once (λ (q : Page). q.at) k (mapping r.0) m i (member-all (λ g. Member (mapping g) m) r.0 gs r.1.0 h.active) (sym s) (omega (arith, h.counted x e, h.once x e))),
      )

  -- A handle that no active page has is mapped nowhere.
  pub none_under : (k : ℕ) → All (λ g. g.handle.0 ≡ k → ⊥) gs → is_under m k ≡ false
  none_under k other = under_none k m (all-members (λ j. j.handle ≡ k → ⊥) m differs)
    where
      differs : (j : Page) → Member j m → j.handle ≡ k → ⊥
      differs j i e =
          let r = own-handle j i in
          member-all (λ g. g.handle.0 ≡ k → ⊥) r.0 gs r.1.0 other (ap (λ (q : Page). q.handle) (sym r.1.1) ∙ e)

-- Where no page is active, none is mapped.
pub none-mapped : (p : ℕ) (m : List Page) → Mapped p none [] m → m ≡ []
none-mapped p [] h = refl
none-mapped p (k ∷ m) h = absurd (omega (arith, h.counted k.at h.aligned.0, equal-same k.at))
