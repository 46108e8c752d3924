-- The next to pull is the oldest of this stream, else of the others; and to pull by repeated choice is to pull by the order.
use mathlib.Core.Path.{◌≡◌, refl, ap, sym, ◌∙◌}
use mathlib.Core.Bool.{Bool, true, false, not, ◌&&◌, true≢false}
use mathlib.Core.List.{List, [], ◌∷◌}
use mathlib.Core.Option.{Option, some, none}
use Prim.Native.Nat.{ℕ}
use native.Mathlib.Omega.{arith}
use borrow.Author.Tests.{ne_eqb, not-true}
use lib.Dec.{eqb}
use Rattle.lists.specs.Tests.{All, Member, filter}
use Rattle.lists.specs.Order.{sorted, Rises, least}
use Rattle.lists.specs.Front.{front, or_else}
use Rattle.lists.proofs.Members.{member-least, member_filter, all-members}
use Rattle.lists.proofs.Filters.{rises-filter, filter-both, filter_commute, filter-all}
use Rattle.lists.proofs.Keys.{rises-same}
use Rattle.lists.proofs.Front.{front-append, front-sorted, sorted-least}
use Rattle.tables.specs.InsertFree.{from, without_free}
use Rattle.tables.specs.Pull.{own_of, others_of, pull_order}
use Rattle.tables.specs.declared.FreeRegion.{FreeRegion}
use Rattle.words.specs.declared.Address.{Address}
use Rattle.std.specs.Prelude.{Some, None, Option as Maybe}
use Rattle.std.specs.Option.{MatchOption}
use Rattle.regions.specs.Pulling.{next_to_pull, besides, is_made}

abbrev pub age : FreeRegion → ℕ
age r = r.id.0

pub next-is : (s : ℕ) (l : List FreeRegion) → next_to_pull s l ≡ or_else (least age (own_of s l)) (least age (others_of s l))
unfolding next_to_pull
next-is s l = front-append (sorted age (own_of s l)) (sorted age (others_of s l)) ∙ rw (front-sorted age (own_of s l), front-sorted age (others_of s l))

-- one of this stream that is not the one just made, and one of another stream
abbrev pub own : Maybe Address → ℕ → FreeRegion → Bool
own m s q = not (is_made m q) && eqb q.stream s

abbrev pub other : Maybe Address → ℕ → FreeRegion → Bool
other m s q = not (is_made m q) && not (eqb q.stream s)

-- what a test of the address made gives
pub made-is : {P : Address → Type 0} (m : Maybe Address) (q : FreeRegion) (r : Bool) → MatchOption m (r ≡ false) P →
    ((a : Address) → P a → r ≡ eqb (from q) a.0) → r ≡ is_made m q
unfolding is_made
made-is None q r h f = h
made-is (Some a) q r h f = f a h

-- The region just made is in neither scan, and another is in one of them, by its stream.
module _ (m : Maybe Address) (s : ℕ) (q : FreeRegion) where
  pub own-made : is_made m q ≡ true → own m s q ≡ false
  own-made e = rw e

  pub other-made : is_made m q ≡ true → other m s q ≡ false
  other-made e = rw e

  pub own-is : is_made m q ≡ false → own m s q ≡ eqb q.stream s
  own-is e = rw e

  pub other-is : is_made m q ≡ false → other m s q ≡ not (eqb q.stream s)
  other-is e = rw e

besides-is : (m : Maybe Address) (l : List FreeRegion) → besides m l ≡ filter (λ q. not (is_made m q)) l
unfolding besides is_made
besides-is (Some a) l = refl
besides-is None l = sym (filter-all l)

next-besides : (m : Maybe Address) (s : ℕ) (l : List FreeRegion) →
    next_to_pull s (besides m l) ≡ or_else (least age (filter (own m s) l)) (least age (filter (other m s) l))
next-besides m s l =
    let a : own_of s (besides m l) ≡ filter (own m s) l = ap (own_of s) (besides-is m l) ∙ filter-both (λ q. not (is_made m q)) (λ q. eqb q.stream s) l in
    let b : others_of s (besides m l) ≡ filter (other m s) l =
    ap (others_of s) (besides-is m l) ∙ filter-both (λ q. not (is_made m q)) (λ q. not (eqb q.stream s)) l in
    next-is s (besides m l) ∙ rw (a, b)

-- a region pulled is taken out of the others too
pub besides-without : (m : Maybe Address) (a : ℕ) (l : List FreeRegion) → besides m (without_free a l) ≡ without_free a (besides m l)
unfolding besides
besides-without (Some b) a l = filter_commute (λ q. not (eqb (from q) a)) (λ q. not (eqb (from q) b.0)) l
besides-without None a l = refl

pub rises-besides : (m : Maybe Address) (b : ℕ) (l : List FreeRegion) → Rises from b l → Rises from b (besides m l)
unfolding besides
rises-besides (Some a) b l r = rises-filter from (λ q. not (eqb (from q) a.0)) b l r
rises-besides None b l r = r

-- what the two scans have found at the end
pub next-found : (m : Maybe Address) (s : ℕ) (l : List FreeRegion) (a b : Option FreeRegion) → a ≡ least age (filter (own m s) l) → b ≡ least age (filter (other m s) l) →
    or_else a b ≡ next_to_pull s (besides m l)
next-found m s l a b e f = rw (e, f) (sym (next-besides m s l))

bare : (l : List FreeRegion) → least age l ≡ none → l ≡ []
bare [] e = refl
bare (x ∷ l) e = let z : ◌≡◌ {A = ℕ} 0 1 = cc in absurd (omega arith)

-- Where there is none to pull the order is empty.
pub pull-none : (s : ℕ) (l : List FreeRegion) → next_to_pull s l ≡ none → pull_order s l ≡ []
unfolding next_to_pull
pull-none s l e = empty (pull_order s l) e
  where
    empty : (m : List FreeRegion) → front m ≡ none → m ≡ []
    empty [] e = refl
    empty (x ∷ m) e = let z : ◌≡◌ {A = ℕ} 0 1 = cc in absurd (omega arith)

-- Where no two regions start at one address, the order is the next one and then the order of the rest.
module _ (s b : ℕ) (r : FreeRegion) (l : List FreeRegion) (rises : Rises from b l) where
  -- taken out of one side of the streams, it leaves the other side as it is
  leaves : (p : FreeRegion → Bool) → Member r l → p r ≡ false → filter p (without_free (from r) l) ≡ filter p l
  leaves p m e = filter_commute (λ q. not (eqb (from q) (from r))) p l ∙ stays (filter p l) (all-members (λ q. from q ≡ from r → ⊥) (filter p l) apart)
    where
      apart : (q : FreeRegion) → Member q (filter p l) → from q ≡ from r → ⊥
      apart q n f =
          let w = member_filter p q l n in
          let same : q ≡ r = rises-same from b q r l rises w.0 m f in
          true≢false (sym w.1 ∙ ap p same ∙ e)

      stays : (k : List FreeRegion) → All (λ q. from q ≡ from r → ⊥) k → without_free (from r) k ≡ k
      stays [] a = refl
      stays (x ∷ k) a = rw (ne_eqb (from x) (from r) a.0) (ap (λ k. x ∷ k) (stays k a.1))

  -- taken out of its own side, it stands before the rest of that side
  heads : (p : FreeRegion → Bool) → least age (filter p l) ≡ some r → sorted age (filter p l) ≡ r ∷ sorted age (filter p (without_free (from r) l))
  heads p e =
      sorted-least age from b r (filter p l) (rises-filter from p b l rises) e ∙
      ap (λ m. r ∷ sorted age m) (filter_commute p (λ q. not (eqb (from q) (from r))) l)

  pub pull-next : next_to_pull s l ≡ some r → pull_order s l ≡ r ∷ pull_order s (without_free (from r) l)
  pull-next e = go (least age (own_of s l)) refl (sym (next-is s l) ∙ e)
    where
      go : (o : Option FreeRegion) → least age (own_of s l) ≡ o → or_else (least age (own_of s l)) (least age (others_of s l)) ≡ some r →
          pull_order s l ≡ r ∷ pull_order s (without_free (from r) l)
      go (some x) q e =
          let n : least age (own_of s l) ≡ some r = q ∙ rw q at e in
          let w = member_filter (λ q. eqb q.stream s) r l (member-least age r (own_of s l) n) in
          rw (heads (λ q. eqb q.stream s) n, leaves (λ q. not (eqb q.stream s)) w.0 (ap not w.1))
      go none q e =
          let n : least age (others_of s l) ≡ some r = rw q at e in
          let w = member_filter (λ q. not (eqb q.stream s)) r l (member-least age r (others_of s l) n) in
          let apart : eqb r.stream s ≡ false = not-true (eqb r.stream s) w.1 in
          rw (heads (λ q. not (eqb q.stream s)) n, leaves (λ q. eqb q.stream s) w.0 apart, bare (own_of s l) q)
