-- Laws of `Member`: where an element of a list comes from, what it counts towards a sum, and what taking one out by its key leaves.
use mathlib.Core.Path.{◌≡◌, refl, ap, sym, subst}
use mathlib.Core.Logic.{◌⊎◌, inl, inr, ⊎_elim}
use mathlib.Core.Bool.{Bool, true, false, cond, not}
use mathlib.Core.List.{List, [], ◌∷◌}
use mathlib.Core.Option.{Option, some, none}
use Prim.Native.Nat.{ℕ, suc, ◌+◌, ◌≤◌, ◌<◌}
use native.Mathlib.Omega.{arith}
use borrow.Author.Tests.{eq-eqb, ne_eqb, leb-true, leb-false}
use lib.Dec.{leb, eqb}
use lib.ListN.{length, get_or}
use Rattle.lists.specs.Tests.{All, Member, filter, first}
use Rattle.lists.specs.Order.{put, sorted, Rises, without, smaller, least}
use Rattle.lists.specs.Walks.{sum}
use Rattle.lists.proofs.Tests.{cases_lt, all_filter, all-at}
use Rattle.lists.proofs.Order.{without-none}
use Rattle.lists.proofs.Walks.{length-sum}
use Rattle.lists.proofs.Filters.{rises-filter}

module _ {A : Type 0} where
  pub member-all : (P : A → Type 0) (x : A) (l : List A) → Member x l → All P l → P x
  member-all P x (y ∷ l) (inl e) a = subst P (sym e) a.0
  member-all P x (y ∷ l) (inr m) a = member-all P x l m a.1
  member-all P x [] x3 a = elim x3 [ ]

  pub all-members : (P : A → Type 0) (l : List A) → ((x : A) → Member x l → P x) → All P l
  all-members P [] f = tt
  all-members P (x ∷ l) f = (f x (inl refl), all-members P l (λ y m. f y (inr m)))

  pub member-at : (l : List A) (i : ℕ) (d : A) → i < length l → Member (get_or l i d) l
  member-at l i d h = all-at (λ x. Member x l) l i d (all-members (λ x. Member x l) l (λ x m. m)) h

  pub member_filter : (p : A → Bool) (x : A) (l : List A) → Member x (filter p l) → Member x l × (p x ≡ true)
  member_filter p x (y ∷ l) m = go (p y) refl (λ n. member_filter p x l n) m
    where
      go : (b : Bool) → p y ≡ b → (Member x (filter p l) → Member x l × (p x ≡ true)) → Member x (cond b (y ∷ filter p l) (filter p l)) →
          Member x (y ∷ l) × (p x ≡ true)
      go true e f (inl q) = (inl q, rw q e)
      go true e f (inr n) = (inr (f n).0, (f n).1)
      go false e f n = (inr (f n).0, (f n).1)
  member_filter p x [] m = elim m [ ]

  pub filter-member : (p : A → Bool) (x : A) (l : List A) → Member x l → p x ≡ true → Member x (filter p l)
  filter-member p x (y ∷ l) (inl q) e = let t : p y ≡ true = rw q at e in rw t (inl q)
  filter-member p x (y ∷ l) (inr m) e = go (p y) (filter-member p x l m e)
    where
      go : (b : Bool) → Member x (filter p l) → Member x (cond b (y ∷ filter p l) (filter p l))
      go true n = inr n
      go false n = n
  filter-member p x [] x3 e = elim x3 [ ]

  pub member-first : (p : A → Bool) (x : A) (l : List A) → first p l ≡ some x → Member x l
  member-first p x [] e = let z : ◌≡◌ {A = ℕ} 0 1 = cc in absurd (omega arith)
  member-first p x (y ∷ l) e = go (p y) (member-first p x l) e
    where
      go : (b : Bool) → (first p l ≡ some x → Member x l) → cond b (some y) (first p l) ≡ some x → Member x (y ∷ l)
      go true f q = inl (let r : y ≡ x = cc in sym r)
      go false f q = inr (f q)

  module _ (f : A → ℕ) where
    -- a member counts towards the sum, and a sum that is not 0 has a member that counts
    pub sum-member : (x : A) (l : List A) → Member x l → f x ≤ sum f l
    sum-member x (y ∷ l) (inl e) = omega (arith, ap f e)
    sum-member x (y ∷ l) (inr m) = omega (arith, sum-member x l m)
    sum-member x [] x'' = elim x'' [ ]

    pub member-sum : (l : List A) → 0 < sum f l → (x : A) × (Member x l × (0 < f x))
    member-sum [] h = absurd (omega arith)
    member-sum (y ∷ l) h =
        ⊎_elim
        (λ p. (y, (inl refl, p)))
        (λ p. let r = member-sum l (omega arith) in (r.0, (inr r.1.0, r.1.1)))
        (cases_lt 0 (f y))

  module _ (key : A → ℕ) where
    pub member-put : (x y : A) (l : List A) → Member x (put key y l) → (x ≡ y) ⊎ Member x l
    member-put x y [] (inl e) = inl e
    member-put x y (z ∷ l) m = go (leb (key y) (key z)) (λ n. member-put x y l n) m
      where
        go : (b : Bool) → (Member x (put key y l) → (x ≡ y) ⊎ Member x l) → Member x (cond b (y ∷ z ∷ l) (z ∷ put key y l)) → (x ≡ y) ⊎ Member x (z ∷ l)
        go true f (inl e) = inl e
        go true f (inr n) = inr n
        go false f (inl e) = inr (inl e)
        go false f (inr n) = ⊎_elim (λ e. inl e) (λ k. inr (inr k)) (f n)
    member-put x y [] (inr x3) = elim x3 [ ]

    pub put-member : (x : A) (l : List A) → Member x (put key x l)
    put-member x [] = inl refl
    put-member x (z ∷ l) = go (leb (key x) (key z)) (put-member x l)
      where
        go : (b : Bool) → Member x (put key x l) → Member x (cond b (x ∷ z ∷ l) (z ∷ put key x l))
        go true m = inl refl
        go false m = inr m

    -- what was there is there still
    pub put_keeps : (x y : A) (l : List A) → Member x l → Member x (put key y l)
    put_keeps x y (z ∷ l) m = go (leb (key y) (key z)) (λ n. put_keeps x y l n) m
      where
        go : (b : Bool) → (Member x l → Member x (put key y l)) → Member x (z ∷ l) → Member x (cond b (y ∷ z ∷ l) (z ∷ put key y l))
        go true f n = inr n
        go false f (inl e) = inl e
        go false f (inr n) = inr (f n)
    put_keeps x y [] m = elim m [ ]

    pub member-sorted : (x : A) (l : List A) → Member x (sorted key l) → Member x l
    member-sorted x (y ∷ l) m = ⊎_elim (λ e. inl e) (λ n. inr (member-sorted x l n)) (member-put x y (sorted key l) m)
    member-sorted x [] m = elim m [ ]

    -- the least is one of them
    pub member-least : (x : A) (l : List A) → least key l ≡ some x → Member x l
    member-least x [] e = let z : ◌≡◌ {A = ℕ} 0 1 = cc in absurd (omega arith)
    member-least x (y ∷ l) e = go (least key l) (λ w q. member-least w l q) e
      where
        pick : (z : A) (b : Bool) → some (cond b y z) ≡ some x → (x ≡ y) ⊎ (x ≡ z)
        pick z true q = inl (let r : y ≡ x = cc in sym r)
        pick z false q = inr (let r : z ≡ x = cc in sym r)

        go : (o : Option A) → ((w : A) → o ≡ some w → Member w l) → some (smaller key y o) ≡ some x → Member x (y ∷ l)
        go none f q = inl (let r : y ≡ x = cc in sym r)
        go (some z) f q = ⊎_elim (λ p. inl p) (λ p. inr (subst (λ w. Member w l) (sym p) (f z refl))) (pick z (leb (key y) (key z)) q)

    -- keys that rise are above their bound
    pub member_above : (b : ℕ) (x : A) (l : List A) → Rises key b l → Member x l → b < key x
    member_above b x (y ∷ l) r (inl e) = rw e r.0
    member_above b x (y ∷ l) r (inr m) = omega (arith, r.0, member_above (key y) x l r.1 m)
    member_above b x [] r x4 = elim x4 [ ]

    pub without-keeps : (k : ℕ) (x : A) (l : List A) → Member x l → (key x ≡ k → ⊥) → Member x (without key k l)
    without-keeps k x l m h = filter-member (λ y. not (eqb (key y) k)) x l m (rw (ne_eqb (key x) k h))

    pub all_without : (P : A → Type 0) (k : ℕ) (l : List A) → All P l → All P (without key k l)
    all_without P k = all_filter P (λ x. not (eqb (key x) k))

    pub rises-without : (k b : ℕ) (l : List A) → Rises key b l → Rises key b (without key k l)
    rises-without k = rises-filter key (λ x. not (eqb (key x) k))

    -- taking out by key takes out just that one: whatever is counted, it counts no more
    pub sum-without : (f : A → ℕ) (b : ℕ) (x : A) (l : List A) → Rises key b l → Member x l → f x + sum f (without key (key x) l) ≡ sum f l
    sum-without f b x (y ∷ l) r (inl e) = rw (← e, eq-eqb (key x) (key x) refl, without-none key (key x) (key x) l (omega arith) (rw (← e) at r.1))
    sum-without f b x (y ∷ l) r (inr m) =
        let apart : key y ≡ key x → ⊥ = λ e. omega (arith, member_above (key y) x l r.1 m) in
        rw (ne_eqb (key y) (key x) apart) (omega (arith, sum-without f (key y) x l r.1 m))
    sum-without f b x [] r x4 = elim x4 [ ]

    pub length_without : (b : ℕ) (x : A) (l : List A) → Rises key b l → Member x l → suc (length (without key (key x) l)) ≡ length l
    length_without b x l r m = omega (arith, sum-without (λ y. 1) b x l r m, length-sum (without key (key x) l), length-sum l)

    -- a new key has its place
    pub rises-put : (b : ℕ) (x : A) (l : List A) → b < key x → All (λ y. key y ≡ key x → ⊥) l → Rises key b l → Rises key b (put key x l)
    rises-put b x [] h a r = (h, tt)
    rises-put b x (y ∷ l) h a r = go (leb (key x) (key y)) refl (λ q. rises-put (key y) x l q a.1 r.1)
      where
        go : (t : Bool) → leb (key x) (key y) ≡ t → (key y < key x → Rises key (key y) (put key x l)) → Rises key b (cond t (x ∷ y ∷ l) (y ∷ put key x l))
        go true e f =
            let le : key x ≤ key y = leb-true (key x) (key y) e in
            let ne : key y ≡ key x → ⊥ = a.0 in
            (h, (omega arith, r.1))
        go false e f = (r.0, f (leb-false (key x) (key y) e))
