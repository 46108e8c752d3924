-- The loops of a close: where what the same for each of those left does from here, the same for each of all does.
use mathlib.Core.Path.{◌≡◌}
use mathlib.Core.List.{List, [], ◌∷◌}
use Prim.Native.Nat.{ℕ, suc, ◌+◌, ◌*◌, ◌≤◌, ◌<◌}
use native.Mathlib.Omega.{arith}
use native.Mathlib.Nat.{mul-le-mul}
use lib.ListN.{length, get_or, drop, drop_of_length-le}
use lib.Seq.{drop-cons}
use Rattle.std.specs.Prelude.{Ok, Err}
use Rattle.tables.specs.Values.{Tables}
use Rattle.tables.specs.Steps.{Ending, on, ends, Act, each}
use Rattle.tables.specs.declared.Outcome.{Outcome}
use Rattle.driving.specs.Ran.{Point, Lent, stands}
use Rattle.driving.proofs.Lent.{lent-same, lent-then}
use Rattle.driving.specs.declared.Driver.{Driver}
use Rattle.step_close.specs.Counting.{RanCounting}
use Rattle.step_close.specs.Promises.{Counts}
use Rattle.step_close.proofs.Counting.{gave, next, stop, not-ends}

-- From `f` and `d` on, `left` is all that is to be done; `all` was, from `f₀` and `d₀` on.
pub record Leads {A : Type 0} (act : A → Act) (left all : List A) (xs : List ℕ) (f₀ : ℕ) (d₀ : Driver) (f : ℕ) (d : Driver) : Type 0 where
  pub goes : (t : Tables) (e : Ending (Unit {0})) (u : Point) (g : ℕ) → RanCounting (each act left) xs (stands d t) f e u g →
      RanCounting (each act all) xs (stands d₀ t) f₀ e u g

pub leads-first : {A : Type 0} {act : A → Act} {all : List A} {xs : List ℕ} {f : ℕ} {d : Driver} → Leads act all all xs f d f d
leads-first = record { goes = λ t e u g r. r }

module _ {A : Type 0} {act : A → Act} {all : List A} {xs : List ℕ} {f₀ : ℕ} {d₀ : Driver} {f : ℕ} {d : Driver} where
  pub leads_done : {left : List A} → left ≡ [] → Leads act left all xs f₀ d₀ f d → (t : Tables) →
      RanCounting (each act all) xs (stands d₀ t) f₀ (on tt) (stands d t) f
  leads_done h l t = (rw h at l).goes t _ _ _ gave

  -- the first of those left is done, and the driver stands at `d'`
  module _ {x : A} {left rest : List A} {g : ℕ} (d' : Driver) (h : left ≡ x ∷ rest) (l : Leads act left all xs f₀ d₀ f d) where
    pub leads-next : ((t : Tables) → RanCounting (act x) xs (stands d t) f (on tt) (stands d' t) g) → Leads act rest all xs f₀ d₀ g d'
    leads-next c = record { goes = λ t e u k q. l.goes t e u k (rw h (next _ (c t) q)) }

    pub leads-stop : {o : Outcome} → ((t : Tables) → RanCounting (act x) xs (stands d t) f (ends o) (stands d' t) g) → (t : Tables) →
        RanCounting (each act all) xs (stands d₀ t) f₀ (ends o) (stands d' t) g
    leads-stop c t = l.goes t _ _ _ (rw h (stop _ (c t)))

-- Where a loop stands before the entry at place `i`: with what is left to be done from here, at most `n` driver calls made for each entry before it.
pub record Stands {A : Type 0} (act : A → Act) (n : ℕ) (all : List A) (i : ℕ) (f₀ : ℕ) (d₀ : Driver) (f : ℕ) (d : Driver) : Type 0 where
  pub lent : Lent d₀ d
  pub leads : Leads act (drop i all) all d₀.answers.now f₀ d₀ f d
  pub most : d.made ≤ d₀.made + n * i
  pub few : f ≤ d.made

before-end : (n i m : ℕ) → i < m → n * (i + 1) ≤ n * m
before-end n i m h = mul-le-mul {n₁ = n} {m₁ = i + 1} {n₂ = n} {m₂ = m} (omega arith) (omega arith)

module _ {A : Type 0} {act : A → Act} {n : ℕ} {all : List A} {f₀ : ℕ} {d₀ : Driver} where
  pub stands-first : f₀ ≤ d₀.made → Stands act n all 0 f₀ d₀ f₀ d₀
  stands-first h = record { lent = lent-same d₀; leads = leads-first; most = omega arith; few = h }

  module _ {i f : ℕ} {d : Driver} (s : Stands act n all i f₀ d₀ f d) where
    pub stands_done : {m : ℕ} → n * length all ≤ m → length all ≤ i → i ≤ length all → Counts (each act all) m d₀ f₀ (Ok tt) d f
    stands_done b h k =
        let e : i ≡ length all = omega (arith, h, k) in
        record {
          lent = s.lent;
          ran = leads_done (drop_of_length-le all {i = i} h) s.leads;
          only = λ o q. not-ends q;
          most = omega (arith, rw e at s.most, b);
          few = s.few;
        }

    -- The entry at the place is done.
    module _ (z : A) (h : i < length all) where
      here : drop i all ≡ get_or all i z ∷ drop (i + 1) all
      here = let e : suc i ≡ i + 1 = omega arith in rw e at (drop-cons all i z h)

      pub stands-next : {g : ℕ} {d' : Driver} → Counts (act (get_or all i z)) n d f (Ok tt) d' g → Stands act n all (i + 1) f₀ d₀ g d'
      stands-next {d' = d'} c =
          record {
            lent = lent-then s.lent c.lent;
            leads = leads-next d' here s.leads (λ t. rw s.lent.answers at (c.ran t));
            most = omega (arith, s.most, c.most);
            few = c.few;
          }

      pub stands-stop : {g m : ℕ} {d' : Driver} {o : Outcome} → n * length all ≤ m → Counts (act (get_or all i z)) n d f (Err o) d' g → Counts (each act all) m d₀ f₀ (Err o) d' g
      stands-stop {d' = d'} b c =
          record {
            lent = lent-then s.lent c.lent;
            ran = leads-stop d' here s.leads (λ t. rw s.lent.answers at (c.ran t));
            only = c.only;
            most = omega (arith, s.most, c.most, before-end n i (length all) h, b);
            few = c.few;
          }
