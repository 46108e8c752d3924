-- The ways in which a region is settled and pulled, each its steps in order.
use mathlib.Core.Path.{◌≡◌, refl, ap}
use mathlib.Core.Bool.{Bool, true, false}
use mathlib.Core.List.{List, [], ◌∷◌, ◌++◌}
use Prim.Native.Nat.{ℕ, ◌-◌, ◌<◌}
use native.Mathlib.Omega.{arith}
use borrow.Author.Tests.{eq-eqb, ne_eqb}
use lib.Dec.{eqb}
use Rattle.tables.specs.Values.{with_free, with_zombies}
use Rattle.tables.specs.Steps.{Ending, on, ends}
use Rattle.tables.specs.Driver.{must, is_complete, wait}
use Rattle.tables.specs.InsertFree.{from, without_free, put_rest}
use Rattle.tables.specs.Pull.{settle, pull_one, pull}
use Rattle.tables.specs.declared.FreeRegion.{FreeRegion}
use Rattle.tables.specs.declared.Zombie.{Zombie}
use Rattle.tables.specs.declared.Outcome.{Outcome}
use Rattle.driving.specs.Ran.{Ran, Point, point}
use Rattle.driving.proofs.Ran.{next, stop, gave, changed, taken, passed}
use Rattle.step_pull.specs.Promises.{part_of}

-- a region of the same stream
pub settle-own : {xs : List ℕ} {u : Point} (s : ℕ) (r : FreeRegion) → eqb r.stream s ≡ true → Ran (settle s r) xs u (on tt) u
unfolding settle
settle-own s r h = taken _ h gave

-- another stream's: the asking ended as `a`
module _ {xs : List ℕ} {u v : Point} {a : Ending Bool} (s : ℕ) (r : FreeRegion) (h : eqb r.stream s ≡ false) (asked : Ran (is_complete r.id.0) xs u a v) where
  pub settle_out : {o : Outcome} → a ≡ ends o → Ran (settle s r) xs u (ends o) v
  unfolding settle
  settle_out p = passed _ h (stop _ (rw p at asked))

  pub settle-complete : a ≡ on true → Ran (settle s r) xs u (on tt) v
  unfolding settle
  settle-complete p = passed _ h (next _ (rw p at asked) gave)

  pub settle-wait : {e : Ending (Unit {0})} {w : Point} → a ≡ on false → Ran (must (wait r.id.0 s)) xs v e w → Ran (settle s r) xs u e w
  unfolding settle
  settle-wait p q = passed _ h (next _ (rw p at asked) q)

-- the region is out of the table, and settling ended as `e`
module _ {xs : List ℕ} {u v : Point} {e : Ending (Unit {0})} (s lacks : ℕ) (r : FreeRegion)
    (settled : Ran (settle s r) xs (point u.made (with_free (without_free (from r) u.tables.free) u.tables) u.log) e v) where
  pub pull-stop : {o : Outcome} → e ≡ ends o → Ran (pull_one s lacks r) xs u (ends o) v
  unfolding pull_one
  pull-stop h = next _ (changed _) (stop _ (rw h at settled))

  pub pull-on : e ≡ on tt →
      Ran (pull_one s lacks r) xs u (on (part_of lacks r))
      (point v.made
      (with_free (put_rest (part_of lacks r).size r v.tables.free) (with_zombies (v.tables.zombies ++ part_of lacks r ∷ []) v.tables)) v.log)
  unfolding pull_one
  pull-on h = next _ (changed _) (next _ (rw h at settled) (next _ (changed _) (next _ (changed _) gave)))

-- how pulling ends, with the parts taken before
abbrev pub joined_to : List Zombie → Ending (List Zombie) → Ending (List Zombie)
joined_to ps (on zs) = on (ps ++ zs)
joined_to ps (ends o) = ends o

-- nothing lacks
pub pull-enough : {xs : List ℕ} {u : Point} (l : List FreeRegion) (s lacks : ℕ) → lacks ≡ 0 → Ran (pull l s lacks) xs u (on []) u
pull-enough [] s lacks h = gave
pull-enough (r ∷ l) s lacks h = taken _ (eq-eqb lacks 0 h) gave

-- one region, which ended as `a`, and then the others
module _ {xs : List ℕ} {u v : Point} {a : Ending Zombie} (r : FreeRegion) (l : List FreeRegion) (s lacks : ℕ) (h : 0 < lacks) (one : Ran (pull_one s lacks r) xs u a v) where
  some_lack : eqb lacks 0 ≡ false
  some_lack = ne_eqb lacks 0 (λ e. omega arith)

  pub pulls-stop : {o : Outcome} → a ≡ ends o → Ran (pull (r ∷ l) s lacks) xs u (ends o) v
  pulls-stop p = passed _ some_lack (stop _ (rw p at one))

  pub pulls-on : {w : Point} (z : Zombie) → a ≡ on z → (e : Ending (List Zombie)) → Ran (pull l s (lacks - z.size)) xs v e w →
      Ran (pull (r ∷ l) s lacks) xs u (joined_to (z ∷ []) e) w
  pulls-on z p (on zs) q = passed _ some_lack (next _ (rw p at one) (next _ q gave))
  pulls-on z p (ends o) q = passed _ some_lack (next _ (rw p at one) (stop _ q))

pub joined-none : (ps : List Zombie) → ps ≡ [] → (e : Ending (List Zombie)) → joined_to ps e ≡ e
joined-none ps h (on zs) = rw h
joined-none ps h (ends o) = refl

pub joined-more : (ps : List Zombie) (z : Zombie) (e : Ending (List Zombie)) → joined_to ps (joined_to (z ∷ []) e) ≡ joined_to (ps ++ z ∷ []) e
joined-more ps z (on zs) = ap on (more ps)
  where
    more : (qs : List Zombie) → qs ++ z ∷ zs ≡ (qs ++ z ∷ []) ++ zs
    more [] = refl
    more (q ∷ qs) = ap (λ l. q ∷ l) (more qs)
joined-more ps z (ends o) = refl
