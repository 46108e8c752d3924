-- The ways in which a range is taken, each its steps in order: a reserve that ends the call, a base that is not to be believed, a new root; a hole that
-- is cut.
use mathlib.Core.Path.{◌≡◌, refl}
use mathlib.Core.Bool.{true, false, not}
use mathlib.Core.List.{List, [], ◌∷◌, ◌++◌}
use mathlib.Core.Option.{some, none}
use Prim.Native.Nat.{ℕ, ◌+◌, ◌-◌}
use Rattle.words.specs.Answers.{lent}
use Rattle.words.specs.declared.Answer.{Answer}
use Rattle.words.specs.declared.Answer.TheVariants.{Done, Failed, Missing}
use Rattle.tables.specs.Values.{Tables, address, with_holes, with_roots}
use Rattle.tables.specs.InsertHole.{from, insert_hole}
use Rattle.tables.specs.Steps.{Ending, on, ends}
use Rattle.tables.specs.Driver.{heard, reserve}
use Rattle.tables.specs.TakeRange.{smallest_hole, cut_hole, credible_for, credible, reserve_root, take_hole, take_range}
use Rattle.tables.specs.declared.Hole.{Hole}
use Rattle.tables.specs.declared.Outcome.{Outcome}
use Rattle.tables.specs.declared.Outcome.TheVariants.{ReserveFailed, Incredible}
use Rattle.driving.specs.Ran.{Ran, Point, point}
use Rattle.driving.proofs.Ran.{next, stop, gave, ended, looked, changed, taken, passed, ending-is}

-- the answer of a driver call that goes on is none that is missing
not_missing : (va : ℕ) {xs : List ℕ} {s u : Point} → Ran (reserve va) xs s (on Missing) u → ⊥
unfolding reserve
not_missing va {xs = xs} {s = s} r = go (lent xs s.made) (ending-is r)
  where
    go : (y : Answer) → on Missing ≡ heard y → ⊥
    go (Done b) e = cc
    go (Failed c) e = cc
    go Missing e = cc

-- the driver was asked for a root
module _ {xs : List ℕ} {k j : ℕ} {t : Tables} {l m : List ℕ} (page va n : ℕ) (p : t.fields.page ≡ page) (v : t.fields.va ≡ va) where
  pub root-stopped : {o : Outcome} → Ran (reserve va) xs (point k t l) (ends o) (point j t m) → Ran (reserve_root n) xs (point k t l) (ends o) (point j t m)
  unfolding reserve_root
  root-stopped r = next _ looked (stop _ (rw (← v) at r))

  pub root-refused : (x : Answer) → ((b : ℕ) → x ≡ Done b → ⊥) → Ran (reserve va) xs (point k t l) (on x) (point j t m) →
      Ran (reserve_root n) xs (point k t l) (ends (ReserveFailed va page)) (point j t m)
  unfolding reserve_root
  root-refused (Done b) d r = absurd (d b refl)
  root-refused (Failed c) d r = rw (← v, ← p) (next _ looked (next _ (rw (← v) at r) (stop _ ended)))
  root-refused Missing d r = absurd (not_missing va r)

  pub root-incredible : (b : ℕ) → Ran (reserve va) xs (point k t l) (on (Done b)) (point j t m) → credible_for page va b t.roots ≡ false →
      Ran (reserve_root n) xs (point k t l) (ends Incredible) (point j t m)
  unfolding reserve_root credible
  root-incredible b r c =
      let not_so : not (credible b t) ≡ true = rw (p, v, c) in
      next _ looked (next _ (rw (← v) at r) (next _ gave (stop _ (taken _ not_so ended))))

  pub root-on : (b : ℕ) → Ran (reserve va) xs (point k t l) (on (Done b)) (point j t m) → credible_for page va b t.roots ≡ true →
      Ran (reserve_root n) xs (point k t l) (on b)
      (point j (with_roots (t.roots ++ address b ∷ []) (with_holes (insert_hole (b + n) (va - n) t.holes) t)) m)
  unfolding reserve_root credible
  root-on b r c =
      let so : not (credible b t) ≡ false = rw (p, v, c) in
      rw (← v) (next _ looked (next _ (rw (← v) at r) (next _ gave (next _ (passed _ so gave) (next _ (changed _) (next _ (changed _) gave))))))

pub took-root : {xs : List ℕ} {s u : Point} {e : Ending ℕ} (n : ℕ) → smallest_hole n s.tables.holes ≡ none →
    Ran (reserve_root n) xs s e u → Ran (take_range n) xs s e u
unfolding take_range take_hole
took-root {xs = xs} {s = s} {u = u} {e = e} n q r =
    let w : Ran (take_hole n (smallest_hole n s.tables.holes)) xs s e u = rw q r in
    next _ looked w

pub took-hole : {xs : List ℕ} {s : Point} (n : ℕ) (h : Hole) → smallest_hole n s.tables.holes ≡ some h →
    Ran (take_range n) xs s (on (from h)) (point s.made (with_holes (cut_hole n (from h) s.tables.holes) s.tables) s.log)
unfolding take_range take_hole
took-hole {xs = xs} {s = s} n h q =
    let w : Ran (take_hole n (smallest_hole n s.tables.holes)) xs s (on (from h))
    (point s.made (with_holes (cut_hole n (from h) s.tables.holes) s.tables) s.log) =
    rw q (next _ (changed _) gave) in
    next _ looked w
