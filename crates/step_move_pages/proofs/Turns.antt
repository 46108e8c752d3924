-- One page moved, by how its map goes: each is the steps of the rule in order. The first of the pages of a range, and the others.
use mathlib.Core.Path.{◌≡◌}
use mathlib.Core.List.{List, [], ◌∷◌}
use Prim.Native.Nat.{ℕ, zero, suc, ◌+◌, ◌-◌, ◌*◌, ◌<◌}
use native.Mathlib.Omega.{arith}
use native.Mathlib.Nat.{suc-mul}
use Rattle.lists.specs.Order.{put, without}
use Rattle.words.specs.declared.Word.TheVariants.{Map}
use Rattle.tables.specs.Values.{page, with_pages}
use Rattle.tables.specs.Steps.{Ending, on, ends}
use Rattle.tables.specs.Driver.{must, map}
use Rattle.tables.specs.NewPages.{at, map_page}
use Rattle.tables.specs.Pull.{starts, handle_at, move_pages}
use Rattle.tables.specs.declared.Outcome.{Outcome}
use Rattle.driving.specs.Ran.{Ran, Point, point}
use Rattle.driving.specs.Promises.{telling}
use Rattle.driving.proofs.Ran.{next, stop, looked, changed}

-- the first of the pages of a range
pub starts_more : (k b p : ℕ) → 0 < k → starts k b p ≡ b ∷ starts (k - 1) (b + p) p
starts_more zero b p h = absurd (omega arith)
starts_more (suc k) b p h =
    let e : suc k - 1 ≡ k = omega arith in
    rw e

pub starts_none : (k b p : ℕ) → k ≡ 0 → starts k b p ≡ []
starts_none k b p e = rw e

pub mul-more : (k p : ℕ) → 0 < k → k * p ≡ p + (k - 1) * p
mul-more zero p h = absurd (omega arith)
mul-more (suc k) p h =
    let e : suc k - 1 ≡ k = omega arith in
    rw e (omega (arith, suc-mul k p))

-- what ended did not go on
pub not-on : {A B : Type 0} {a : A} {o : Outcome} → ◌≡◌ {A = Ending A} (ends o) (on a) → B
not-on e = let z : ◌≡◌ {A = ℕ} 0 1 = cc in absurd (omega arith)

-- the call that is told to the driver is the rule's map
pub mapped_as : {xs : List ℕ} {s u : Point} {e : Ending (Unit {0})} (a : ℕ) {h h' : ℕ} → h ≡ h' → Ran (must (telling Map a h)) xs s e u →
    Ran (must (map a h')) xs s e u
unfolding map
mapped_as a q r = rw q at r

-- the map ended as `e`
module _ {xs : List ℕ} {s v : Point} {e : Ending (Unit {0})} (b a : ℕ) (others : List ℕ)
    (mapped : Ran (must (map a (handle_at b s.tables.pages))) xs (point s.made (with_pages (without at b s.tables.pages) s.tables) s.log) e v) where
  pub move-on : e ≡ on tt → {f : Ending (Unit {0})} {w : Point} (a' : ℕ) → a' ≡ a + s.tables.fields.page →
      Ran (move_pages others a') xs
      (point v.made (with_pages (put at (page a (handle_at b s.tables.pages)) v.tables.pages) v.tables) v.log) f w →
      Ran (move_pages (b ∷ others) a) xs s f w
  unfolding map_page
  move-on h a' q r = next _ looked (next _ (changed _) (next _ (next _ (rw h at mapped) (changed _)) (rw q at r)))

  pub move-stop : {o : Outcome} → e ≡ ends o → Ran (move_pages (b ∷ others) a) xs s (ends o) v
  unfolding map_page
  move-stop h = next _ looked (next _ (changed _) (stop _ (stop _ (rw h at mapped))))
