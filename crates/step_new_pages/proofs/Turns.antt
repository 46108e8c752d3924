-- One page to make, by how it goes: what the rest of the pages do from there, all of them do.
use mathlib.Core.Path.{◌≡◌, sym, subst}
use mathlib.Core.Bool.{true, false}
use mathlib.Core.List.{List}
use Prim.Native.Nat.{ℕ, ◌+◌, ◌-◌, ◌<◌}
use borrow.Author.Tests.{eq-eqb, ne_eqb}
use Rattle.lists.specs.Order.{put}
use Rattle.lists.proofs.Tests.{one_more}
use Rattle.words.specs.declared.Answer.{Answer}
use Rattle.words.specs.declared.Answer.TheVariants.{Done, Failed, Missing}
use Rattle.tables.specs.Values.{page, with_pages}
use Rattle.tables.specs.Steps.{Ending, on, ends}
use Rattle.words.specs.Answers.{lent}
use Rattle.tables.specs.Driver.{create, must, map, heard}
use Rattle.tables.specs.NewPages.{Room, at, roll_back, is_active, created, map_page, make_pages}
use Rattle.tables.specs.declared.Outcome.{Outcome}
use Rattle.tables.specs.declared.Outcome.TheVariants.{DriverFailed, Incredible}
use Rattle.driving.specs.Ran.{Point, point, Ran}
use Rattle.driving.proofs.Ran.{gave, ended, looked, taken, passed, next, stop, changed, ending-is}

-- the answer of a driver call that went on is none that is missing
pub not-missing : (p : ℕ) {xs : List ℕ} {s u : Point} → Ran (create p) xs s (on Missing) u → ⊥
unfolding create
not-missing p {xs = xs} {s = s} r = go (lent xs s.made) (ending-is r)
  where
    go : (y : Answer) → on Missing ≡ heard y → ⊥
    go (Done v) e = cc
    go (Failed c) e = cc
    go Missing e = cc

module _ {xs : List ℕ} {s : Point} (p n : ℕ) (o : Room) (a : ℕ) (q : s.tables.fields.page ≡ p) (h : 0 < n) where
  asked : {e : Ending Answer} {u : Point} → Ran (create p) xs s e u → Ran (create s.tables.fields.page) xs s e u
  asked {e = e} {u = u} r = subst (λ x. Ran (create x) xs s e u) (sym q) r

  pub make-missing : {f : Outcome} {u : Point} → Ran (create p) xs s (ends f) u → Ran (make_pages n o a) xs s (ends f) u
  make-missing r = rw (one_more n h) (next _ looked (stop _ (asked r)))

  pub make-back : {f : Outcome} {u v : Point} {c : ℕ} → Ran (create p) xs s (on (Failed c)) u → c ≡ 2 → Ran (roll_back o a) xs u (ends f) v →
      Ran (make_pages n o a) xs s (ends f) v
  unfolding created
  make-back {c = c} r e b = rw (one_more n h) (next _ looked (next _ (asked r) (stop _ (next _ looked (stop _ (taken _ (eq-eqb c 2 e) b))))))

  pub make-failed : {u : Point} {c : ℕ} → Ran (create p) xs s (on (Failed c)) u → (c ≡ 2 → ⊥) → Ran (make_pages n o a) xs s (ends (DriverFailed c)) u
  unfolding created
  make-failed {c = c} r e =
      rw (one_more n h) (next _ looked (next _ (asked r) (stop _ (next _ looked (next _ (passed _ (ne_eqb c 2 e) gave) (stop _ ended))))))

  module _ {u : Point} (g : ℕ) (r : Ran (create p) xs s (on (Done g)) u) where
    pub make-active : is_active g u.tables.pages ≡ true → Ran (make_pages n o a) xs s (ends Incredible) u
    unfolding created
    make-active e = rw (one_more n h) (next _ looked (next _ (asked r) (stop _ (next _ looked (next _ gave (next _ gave (taken _ e ended)))))))

    module _ (c : Ran (created o a (Done g)) xs u (on tt) u) where
      pub make-unmapped : {f : Outcome} {v : Point} → Ran (map_page a g) xs u (ends f) v → Ran (make_pages n o a) xs s (ends f) v
      make-unmapped m = rw (one_more n h) (next _ looked (next _ (asked r) (next _ c (stop _ m))))

      pub make-page : {e : Ending (Unit {0})} {v w : Point} → Ran (map_page a g) xs u (on tt) v → Ran (make_pages (n - 1) o (a + p)) xs v e w →
          Ran (make_pages n o a) xs s e w
      make-page {e = e} {v = v} {w = w} m k =
          let rest = subst (λ x. Ran (make_pages (n - 1) o (a + x)) xs v e w) (sym q) k in
          rw (one_more n h) (next _ looked (next _ (asked r) (next _ c (next _ m rest))))

-- a handle that is not active ends nothing
pub checked : {xs : List ℕ} {u : Point} (o : Room) (a g : ℕ) → is_active g u.tables.pages ≡ false → Ran (created o a (Done g)) xs u (on tt) u
unfolding created
checked o a g e = next _ looked (next _ gave (next _ gave (passed _ e gave)))

-- a page to map, by how that goes
module _ {xs : List ℕ} {s u : Point} (a h : ℕ) where
  pub page-unmapped : {f : Outcome} → Ran (must (map a h)) xs s (ends f) u → Ran (map_page a h) xs s (ends f) u
  unfolding map_page
  page-unmapped r = stop _ r

  pub page-mapped : {e : Ending (Unit {0})} → e ≡ on tt → Ran (must (map a h)) xs s e u →
      Ran (map_page a h) xs s (on tt) (point u.made (with_pages (put at (page a h) u.tables.pages) u.tables) u.log)
  unfolding map_page
  page-mapped q r = next _ (rw q at r) (changed _)
