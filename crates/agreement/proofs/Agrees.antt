-- The relation carried over changes: of tables that only hold the ranges elsewhere, of the counter when an id is recorded, of the judge's live buffers.
use mathlib.Core.Path.{◌≡◌, refl, ap, ◌∙◌}
use mathlib.Core.List.{List}
use Prim.Native.Nat.{ℕ, ◌+◌, ◌%◌}
use native.Mathlib.Omega.{arith}
use Rattle.tables.specs.Values.{Tables, with_holes, with_counter}
use Rattle.tables.specs.declared.LiveBuffer.{LiveBuffer}
use Rattle.tables.specs.declared.Hole.{Hole}
use Rattle.keeping.specs.Cover.{cover_free, cover_live, cover_zombies}
use Rattle.judge_rules.specs.Rules.{Live, Judge}
use Rattle.judge_rules.specs.Verdict.{with_live, with_last}
use Rattle.judge_rules.specs.declared.Run.{Run}
use Rattle.agreement.specs.Agrees.{SameBy, buffer, Agrees}
use Rattle.agreement.proofs.Meets.{last-next}

-- how often the free, live and zombie ranges hold an address: there the judge has a page mapped
abbrev pub spans_at : Tables → ℕ → ℕ
spans_at t x = cover_free t.free x + cover_live t.live x + cover_zombies t.zombies x

-- the judge's page size is the pool's
pub agrees-page : {run : Run} {new : ℕ → ℕ} {spare : List ℕ} {live : List LiveBuffer} {t : Tables} {s : Judge} → Agrees run new spare live t s →
    s.run.page ≡ t.fields.page
agrees-page g = ap (λ (r : Run). r.page) g.runs ∙ g.page

-- `t` differs from `u` in free, live, holes and zombies at most
pub record Beside (u t : Tables) : Type 0 where
  pub page : t.fields.page ≡ u.fields.page
  pub va : t.fields.va ≡ u.fields.va
  pub counter : t.fields.counter ≡ u.fields.counter
  pub pages : t.pages ≡ u.pages
  pub roots : t.roots ≡ u.roots

pub agrees_beside : {run : Run} {new : ℕ → ℕ} {spare : List ℕ} {live : List LiveBuffer} {u t : Tables} {s : Judge} (new' : ℕ → ℕ) →
    Agrees run new spare live u s → Beside u t → ((x : ℕ) → x % u.fields.page ≡ 0 → spans_at t x + new' x ≡ spans_at u x + new x) → Agrees run new' spare live t s
agrees_beside new' g b covers =
    record {
      runs = g.runs;
      page = rw b.page g.page;
      va = rw b.va g.va;
      reservations = rw (b.va, b.roots) g.reservations;
      held = rw b.pages g.held;
      aligned = rw b.page g.aligned;
      mapped = λ x e. omega (arith, g.mapped x (rw (← b.page) e), covers x (rw (← b.page) e));
      active = rw b.pages g.active;
      owned = g.owned;
      buffers = g.buffers;
      last = rw b.counter g.last;
    }

-- what is mapped in no table's range may be said in another way
pub agrees_as : {run : Run} {new : ℕ → ℕ} {spare : List ℕ} {live : List LiveBuffer} {t : Tables} {s : Judge} (new' : ℕ → ℕ) →
    Agrees run new spare live t s → ((x : ℕ) → x % t.fields.page ≡ 0 → new x ≡ new' x) → Agrees run new' spare live t s
agrees_as new' g same =
    agrees_beside new' g (record { page = refl; va = refl; counter = refl; pages = refl; roots = refl }) (λ x e. omega (arith, same x e))

-- the judge knows of no hole
pub agrees-holes : {run : Run} {new : ℕ → ℕ} {spare : List ℕ} {live : List LiveBuffer} {t : Tables} {s : Judge} (l : List Hole) →
    Agrees run new spare live t s → Agrees run new spare live (with_holes l t) s
agrees-holes {new = new} l g = agrees_beside new g (record { page = refl; va = refl; counter = refl; pages = refl; roots = refl }) (λ x e. refl)

-- the counter's id is recorded
pub agrees-counted : {run : Run} {new : ℕ → ℕ} {spare : List ℕ} {live : List LiveBuffer} {t : Tables} {s : Judge} → Agrees run new spare live t s →
    Agrees run new spare live (with_counter (t.fields.counter + 1) t) (with_last s t.fields.counter)
agrees-counted {t = t} g =
    record {
      runs = g.runs;
      page = g.page;
      va = g.va;
      reservations = g.reservations;
      held = g.held;
      aligned = g.aligned;
      mapped = g.mapped;
      active = g.active;
      owned = g.owned;
      buffers = g.buffers;
      last = rw (last-next t.fields.counter);
    }

-- the judge knows of other live buffers
pub agrees-buffers : {run : Run} {new : ℕ → ℕ} {spare : List ℕ} {live live' : List LiveBuffer} {t : Tables} {s : Judge} (bs : List Live) →
    Agrees run new spare live t s → SameBy buffer bs live' → Agrees run new spare live' t (with_live s bs)
agrees-buffers bs g same =
    record {
      runs = g.runs;
      page = g.page;
      va = g.va;
      reservations = g.reservations;
      held = g.held;
      aligned = g.aligned;
      mapped = g.mapped;
      active = g.active;
      owned = g.owned;
      buffers = same;
      last = g.last;
    }
