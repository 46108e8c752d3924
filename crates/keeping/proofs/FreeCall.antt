-- Free: a live buffer that is taken out leaves its range in hand and its pages bare, from where insert free puts both back.
use mathlib.Core.Path.{◌≡◌, refl}
use mathlib.Core.List.{List}
use Prim.Native.Nat.{ℕ, ◌+◌}
use native.Mathlib.Omega.{arith}
use Rattle.lists.specs.Tests.{Member}
use Rattle.lists.specs.Order.{without}
use Rattle.lists.proofs.Members.{member-all, all_without, rises-without, sum-without, length_without}
use Rattle.tables.specs.Values.{Tables, with_live}
use Rattle.tables.specs.InsertFree.{bytes}
use Rattle.tables.specs.Free.{free_steps}
use Rattle.tables.specs.declared.LiveBuffer.{LiveBuffer}
use Rattle.tables.specs.declared.Outcome.TheVariants.{Freed}
use Rattle.keeping.specs.Cover.{within, cover_live}
use Rattle.keeping.specs.Sound.{none, WholeRange, Kept, Left}
use Rattle.keeping.specs.Holds.{Holds}
use Rattle.keeping.proofs.Holds.{holds-from, holds_named, holds_then, holds-give, holds-change}
use Rattle.keeping.proofs.Sounds.{Spans, sound-spans}
use Rattle.keeping.proofs.Counts.{few-spans, few-ceilings, ceilings-few}
use Rattle.keeping.proofs.InsertFree.{Inserting, Inserted, inserts-free}

-- the live buffers but `b`
abbrev others : LiveBuffer → Tables → List LiveBuffer
others b t = without (λ c. c.start.0) b.start.0 t.live

-- what is in hand, and bare, once `b` is taken out
abbrev held : LiveBuffer → ℕ → ℕ
held b x = none x + within b.start.0 b.size x

module _ {lost : ℕ → ℕ} (b : LiveBuffer) (t : Tables) (k : Kept lost t) (m : Member b t.live) where
  covers : (x : ℕ) → within b.start.0 b.size x + cover_live (others b t) x ≡ cover_live t.live x
  covers x = sum-without (λ c. c.start.0) (λ c. within c.start.0 c.size x) 0 b t.live k.sound.live_rises m

  out-spans : Spans none none (held b) (held b) t.free (others b t) t
  out-spans =
      record {
        free = k.sound.free;
        live = all_without (λ c. c.start.0) (λ c. WholeRange t.fields.page c.start.0 c.size) b.start.0 t.live k.sound.live;
        free_rises = k.sound.free_rises;
        live_rises = rises-without (λ c. c.start.0) b.start.0 0 t.live k.sound.live_rises;
        covered = λ x. omega (arith, covers x);
        bared = λ x _. omega (arith, covers x);
        ids = k.sound.ids_once;
        free_ids = k.sound.free_ids;
      }

  pub inserting : Inserting lost none none t.fields.page (bytes t.free) b.start.0 b.size t.free (with_live (others b t) t)
  inserting =
      let fewer = length_without (λ c. c.start.0) 0 b t.live k.sound.live_rises m in
      record {
        sound = sound-spans k.sound out-spans;
        range = member-all (λ c. WholeRange t.fields.page c.start.0 c.size) b t.live m k.sound.live;
        few = few-spans t.free (others b t) (ceilings-few k.ceilings) (omega (arith, fewer, k.ceilings.spans));
        known = record { page = refl; free = refl };
        list = refl;
      }

pub frees : (lost : ℕ → ℕ) (b : LiveBuffer) → Holds (λ t. Kept lost t × Member b t.live) (free_steps b) (λ _. Kept lost) (Left lost)
unfolding free_steps
frees lost b =
    holds_named
    (λ u h. holds_then (λ _. Inserting lost none none u.fields.page (bytes u.free) b.start.0 b.size u.free)
    (holds-change (λ t. with_live (others b t) t) (λ t e. rw e (inserting b u h.0 h.1)))
    (λ _. holds_then (Inserted lost none none u.fields.page (bytes u.free) b.start.0 b.size b.stream u.free)
    (inserts-free lost none none u.fields.page (bytes u.free) b.start.0 b.size b.stream u.free)
    (λ r. holds-from (λ t i. record { sound = i.sound; ceilings = few-ceilings (omega arith) i.few }) (holds-give (Freed b.size b.stream)))))
