-- The records of a close are accepted. Its first record has ended all live buffers; each zombie's range is then unmapped, then each active page is unmapped and
-- its handle, under which no other page lies, released; nothing is mapped when the reservations are given back.
use mathlib.Core.Path.{◌≡◌, refl, ap}
use mathlib.Core.Bool.{true, false, not, ◌&&◌}
use mathlib.Core.List.{List, [], ◌∷◌}
use Prim.Native.Nat.{ℕ, ◌+◌, ◌≤◌, ◌<◌}
use native.Mathlib.Omega.{arith}
use borrow.Author.Tests.{eq-eqb, ne_eqb}
use lib.Dec.{eqb}
use Rattle.lists.specs.Tests.{All, Pairs, any, filter}
use Rattle.lists.proofs.Pairs.{pairs_implies}
use Rattle.words.specs.declared.Address.{Address}
use Rattle.words.specs.declared.Word.TheVariants.{Unmap, Release, Sync, Giveback}
use Rattle.tables.specs.Values.{Tables}
use Rattle.tables.specs.Driver.{try, unmap, release, sync, giveback}
use Rattle.tables.specs.NewPages.{at}
use Rattle.tables.specs.Steps.{◌>>◌, each}
use Rattle.tables.specs.Close.{close_steps}
use Rattle.tables.specs.declared.Page as Pool
use Rattle.tables.specs.declared.Zombie.{Zombie}
use Rattle.tables.specs.declared.Outcome.{Outcome}
use Rattle.keeping.specs.Cover.{within, cover_zombies, handles_at}
use Rattle.keeping.specs.Sound.{none, WholeRange, Kept}
use Rattle.keeping.proofs.Cover.{equal-same}
use Rattle.keeping.proofs.Counting.{none-counted, Parted, once-parted}
use Rattle.judge_rules.specs.Rules.{Judge, is_in, is_under, none_live, R4, R5, R10}
use Rattle.judge_rules.specs.Verdict as Verdict
use Rattle.judge_rules.specs.declared.Run.{Run}
use Rattle.judge_rules.specs.declared.Call.TheVariants.{Close}
use Rattle.agreement.specs.Agrees.{SameBy, reservation, Inside, Agreeing}
use Rattle.agreement.specs.Judges.{Judges}
use Rattle.agreement.proofs.Judges.{judges-from, judges_to, judges_then, judges-known, judges-each, judges_given}
use Rattle.agreement.proofs.Words.{seen, Accepts, judges-try}
use Rattle.agreement.proofs.Same.{same-any, same-filter}
use Rattle.agreement.proofs.ClosePages.{Mapped, range-whole, range-unmapped, page-range, page-whole, none_under, none-mapped}

-- The first is taken out by its key, which no other has.
first_out : {B : Type 0} (key : B → ℕ) (x : B) (l : List B) → All (λ y. key y ≡ key x → ⊥) l → filter (λ y. not (eqb (key y) (key x))) (x ∷ l) ≡ l
first_out {B} key x l a = rw (eq-eqb (key x) (key x) refl) (rest l a)
  where
    rest : (l : List B) → All (λ y. key y ≡ key x → ⊥) l → filter (λ y. not (eqb (key y) (key x))) l ≡ l
    rest [] a = refl
    rest (y ∷ l) a = rw (ne_eqb (key y) (key x) a.0) (ap (λ m. y ∷ m) (rest l a.1))

same_rest : {A B : Type 0} {f : B → A} {l : List A} (key : A → ℕ) (x : B) (m : List B) → SameBy f l (x ∷ m) → All (λ y. key (f y) ≡ key (f x) → ⊥) m →
    SameBy f (filter (λ z. not (eqb (key z) (key (f x)))) l) m
same_rest {f = f} {l} key x m same a =
    rw (first_out (λ y. key (f y)) x m a) at (same-filter same (λ z. not (eqb (key z) (key (f x)))))

module _ (run : Run) (inside : Inside run) (asked : run.asked.call ≡ Close) where
  module _ (p va : ℕ) where
    -- What is left to do: zombies `zs` and pages `gs` to unmap, the handles of `hs` to release, roots `rs` to give back.
    record Closing (zs : List Zombie) (gs hs : List Pool.Page) (rs : List Address) (s : Judge) : Type 0 where
      runs : s.run ≡ run
      zombies : All (λ z. WholeRange p z.start.0 z.size) zs
      mapped : Mapped p (cover_zombies zs) gs s.mapped
      held : SameBy (λ g. g.handle.0) s.held hs
      handles : (h : ℕ) → handles_at hs h ≤ 1
      reservations : SameBy (reservation va) s.reservations rs
      roots : Pairs (λ a b. b.0 ≡ a.0 → ⊥) rs

    module _ (size : run.page ≡ p) (pos : 0 < p) where
      closing-inside : (s : Judge) → s.run ≡ run → Inside s.run
      closing-inside s e = rw e inside

      closing-seen : (s : Judge) → s.run ≡ run → seen s ≡ Verdict.with_live s []
      closing-seen s e = rw (e, asked)

      syncs : {zs : List Zombie} {gs hs : List Pool.Page} {rs : List Address} (s : Judge) → Closing zs gs hs rs s → Accepts Sync 0 0 s (Closing zs gs hs rs)
      unfolding Verdict.recorded
      syncs s c =
          record {
            inside = closing-inside s c.runs;
            state = Verdict.with_live s [];
            accepts = ap Verdict.on (closing-seen s c.runs);
            holds =
                record {
                  runs = c.runs;
                  zombies = c.zombies;
                  mapped = c.mapped;
                  held = c.held;
                  handles = c.handles;
                  reservations = c.reservations;
                  roots = c.roots;
                };
          }

      meets-unmap : (a n : ℕ) (f : ℕ → ℕ) (gs : List Pool.Page) (s : Judge) → s.run ≡ run → WholeRange p a n → Mapped p (λ x. within a n x + f x) gs s.mapped →
          Verdict.recorded Unmap (seen s) a n ≡ Verdict.on (Verdict.unmapped (Verdict.with_live s []) a n)
      unfolding Verdict.recorded Verdict.ruled R4 none_live
      meets-unmap a n f gs s e w m = rw (closing-seen s e, e, size, range-whole a n f m pos w)

      unmaps-zombie : (z : Zombie) (zs : List Zombie) {gs hs : List Pool.Page} {rs : List Address} (s : Judge) → Closing (z ∷ zs) gs hs rs s →
          Accepts Unmap z.start.0 z.size s (Closing zs gs hs rs)
      unmaps-zombie z zs {gs} s c =
          record {
            inside = closing-inside s c.runs;
            state = Verdict.unmapped (Verdict.with_live s []) z.start.0 z.size;
            accepts = meets-unmap z.start.0 z.size (cover_zombies zs) gs s c.runs c.zombies.0 c.mapped;
            holds =
                record {
                  runs = c.runs;
                  zombies = c.zombies.1;
                  mapped = range-unmapped z.start.0 z.size (cover_zombies zs) c.mapped;
                  held = c.held;
                  handles = c.handles;
                  reservations = c.reservations;
                  roots = c.roots;
                };
          }

      unmaps-page : (g : Pool.Page) (gs hs : List Pool.Page) {rs : List Address} (s : Judge) → Closing [] (g ∷ gs) hs rs s → Accepts Unmap (at g) p s (Closing [] gs hs rs)
      unmaps-page g gs hs s c =
          let m = page-range p g pos c.mapped in
          record {
            inside = closing-inside s c.runs;
            state = Verdict.unmapped (Verdict.with_live s []) (at g) p;
            accepts = meets-unmap (at g) p none gs s c.runs (page-whole pos c.mapped.starts.0) m;
            holds =
                record {
                  runs = c.runs;
                  zombies = tt;
                  mapped = range-unmapped (at g) p none m;
                  held = c.held;
                  handles = c.handles;
                  reservations = c.reservations;
                  roots = c.roots;
                };
          }

      meets-release : (k : ℕ) (s : Judge) → s.run ≡ run → is_in k s.held ≡ true → is_under s.mapped k ≡ false →
          Verdict.recorded Release (seen s) k 0 ≡ Verdict.on (Verdict.released (Verdict.with_live s []) k)
      unfolding Verdict.recorded Verdict.ruled R5
      meets-release k s e h u = rw (closing-seen s e, h, u)

      releases : (g : Pool.Page) (gs : List Pool.Page) {rs : List Address} (s : Judge) → Closing [] gs (g ∷ gs) rs s →
          Accepts Release g.handle.0 0 s (Closing [] gs gs rs)
      releases g gs s c =
          record {
            inside = closing-inside s c.runs;
            state = Verdict.released (Verdict.with_live s []) g.handle.0;
            accepts =
                meets-release g.handle.0 s c.runs (same-any c.held (λ k. eqb k g.handle.0) (rw (eq-eqb g.handle.0 g.handle.0 refl)))
                (none_under c.mapped g.handle.0 others);
            holds =
                record {
                  runs = c.runs;
                  zombies = tt;
                  mapped = c.mapped;
                  held = same_rest (λ h. h) g gs c.held others;
                  handles = λ h. omega (arith, c.handles h);
                  reservations = c.reservations;
                  roots = c.roots;
                };
          }
        where
          others : All (λ k. k.handle.0 ≡ g.handle.0 → ⊥) gs
          others = none-counted (λ (k : Pool.Page). k.handle.0) g.handle.0 gs (omega (arith, c.handles g.handle.0, equal-same g.handle.0))

      meets-giveback : (a : ℕ) (s : Judge) → s.run ≡ run → any (λ r. eqb r.base a && eqb r.size va) s.reservations ≡ true → s.mapped ≡ [] →
          Verdict.recorded Giveback (seen s) a va ≡ Verdict.on (Verdict.given_back (Verdict.with_live s []) a)
      unfolding Verdict.recorded Verdict.ruled R10
      meets-giveback a s e h m = rw (closing-seen s e, h, m)

      gives_back : (a : Address) (rs : List Address) (s : Judge) → Closing [] [] [] (a ∷ rs) s → Accepts Giveback a.0 va s (Closing [] [] [] rs)
      gives_back a rs s c =
          record {
            inside = closing-inside s c.runs;
            state = Verdict.given_back (Verdict.with_live s []) a.0;
            accepts =
                meets-giveback a.0 s c.runs
                (same-any c.reservations (λ r. eqb r.base a.0 && eqb r.size va) (rw (eq-eqb a.0 a.0 refl, eq-eqb va va refl)))
                (none-mapped p s.mapped c.mapped);
            holds =
                record {
                  runs = c.runs;
                  zombies = tt;
                  mapped = c.mapped;
                  held = c.held;
                  handles = c.handles;
                  reservations = same_rest (λ r. r.base) a rs c.reservations c.roots.0;
                  roots = c.roots.1;
                };
          }

      closes : (zs : List Zombie) (gs : List Pool.Page) (rs : List Address) {E : Outcome → Tables → Judge → Type 0} → Judges (λ t s. Closing zs gs gs rs s)
          (do
            try (sync 0)
            each (λ z. try (unmap z.start.0 z.size)) zs
            each (λ g. try (unmap (at g) p) >> try (release g.handle.0)) gs
            each (λ a. try (giveback a.0 va)) rs)
          (λ _ t s. Closing [] [] [] [] s) E
      unfolding sync unmap release giveback
      closes zs gs rs =
          judges_then (λ _ t s. Closing zs gs gs rs s) (judges-try Sync 0 0 (λ _. refl) (λ t s c few. syncs s c)) (λ _.
          judges_then (λ _ t s. Closing [] gs gs rs s)
          (judges-each (λ zs t s. Closing zs gs gs rs s) (λ z zs. judges-try Unmap z.start.0 z.size (λ _. refl) (λ t s c few. unmaps-zombie z zs s c)) zs) (λ _.
          judges_then (λ _ t s. Closing [] [] [] rs s)
          (judges-each (λ gs t s. Closing [] gs gs rs s) (λ g gs.
          judges_then (λ _ t s. Closing [] gs (g ∷ gs) rs s) (judges-try Unmap (at g) p (λ _. refl) (λ t s c few. unmaps-page g gs (g ∷ gs) s c))
          (λ _. judges-try Release g.handle.0 0 (λ _. refl) (λ t s c few. releases g gs s c))) gs) (λ _.
          judges-each (λ rs t s. Closing [] [] [] rs s) (λ a rs. judges-try Giveback a.0 va (λ _. refl) (λ t s c few. gives_back a rs s c)) rs)))

  -- The tables `u` do not change during a close.
  pub judges-close_steps : (lost : ℕ → ℕ) (u : Tables) → Kept lost u → {E : Outcome → Tables → Judge → Type 0} →
      Judges (λ t s. (t ≡ u) × Agreeing run none [] u s) close_steps (λ _ t s. s.run ≡ run) E
  unfolding close_steps
  judges-close_steps lost u k {E} =
      judges-from (λ t s q. (q.1.page, (q.0, begins s q.1))) (judges_given known)
    where
      begins : (s : Judge) → Agreeing run none [] u s → Closing u.fields.page u.fields.va u.zombies u.pages u.pages u.roots s
      begins s g =
          record {
            runs = g.runs;
            zombies = k.sound.zombies;
            mapped =
                record {
                  aligned = g.aligned;
                  counted = λ x e. omega (arith, g.mapped x e, k.sound.pages_match x e);
                  once = λ x e. omega (arith, k.sound.pages_match x e, k.sound.covered x, k.sound.roots_once x);
                  active = g.active;
                  starts = k.sound.pages;
                };
            held = record { sums = λ w. omega (arith, g.held w) };
            handles = k.sound.handles_once;
            reservations = g.reservations;
            roots =
                pairs_implies (Parted (λ (a : Address). a.0) (λ a. u.fields.va)) (λ a b. b.0 ≡ a.0 → ⊥) (λ a b q e. omega (arith, q, e, k.sound.va.positive))
                u.roots (once-parted (λ (a : Address). a.0) (λ a. u.fields.va) u.roots k.sound.roots_once);
          }

      known : (size : run.page ≡ u.fields.page) →
          Judges (λ t s. (t ≡ u) × Closing u.fields.page u.fields.va u.zombies u.pages u.pages u.roots s) close_steps (λ _ t s. s.run ≡ run) E
      known size =
          judges-known u (λ w e. rw e
          (judges-from (λ t s q. q.1) (judges_to (λ _ t s c. c.runs)
          (closes u.fields.page u.fields.va size k.sound.page u.zombies u.pages u.roots))))
