-- Cleanup: a zombie's event was recorded, so it may be asked for; its pages are mapped and no live buffer lies over them, so they may be unmapped, and
-- no other page goes with them.
use mathlib.Core.Path.{◌≡◌, refl, ap, sym, ◌∙◌, subst}
use mathlib.Core.Bool.{true, cond, not}
use mathlib.Core.List.{[]}
use Prim.Native.Nat.{ℕ, zero, suc, ◌+◌, ◌-◌, ◌≤◌, ◌<◌, ◌%◌}
use native.Mathlib.Omega.{arith}
use lib.ListN.{length, get_or}
use Rattle.lists.specs.Tests.{Member}
use Rattle.lists.specs.Places.{swap_out}
use Rattle.lists.proofs.Tests.{all-at, all_filter}
use Rattle.lists.proofs.Members.{all-members, member-all, filter-member, sum-member}
use Rattle.lists.proofs.Swap.{sum-swap_out, all-swap_out, length-swap_out}
use Rattle.words.specs.declared.Word.TheVariants.{Unmap}
use Rattle.tables.specs.Values.{Tables, with_zombies, with_holes, empty_zombie}
use Rattle.tables.specs.Steps.{◌>>=◌, ◌>>◌}
use Rattle.tables.specs.Driver.{is_complete, unmap}
use Rattle.tables.specs.InsertHole.{insert_hole}
use Rattle.tables.specs.Cleanup.{clean, walk, cleanup}
use Rattle.tables.specs.declared.Page as Pool
use Rattle.tables.specs.declared.Zombie.{Zombie}
use Rattle.tables.specs.declared.Outcome.{Outcome}
use Rattle.keeping.specs.Cover.{within, equal, cover_zombies, pages_at}
use Rattle.keeping.specs.Sound.{none, WholeRange, Sound, Kept, Left}
use Rattle.keeping.specs.Counts.{Few, Known}
use Rattle.keeping.proofs.Cover.{within_in, equal-same}
use Rattle.keeping.proofs.Sounds.{sound-once, sound-zombies, sound-hole}
use Rattle.keeping.proofs.Cleanup.{cleans_up}
use Rattle.judge_rules.specs.Ranges.{inside}
use Rattle.judge_rules.specs.Rules.{Judge, R4}
use Rattle.judge_rules.specs.Verdict.{recorded, ruled, unmapped}
use Rattle.judge_rules.specs.declared.Run.{Run}
use Rattle.agreement.specs.Agrees.{mapping, Serving, Agreeing}
use Rattle.agreement.specs.Judges.{Judges}
use Rattle.agreement.proofs.Judges.{judges-from, judges-named, judges-and, judges_then, judges-give, judges-known, judges-change, judges-cond}
use Rattle.agreement.proofs.Words.{Accepts, judges-try, judges-is_complete}
use Rattle.agreement.proofs.Meets.{whole-mapped, none-live, agrees-inside, agrees-seen, agrees-asked}
use Rattle.agreement.proofs.Counted.{inside-none, mapped-without}

module _ {run : Run} (serving : Serving run) (lost : ℕ → ℕ) where
  -- One zombie, at place `i` of the tables `u`.
  module _ (i : ℕ) (u : Tables) (w : Sound lost none none u) (v : Judge) (g : Agreeing run none [] u v) (h : i < length u.zombies) where
    abbrev z : Zombie
    z = get_or u.zombies i empty_zombie

    abbrev a : ℕ
    a = z.start.0

    abbrev n : ℕ
    n = z.size

    abbrev left : Tables
    left = with_zombies (swap_out i u.zombies) u

    zombies : (x : ℕ) → within a n x + cover_zombies (swap_out i u.zombies) x ≡ cover_zombies u.zombies x
    zombies x = sum-swap_out (λ y. within y.start.0 y.size x) u.zombies i empty_zombie h

    range : WholeRange u.fields.page a n
    range = all-at _ u.zombies i empty_zombie w.zombies h

    page : v.run.page ≡ u.fields.page
    page = ap (λ (r : Run). r.page) g.runs ∙ g.page

    -- the tables once it is out: its range is in hand
    out : Sound lost (within a n) none left
    out =
        sound-zombies w (swap_out i u.zombies) (all-swap_out _ u.zombies i empty_zombie w.zombies h)
        (λ x. omega (arith, zombies x)) (all-swap_out _ u.zombies i empty_zombie w.zombie_ids h)

    -- its pages are mapped, and none is live
    meets : R4 v a n ≡ true
    unfolding R4
    meets =
        let whole = whole-mapped u.fields.page a n v.mapped w.page range (λ x e p q. omega (arith, g.mapped x e, zombies x, within_in a n x p q)) in
        let clear = none-live u.fields.page a n v.live u.live g.buffers range.size.positive w.live (λ x. omega (arith, sound-once w x, zombies x)) in
        rw (page, whole, clear)

    -- an active page is no zombie's
    active-stays : (q : Pool.Page) → Member q u.pages → Member (mapping q) (unmapped v a n).mapped
    active-stays q m =
        let x = q.start.0 in
        let e : x % u.fields.page ≡ 0 = (member-all _ q u.pages m w.pages).aligned in
        let some : 1 ≤ pages_at u.pages x = omega (arith, sum-member (λ (k : Pool.Page). equal k.start.0 x) q u.pages m, equal-same x) in
        let far : within a n x ≡ 0 = omega (arith, w.pages_match x e, sound-once w x, zombies x) in
        filter-member (λ k. not (inside a n k.at)) (mapping q) v.mapped (member-all _ q u.pages m g.active) (rw (inside-none a n x far))

    agrees-unmapped : Agreeing run none [] (with_holes (insert_hole a n u.holes) left) (unmapped v a n)
    agrees-unmapped =
        record {
          runs = g.runs;
          page = g.page;
          va = g.va;
          reservations = g.reservations;
          held = g.held;
          aligned = all_filter _ _ v.mapped g.aligned;
          mapped = λ x e. omega (arith, g.mapped x e, zombies x, mapped-without a n v.mapped x (omega (arith, g.mapped x e, sound-once w x)) (omega (arith, g.mapped x e, zombies x)));
          active = all-members _ u.pages active-stays;
          owned = all_filter _ _ v.mapped g.owned;
          buffers = g.buffers;
          last = g.last;
        }

    sound-cleaned : Sound lost none none (with_holes (insert_hole a n u.holes) left)
    sound-cleaned = sound-hole out a n (λ x. omega arith) (λ _. range)

    pub cleans : {E : Outcome → Tables → Judge → Type 0} →
        Judges (λ t s. (t ≡ u) × (s ≡ v)) (clean i z) (λ _ t s. Sound lost none none t × (Agreeing run none [] t s × (length t.zombies ≡ length u.zombies - 1))) E
    unfolding clean unmap recorded ruled
    cleans =
        judges_then (λ _ t s. (t ≡ left) × (s ≡ v)) (judges-change _ (λ t s q. (ap (λ x. with_zombies (swap_out i x.zombies) x) q.0, q.1))) (λ _.
        judges_then (λ _ t s. (t ≡ left) × (s ≡ unmapped v a n))
        (judges-try Unmap a n (λ _. refl) (λ t s q few. subst (λ s. Accepts Unmap a n s (λ y. (t ≡ left) × (y ≡ unmapped v a n))) (sym q.1)
        (record { inside = agrees-inside serving g; state = unmapped v a n; accepts = rw (agrees-seen serving g, meets); holds = (q.0, refl) }))) (λ _.
        judges-change _ (λ t s q. rw (q.0, q.1) (sound-cleaned, (agrees-unmapped, length-swap_out i u.zombies)))))

  -- `n` zombies are still to be asked: those from place `i` on
  walks : (n i : ℕ) {E : Outcome → Tables → Judge → Type 0} →
      Judges (λ t s. Sound lost none none t × (Agreeing run none [] t s × (length t.zombies ≡ i + n))) (walk n i) (λ _. Agreeing run none []) E
  walks zero i = judges-from (λ t s q. q.1.0) (judges-give tt)
  walks (suc n) i {E} = judges-named (λ u v q. judges-known u (λ x e. rw e (one u v q.0 q.1.0 q.1.1 (walks n i) (walks n (i + 1)))))
    where
      one : (u : Tables) (v : Judge) → Sound lost none none u → Agreeing run none [] u v → length u.zombies ≡ i + suc n →
          Judges (λ t s. Sound lost none none t × (Agreeing run none [] t s × (length t.zombies ≡ i + n))) (walk n i) (λ _. Agreeing run none []) E →
          Judges (λ t s. Sound lost none none t × (Agreeing run none [] t s × (length t.zombies ≡ i + 1 + n))) (walk n (i + 1)) (λ _. Agreeing run none []) E →
          Judges (λ t s. (t ≡ u) × (s ≡ v))
          (is_complete (get_or u.zombies i empty_zombie).id.0 >>= λ c. cond c (clean i (get_or u.zombies i empty_zombie) >> walk n i) (walk n (i + 1))) (λ _. Agreeing run none []) E
      one u v w g len stay next =
          let z = get_or u.zombies i empty_zombie in
          let known : z.id.0 < u.fields.counter = all-at _ u.zombies i empty_zombie w.zombie_ids (omega arith) in
          judges_then (λ _ t s. (t ≡ u) × (s ≡ v)) (judges-is_complete z.id.0 (λ t s q. rw q.1 (agrees-asked serving g z.id.0 known))) (λ c.
          judges-cond c
          (λ _. judges_then _ (cleans i u w v g (omega arith)) (λ _. judges-from (λ t s q. (q.0, (q.1.0, omega (arith, q.1.1)))) stay))
          (λ _. judges-from (λ t s q. rw (q.0, q.1) (w, (g, omega arith))) next))

  walks-all : {E : Outcome → Tables → Judge → Type 0} → Judges (λ t s. Sound lost none none t × Agreeing run none [] t s) cleanup (λ _. Agreeing run none []) E
  unfolding cleanup
  walks-all =
      judges-named (λ u v q.
      judges-known u (λ x e. rw e (judges-from (λ t s k. rw (k.0, k.1) (q.0, (q.1, omega arith))) (walks (length u.zombies) 0))))

  pub judges-cleanup : (p f c : ℕ) {E : Outcome → Tables → Judge → Type 0} →
      Judges (λ t s. (Kept lost t × (Few 0 c t × Known p f t)) × Agreeing run none [] t s) cleanup
      (λ _ t s. (Kept lost t × (Few 0 c t × Known p f t)) × Agreeing run none [] t s) (λ o t s. Left lost o t × E o t s)
  judges-cleanup p f c = judges-and (cleans_up lost p f c) (judges-from (λ t s q. (q.0.0.sound, q.1)) walks-all)
