-- Taking a range: the low part of a hole comes into the hand, or that of a new root, whose rest becomes a hole. Of a new root nothing is held by any
-- table, so its rest starts a hole of its own, which a rollback only makes larger.
use mathlib.Core.Path.{◌≡◌, refl}
use mathlib.Core.Logic.{◌⊎◌, inl, inr, ⊎_elim}
use mathlib.Core.Bool.{true, false, not}
use mathlib.Core.List.{List, [], ◌∷◌, ◌++◌}
use mathlib.Core.Option.{Option, some, none}
use Prim.Native.Nat.{ℕ, ◌+◌, ◌-◌, ◌≤◌, ◌<◌, ◌%◌}
use native.Mathlib.Omega.{arith}
use borrow.Author.Tests.{leb-true, eqb-true, eqb-false, not-true, not-false}
use lib.Dec.{leb, eqb}
use lib.ListN.{length, length-append}
use Rattle.lists.specs.Tests.{every}
use Rattle.lists.proofs.Tests.{both, either, cases_lt, cases_eq}
use Rattle.lists.proofs.Members.{member-all}
use Rattle.words.specs.Answers.{value_of, failed}
use Rattle.words.specs.declared.Address.{Address}
use Rattle.tables.specs.Bounds.{END, ROOTS, VA}
use Rattle.tables.specs.Values.{Tables, address, with_holes, with_roots}
use Rattle.tables.specs.InsertHole.{from, insert_hole}
use Rattle.tables.specs.TakeRange.{smallest_hole, cut_hole, apart, credible, reserve_root, take_hole, take_range}
use Rattle.tables.specs.declared.Hole.{Hole}
use Rattle.tables.specs.declared.Outcome.TheVariants.{ReserveFailed, Incredible}
use Rattle.keeping.specs.Cover.{within, cover_holes, cover_roots}
use Rattle.keeping.specs.Sound as S
use Rattle.keeping.specs.Sound.{Whole, WholeRange, Sound, Kept, Left}
use Rattle.keeping.specs.Counts.{Making}
use Rattle.keeping.specs.Holds.{Holds}
use Rattle.keeping.specs.MakeRoom.{TakesFrom}
use Rattle.keeping.proofs.Cover.{within_le, within_out, within_cut}
use Rattle.keeping.proofs.Whole.{whole_upper}
use Rattle.keeping.proofs.Holes.{
  hole-none,
  length-hole,
  starts-hole,
  ends_nowhere,
  length-hole_touch,
  member-smallest_hole,
  cover-cut_hole,
  apart-cut_hole,
  all-cut_hole,
  length-cut_hole,
}
use Rattle.keeping.proofs.Sounds.{sound-holes, sound-root, hand_once, sound-hole}
use Rattle.keeping.proofs.Counts.{few-ceilings}
use Rattle.keeping.proofs.Holds.{holds_then, holds_looked, holds-change, holds-end_if, holds_drive, holds-give, holds_to, drives-reserve}

-- a base that overlaps no root: none of its addresses is in one
clear-roots : (va b x : ℕ) (l : List Address) → every (λ a. apart va b a.0) l ≡ true → b ≤ x → x < b + va → cover_roots va l x ≡ 0
clear-roots va b x [] e p q = refl
clear-roots va b x (a ∷ l) e p q =
    let f = both (apart va b a.0) (every (λ a. apart va b a.0) l) e in
    omega (arith, within_out a.0 va x (out (either (leb (b + va) a.0) (leb (a.0 + va) b) f.0)), clear-roots va b x l f.1 p q)
  where
    out : (leb (b + va) a.0 ≡ true) ⊎ (leb (a.0 + va) b ≡ true) → (x < a.0) ⊎ (a.0 + va ≤ x)
    out (inl h) = inl (omega (arith, leb-true (b + va) a.0 h))
    out (inr h) = inr (omega (arith, leb-true (a.0 + va) b h))

record Credible (b : ℕ) (t : Tables) : Type 0 where
  start : Whole t.fields.page b
  fits : b + t.fields.va ≤ END
  fresh : (x : ℕ) → b ≤ x → x < b + t.fields.va → cover_roots t.fields.va t.roots x ≡ 0

is-credible : (b : ℕ) (t : Tables) → t.fields.va ≤ VA → credible b t ≡ true → Credible b t
unfolding credible
is-credible b t small e =
    let f = both (not (eqb b 0)) _ e in
    let g = both (eqb (b % t.fields.page) 0) _ f.1 in
    let h = both (leb b (END - t.fields.va)) _ g.1 in
    record {
      start = record { positive = omega (arith, eqb-false b 0 (not-true (eqb b 0) f.0)); aligned = eqb-true (b % t.fields.page) 0 g.0 };
      fits = omega (arith, leb-true b (END - t.fields.va) h.0);
      fresh = λ x. clear-roots t.fields.va b x t.roots h.1;
    }

-- a root at `b` is added to the tables `u`, its rest after `n` bytes a hole
abbrev pub rooted : ℕ → ℕ → Tables → Tables
rooted n b u = with_holes (insert_hole (b + n) (u.fields.va - n) u.holes) (with_roots (u.roots ++ address b ∷ []) u)

pub record Reserved (lost : ℕ → ℕ) (n : ℕ) (u : Tables) (b : ℕ) (t : Tables) : Type 0 where
  pub tables : t ≡ rooted n b u
  pub sound : Sound lost (within b n) S.none t
  pub start : Whole t.fields.page b
  pub fresh : (x : ℕ) → b ≤ x → x < b + u.fields.va → cover_roots u.fields.va u.roots x ≡ 0

module _ (lost : ℕ → ℕ) (n : ℕ) (u : Tables) (kept : Kept lost u) (most : n ≤ u.fields.va) (size : (n ≡ 0) ⊎ Whole u.fields.page n) where
  sound-rooted : (b : ℕ) → Credible b u → Sound lost (within b n) S.none (rooted n b u)
  sound-rooted b c =
      sound-hole (sound-root kept.sound b c.start c.fits once)
      (b + n) (u.fields.va - n) (λ x. omega (arith, within_cut b u.fields.va n x most)) (rest size)
    where
      once : (x : ℕ) → within b u.fields.va x + cover_roots u.fields.va u.roots x ≤ 1
      once x =
          ⊎_elim
          (λ p. omega (arith, within_out b u.fields.va x (inl p), kept.sound.roots_once x))
          (λ p.
          ⊎_elim
          (λ q. omega (arith, c.fresh x p q, within_le b u.fields.va x))
          (λ q. omega (arith, within_out b u.fields.va x (inr q), kept.sound.roots_once x))
          (cases_lt x (b + u.fields.va)))
          (cases_lt x b)

      rest : (n ≡ 0) ⊎ Whole u.fields.page n → 0 < u.fields.va - n → WholeRange u.fields.page (b + n) (u.fields.va - n)
      rest (inl e) p =
          let f : b + n ≡ b = omega arith in
          let g : u.fields.va - n ≡ u.fields.va = omega arith in
          rw (f, g) (record { start = c.start; size = kept.sound.va })
      rest (inr w) p = whole_upper n (record { start = c.start; size = kept.sound.va }) w.aligned (omega arith)

  pub reserves-root : Holds (λ t. t ≡ u) (reserve_root n) (Reserved lost n u) (Left lost)
  unfolding reserve_root
  reserves-root =
      holds_looked
      (λ v e. rw e
      (holds_then (λ _ t. t ≡ u) (holds_drive (drives-reserve u.fields.va) (λ t q. tt))
      (λ x.
      let b = value_of x in
      holds_then (λ _ t. t ≡ u) (holds_to (λ _ t q. q.0) (holds-end_if (failed x) (ReserveFailed u.fields.va u.fields.page) (λ t q _. rw q kept)))
      (λ _. holds_then (λ _ t. (t ≡ u) × (not (credible b u) ≡ false)) (holds-end_if (not (credible b u)) Incredible (λ t q _. rw q kept.ceilings))
      (λ _. holds_then (λ _ t. (t ≡ with_roots (u.roots ++ address b ∷ []) u) × Credible b u)
      (holds-change _ (λ t q. (rw q.0, is-credible b u kept.sound.small (not-false (credible b u) q.1))))
      (λ _. holds_then (λ _. Reserved lost n u b) (holds-change _ (λ t q. rw q.0 (reserved b q.1))) (λ _. holds-give b)))))))
    where
      reserved : (b : ℕ) → Credible b u → Reserved lost n u b (rooted n b u)
      reserved b c = record { tables = refl; sound = sound-rooted b c; start = c.start; fresh = c.fresh }

pub record TakenRange (lost : ℕ → ℕ) (p f k n a : ℕ) (t : Tables) : Type 0 where
  pub sound : Sound lost (within a n) S.none t
  pub start : Whole t.fields.page a
  pub making : Making p f k a n t

module _ (lost : ℕ → ℕ) (p f k n : ℕ) (u : Tables) (given : TakesFrom lost p f k n u) where
  -- a reinsertion may cost the hole that was left over: one was left below the ceiling
  taken-hole : (h : Hole) → smallest_hole n u.holes ≡ some h → TakenRange lost p f k n (from h) (with_holes (cut_hole n (from h) u.holes) u)
  taken-hole h e =
      let m = member-smallest_hole n h u.holes e in
      let apart = given.sound.holes_apart in
      record {
        sound =
            sound-holes given.sound (cut_hole n (from h) u.holes)
            (all-cut_hole u.fields.page n 0 END h u.holes apart m.0 m.1 given.size given.sound.holes)
            (apart-cut_hole n 0 END h u.holes apart m.0 m.1)
            (λ x. omega (arith, cover-cut_hole n 0 END h u.holes x apart m.0 m.1));
        start = (member-all _ h u.holes m.0 given.sound.holes).start;
        making =
            record {
              few =
                  record {
                    pages = given.few.pages;
                    spans = given.few.spans;
                    zombies = given.few.zombies;
                    holes = omega (arith, given.holes, length-cut_hole n (from h) u.holes);
                    roots = given.few.roots;
                  };
              pullable = record { zombies = given.zombies; holes = omega (arith, given.holes, length-cut_hole n (from h) u.holes) };
              back = omega (arith, given.holes, length-cut_hole n (from h) u.holes, length-hole (from h) n (cut_hole n (from h) u.holes));
              known = record { page = given.known.page; free = given.known.free };
            };
      }

  -- the holes, with the rest of a root at `b`
  abbrev rest : ℕ → List Hole
  rest b = insert_hole (b + n) (u.fields.va - n) u.holes

  taken-root : length u.roots < ROOTS → (b : ℕ) (t : Tables) → Reserved lost n u b t → TakenRange lost p f k n b t
  taken-root room b t r = rw r.tables (taken (rw r.tables at r.sound) (rw r.tables at r.start))
    where
      touches : 0 < u.fields.va - n → Sound lost (within b n) S.none (rooted n b u) → length (insert_hole b n (rest b)) ≤ length (rest b)
      touches q s =
          let x = b + n - 1 in
          let y : x + 1 ≡ b + n = omega arith in
          let bare : cover_holes u.holes x ≡ 0 = omega (arith, given.sound.covered x, r.fresh x (omega arith) (omega arith)) in
          length-hole_touch b n 0 END (rest b) s.holes_apart (hand_once s b n (λ x. omega arith))
          (starts-hole (b + n) (u.fields.va - n) u.holes q (rw y at (ends_nowhere x 0 END u.holes given.sound.holes_apart bare)))

      -- the rest starts a hole of its own, or there is none
      back : Sound lost (within b n) S.none (rooted n b u) → length (insert_hole b n (rest b)) ≤ length u.holes + 1
      back s =
          ⊎_elim
          (λ e. rw (hole-none (b + n) (u.fields.va - n) u.holes e) (omega (arith, length-hole b n u.holes)))
          (λ e. omega (arith, touches (omega arith) s, length-hole (b + n) (u.fields.va - n) u.holes))
          (cases_eq (u.fields.va - n) 0)

      taken : Sound lost (within b n) S.none (rooted n b u) → Whole u.fields.page b → TakenRange lost p f k n b (rooted n b u)
      taken s w =
          record {
            sound = s;
            start = w;
            making =
                record {
                  few =
                      record {
                        pages = given.few.pages;
                        spans = given.few.spans;
                        zombies = given.few.zombies;
                        holes = omega (arith, given.holes, length-hole (b + n) (u.fields.va - n) u.holes);
                        roots = omega (arith, length-append u.roots (address b ∷ []));
                      };
                  pullable = record { zombies = given.zombies; holes = omega (arith, given.holes, length-hole (b + n) (u.fields.va - n) u.holes) };
                  back = omega (arith, given.holes, back s);
                  known = record { page = given.known.page; free = given.known.free };
                };
          }

  takes : (o : Option Hole) → smallest_hole n u.holes ≡ o → Holds (λ t. t ≡ u) (take_hole n o) (TakenRange lost p f k n) (Left lost)
  unfolding take_hole
  takes none e =
      holds_to (taken-root (given.root (rw e)))
      (reserves-root lost n u (record { sound = given.sound; ceilings = few-ceilings (omega arith) given.few }) given.most (inr given.size))
  takes (some h) e = holds_then (λ _. TakenRange lost p f k n (from h)) (holds-change _ (λ t q. rw q (taken-hole h e))) (λ _. holds-give (from h))

pub takes-range : (lost : ℕ → ℕ) (p f k n : ℕ) → Holds (TakesFrom lost p f k n) (take_range n) (TakenRange lost p f k n) (Left lost)
unfolding take_range
takes-range lost p f k n = holds_looked (λ u given. takes lost p f k n u given (smallest_hole n u.holes) refl)
