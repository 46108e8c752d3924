-- What each rule keeps of the live buffers: R1, that reservations are apart; R2 and R5, which creation a handle is from; R3 and R4, what a page shows; R7, that
-- buffers are apart, in addresses and in handles; R10, the reservation under a page.
use mathlib.Core.Path.{◌≡◌, refl, ap, sym, ◌∙◌}
use mathlib.Core.Bool.{Bool, true, false, cond, ◌&&◌, not, false≢true}
use mathlib.Core.Logic.{inl, inr, ⊎_elim}
use mathlib.Core.List.{List, [], ◌∷◌, map}
use mathlib.Core.Option.{Option, none, some}
use Prim.Native.Nat.{ℕ, ◌+◌, ◌%◌, ◌<◌}
use native.Mathlib.Omega.{arith}
use borrow.Author.Tests.{eqb-true, eqb-false, leb-true, not-true, ne_eqb}
use lib.Dec.{leb, eqb}
use Rattle.lists.specs.Tests.{All, Pairs, Member, every, any, filter, distinct}
use Rattle.lists.proofs.Tests.{cases_eq, both, either, all_implies, all_both, all_filter}
use Rattle.lists.proofs.Every.{every-all}
use Rattle.lists.proofs.Members.{member-all, all-members, filter-member}
use Rattle.judge_rules.specs.Ranges.{inside, clear, pages}
use Rattle.judge_rules.specs.Rules.{Reservation, Judge, is_in, is_mapped, is_under, aligned, whole_pages, none_live, credible, in_reservation, R1, R2, R3, R4, R5, R10}
use Rattle.judge_rules.specs.SoFar.{Held, Mapped}
use Rattle.judge_rules.specs.Meaning.{Shown, created_by, shown_by, from, Buffer, handles, Holds, NoAddress, NoReserved, NoHandle, Within, Sound}
use Rattle.judge_rules.specs.Exactly.{plain_page, plain}
use Rattle.judge_rules.specs.declared.Run.{Run}
use Rattle.judge_rules.proofs.PageLaws.{inside_is, is-inside, clear_apart, pages-in, is_some, some-none, some-not, carry, pairs-filter}
use Rattle.judge_rules.proofs.Shows.{lookup-filter, lookup_key, created-held, Owned, shown-mapped, created-stays, under_none}

-- A buffer whose pages show what they showed.
pub record Same (p : ℕ) (u : ℕ → Option Shown) (b : Buffer) : Type 0 where
  pub whole : (b.start % p ≡ 0) × (b.size % p ≡ 0)
  pub same : map u (pages p b.start b.size) ≡ map some b.shown

-- What is said of the live buffers without the reservations.
pub record Firm (p : ℕ) (u : ℕ → Option Shown) (bs : List Buffer) : Type 0 where
  pub apart : Pairs NoAddress bs
  pub kept : All (Same p u) bs
  pub own : Pairs NoHandle bs
  pub once : All (λ b. distinct (handles b) ≡ true) bs

-- What is so as long as nothing is wrong: every mapped page is to a held handle and lies in a reservation, which are apart; and the live buffers are firm.
pub record Upheld (p : ℕ) (rs : List Reservation) (cs : List Held) (ms : List Mapped) (bs : List Buffer) : Type 0 where
  pub owned : Owned cs ms
  pub placed : All (λ m. Within p rs m.at) ms
  pub sized : All (λ r. 0 < r.size) rs
  pub reserved : Pairs NoReserved rs
  pub firm : Firm p (shown_by cs ms) bs

-- So a page of a live buffer, which shows something, is mapped, and lies in a reservation.
all_shown : (u : ℕ → Option Shown) (P : ℕ → Type 0) → ((x : ℕ) (s : Shown) → u x ≡ some s → P x) → (xs : List ℕ) (hs : List Shown) → map u xs ≡ map some hs → All P xs
all_shown u P f [] hs e = tt
all_shown u P f (x ∷ xs) [] e = let z : ◌≡◌ {A = ℕ} 0 1 = cc in absurd (omega arith)
all_shown u P f (x ∷ xs) (k ∷ hs) e = (f x k cc, all_shown u P f xs hs cc)

pub sound-of : {p : ℕ} {rs : List Reservation} {cs : List Held} {ms : List Mapped} {bs : List Buffer} → Upheld p rs cs ms bs → Sound p (shown_by cs ms) rs bs
sound-of {p = p} {rs = rs} {cs = cs} {ms = ms} {bs = bs} g =
    record {
      apart = g.firm.apart;
      kept = all_implies _ _ (λ b k. record { whole = k.whole; same = k.same; within = within b k }) bs g.firm.kept;
      own = g.firm.own;
      once = g.firm.once;
      reserved = g.reserved;
    }
  where
    within : (b : Buffer) → Same p (shown_by cs ms) b → All (Within p rs) (pages p b.start b.size)
    within b k =
        all_shown (shown_by cs ms) (Within p rs) (λ x s e. lookup_key (λ m. m.at) (λ m. from m (created_by cs m.handle)) (Within p rs) ms x s g.placed e)
        (pages p b.start b.size) b.shown k.same

-- Buffers stay firm where no page of them loses what it shows.
abbrev Stays : (ℕ → Option Shown) → (ℕ → Option Shown) → ℕ → Type 0
Stays u v x = (s : Shown) → u x ≡ some s → v x ≡ some s

firm-stays : (p : ℕ) (u v : ℕ → Option Shown) (bs : List Buffer) → All (λ b. (x : ℕ) → Holds b x → Stays u v x) bs → Firm p u bs → Firm p v bs
firm-stays p u v bs f g =
    record { apart = g.apart; kept = all_implies _ _ (λ b r. stays b r.0 r.1) bs (all_both _ _ bs f g.kept); own = g.own; once = g.once }
  where
    stays : (b : Buffer) → ((x : ℕ) → Holds b x → Stays u v x) → Same p u b → Same p v b
    stays b f k =
        record {
          whole = k.whole;
          same = carry u v (pages p b.start b.size) b.shown (all_implies _ _ (λ x r. f x r) (pages p b.start b.size) (pages-in p b.start b.size)) k.same;
        }

firm_everywhere : (p : ℕ) (u v : ℕ → Option Shown) (bs : List Buffer) → ((x : ℕ) → Stays u v x) → Firm p u bs → Firm p v bs
firm_everywhere p u v bs f g = firm-stays p u v bs (all-members _ bs (λ b _ x _. f x)) g

pub firm-none : (p : ℕ) (u : ℕ → Option Shown) → Firm p u []
firm-none p u = record { apart = tt; kept = tt; own = tt; once = tt }

pub firm-filter : (p : ℕ) (u : ℕ → Option Shown) (t : Buffer → Bool) (bs : List Buffer) → Firm p u bs → Firm p u (filter t bs)
firm-filter p u t bs g =
    record {
      apart = pairs-filter _ t bs g.apart;
      kept = all_filter _ t bs g.kept;
      own = pairs-filter _ t bs g.own;
      once = all_filter _ t bs g.once;
    }

-- the other buffers
pub with-buffers : {p : ℕ} {rs : List Reservation} {cs : List Held} {ms : List Mapped} {bs : List Buffer} (cs' : List Buffer) →
    Firm p (shown_by cs ms) cs' → Upheld p rs cs ms bs → Upheld p rs cs ms cs'
with-buffers cs' f g = record { owned = g.owned; placed = g.placed; sized = g.sized; reserved = g.reserved; firm = f }

module _ (run : Run) (rs : List Reservation) (cs : List Held) (ms : List Mapped) (bs : List Buffer) (last : Option ℕ) (a n : ℕ) where
  -- the tables as the rules see them
  abbrev pub seen : Judge
  seen = record { run = run; reservations = rs; held = map (λ k. k.handle) cs; mapped = map plain_page ms; live = map plain bs; last = last }

  module _ (g : Upheld run.page rs cs ms bs) where
    abbrev new : Reservation
    new = record { base = a; size = n }

    pub keeps-reserve : R1 seen a n ≡ true → Upheld run.page (new ∷ rs) cs ms bs
    unfolding R1 credible
    keeps-reserve r =
        let c = both (credible run.page rs a n && eqb n run.va && not (eqb n 0)) (aligned run.page n) r in
        let d = both (credible run.page rs a n && eqb n run.va) (not (eqb n 0)) c.0 in
        let e = both (credible run.page rs a n) (eqb n run.va) d.0 in
        let f = both (not (eqb a 0) && aligned run.page a && leb (a + n) _) (every (λ r. clear a n r.base r.size) rs) e.0 in
        let some_size = eqb-false n 0 (not-true (eqb n 0) d.1) in
        record {
          owned = g.owned;
          placed = all_implies _ _ (λ m w. record { reservation = w.reservation; one = inr w.one; whole = w.whole }) ms g.placed;
          sized = (omega arith, g.sized);
          reserved = (
            every-all (λ r. clear a n r.base r.size) (NoReserved new)
                (λ r e x i j. clear_apart a n r.base r.size x e i.0 i.1 j.0 j.1) rs f.1,
            g.reserved,
          );
          firm = g.firm;
        }

    -- a handle that nobody holds is created: the others are from where they were
    module _ (line : ℕ) where
      abbrev more : List Held
      more = record { handle = a; created = line } ∷ cs

      new-stays : created_by cs a ≡ none → (j c : ℕ) → created_by cs j ≡ some c → created_by more j ≡ some c
      new-stays f j c e =
          ⊎_elim
          (λ q. absurd (some-not c (sym e ∙ (ap (created_by cs) (sym q) ∙ f))))
          (λ q. rw (ne_eqb a j q) e)
          (cases_eq a j)

      still-some : (b : Bool) (o : Option ℕ) → is_some o ≡ true → is_some (cond b (some line) o) ≡ true
      still-some true o e = refl
      still-some false o e = e

      pub keeps-create : R2 seen a ≡ true → Upheld run.page rs more ms bs
      unfolding R2
      keeps-create r =
          let f = some-none (created_by cs a) (created-held cs a ∙ not-true (is_in a (map (λ k. k.handle) cs)) r) in
          record {
            owned = all_implies _ _ (λ m e. still-some (eqb a m.handle) (created_by cs m.handle) e) ms g.owned;
            placed = g.placed;
            sized = g.sized;
            reserved = g.reserved;
            firm =
                firm_everywhere run.page (shown_by cs ms) (shown_by more ms) bs
                (λ x. created-stays cs more ms (all-members _ ms (λ m _. new-stays f m.handle)) x) g.firm;
          }

    -- a page is mapped where nothing was
    in_one : (q : List Reservation) → any (λ r. leb r.base a && leb (a + run.page) (r.base + r.size)) q ≡ true → Within run.page q a
    in_one [] e = absurd (false≢true e)
    in_one (r ∷ q) e = ⊎_elim here (λ f. there_too (in_one q f)) (either (leb r.base a && leb (a + run.page) (r.base + r.size)) _ e)
      where
        here : (leb r.base a && leb (a + run.page) (r.base + r.size)) ≡ true → Within run.page (r ∷ q) a
        here f =
            let b = both (leb r.base a) _ f in
            record { reservation = r; one = inl refl; whole = (leb-true r.base a b.0, leb-true (a + run.page) (r.base + r.size) b.1) }

        there_too : Within run.page q a → Within run.page (r ∷ q) a
        there_too w = record { reservation = w.reservation; one = inr w.one; whole = w.whole }

    module _ (line : ℕ) where
      abbrev placed_too : List Mapped
      placed_too = record { at = a; handle = n; mapped = line } ∷ ms

      pub keeps-map : R3 seen a n ≡ true → Upheld run.page rs cs placed_too bs
      unfolding R3 in_reservation
      keeps-map r =
          let c = both (in_reservation run.page rs a && not (is_mapped (map plain_page ms) a)) (is_in n (map (λ k. k.handle) cs)) r in
          let d = both (in_reservation run.page rs a) (not (is_mapped (map plain_page ms) a)) c.0 in
          let e = both (aligned run.page a) _ d.0 in
          let bare = some-none (shown_by cs ms a) (shown-mapped cs ms g.owned a ∙ not-true (is_mapped (map plain_page ms) a) d.1) in
          record {
            owned = (created-held cs n ∙ c.1, g.owned);
            placed = (in_one rs e.1, g.placed);
            sized = g.sized;
            reserved = g.reserved;
            firm = firm_everywhere run.page (shown_by cs ms) (shown_by cs placed_too) bs (other bare) g.firm;
          }
        where
          other : shown_by cs ms a ≡ none → (x : ℕ) → Stays (shown_by cs ms) (shown_by cs placed_too) x
          other f x s e =
              ⊎_elim
              (λ q. absurd (some-not s (sym e ∙ (ap (shown_by cs ms) (sym q) ∙ f))))
              (λ q. rw (ne_eqb a x q) e)
              (cases_eq a x)

    -- pages of no live buffer are unmapped
    abbrev left : List Mapped
    left = filter (λ m. not (inside a n m.at)) ms

    away : (qs : List Buffer) → every (λ b. clear a n b.start b.size) (map plain qs) ≡ true → All (λ b. (x : ℕ) → Holds b x → Stays (shown_by cs ms) (shown_by cs left) x) qs
    away [] e = tt
    away (b ∷ qs) e =
        let c = both (clear a n b.start b.size) _ e in
        (λ x i s f. lookup-filter (λ m. m.at) (λ m. from m (created_by cs m.handle)) (λ x. not (inside a n x)) ms x ∙ out x i s f c.0 (inside a n x) refl, away qs c.1)
      where
        out : (x : ℕ) → Holds b x → (s : Shown) → shown_by cs ms x ≡ some s → clear a n b.start b.size ≡ true → (t : Bool) → inside a n x ≡ t →
            cond (not t) (shown_by cs ms x) none ≡ some s
        out x i s f c true q = let j = inside_is a n x q in absurd (clear_apart a n b.start b.size x c j.0 j.1 i.0 i.1)
        out x i s f c false q = f

    pub keeps-unmap : R4 seen a n ≡ true → Upheld run.page rs cs left bs
    unfolding R4 none_live
    keeps-unmap r =
        let f = both (whole_pages run.page (map plain_page ms) a n) _ r in
        record {
          owned = all_filter _ (λ m. not (inside a n m.at)) ms g.owned;
          placed = all_filter _ (λ m. not (inside a n m.at)) ms g.placed;
          sized = g.sized;
          reserved = g.reserved;
          firm = firm-stays run.page (shown_by cs ms) (shown_by cs left) bs (away bs f.1) g.firm;
        }

    -- a handle under no page is released
    abbrev fewer : List Held
    fewer = filter (λ c. not (eqb c.handle a)) cs

    spared : (j : ℕ) → eqb j a ≡ false → created_by fewer j ≡ created_by cs j
    spared j q = lookup-filter (λ c. c.handle) (λ c. some c.created) (λ j. not (eqb j a)) cs j ∙ rw q refl

    pub keeps-release : R5 seen a ≡ true → Upheld run.page rs fewer ms bs
    unfolding R5
    keeps-release r =
        let b = both (is_in a (map (λ k. k.handle) cs)) (not (is_under (map plain_page ms) a)) r in
        let free = under_none a ms (not-true (is_under (map plain_page ms) a) b.1) in
        record {
          owned = all_implies _ _ (λ m e. ap is_some (spared m.handle e.0) ∙ e.1) ms (all_both _ _ ms free g.owned);
          placed = g.placed;
          sized = g.sized;
          reserved = g.reserved;
          firm =
              firm_everywhere run.page (shown_by cs ms) (shown_by fewer ms) bs
              (λ x. created-stays cs fewer ms (all_implies _ _ (λ m e c f. spared m.handle e ∙ f) ms free) x) g.firm;
        }

    -- A reservation in which nothing is mapped is given back. Another with the same base would share it, and they are apart: so no other goes with it.
    abbrev standing : List Reservation
    standing = filter (λ r. not (eqb r.base a)) rs

    named : (q : List Reservation) → any (λ r. eqb r.base a && eqb r.size n) q ≡ true → (r : Reservation) × (Member r q × ((r.base ≡ a) × (r.size ≡ n)))
    named [] e = absurd (false≢true e)
    named (r ∷ q) e = ⊎_elim here (λ f. there_too (named q f)) (either (eqb r.base a && eqb r.size n) _ e)
      where
        here : (eqb r.base a && eqb r.size n) ≡ true → (x : Reservation) × (Member x (r ∷ q) × ((x.base ≡ a) × (x.size ≡ n)))
        here f = let b = both (eqb r.base a) _ f in (r, (inl refl, (eqb-true r.base a b.0, eqb-true r.size n b.1)))

        there_too : (x : Reservation) × (Member x q × ((x.base ≡ a) × (x.size ≡ n))) → (x : Reservation) × (Member x (r ∷ q) × ((x.base ≡ a) × (x.size ≡ n)))
        there_too w = (w.0, (inr w.1.0, w.1.1))

    one-base : (q : List Reservation) (r s : Reservation) → Pairs NoReserved q → All (λ r. 0 < r.size) q → Member r q → Member s q → r.base ≡ s.base → r ≡ s
    one-base (x ∷ q) r s p z (inl e) (inl f) b = e ∙ sym f
    one-base (x ∷ q) r s p z (inl e) (inr m) b =
        let k = member-all (λ s. NoReserved x s) s q m p.0 in
        let w = member-all (λ r. 0 < r.size) s q m z.1 in
        absurd (k s.base (omega (arith, ap (λ r. r.base) e), omega (arith, ap (λ r. r.base) e, z.0)) (omega arith, omega arith))
    one-base (x ∷ q) r s p z (inr m) (inl f) b =
        let k = member-all (λ s. NoReserved x s) r q m p.0 in
        let w = member-all (λ r. 0 < r.size) r q m z.1 in
        absurd (k r.base (omega (arith, ap (λ r. r.base) f), omega (arith, ap (λ r. r.base) f, z.0)) (omega arith, omega arith))
    one-base (x ∷ q) r s p z (inr m) (inr k) b = one-base q r s p.1 z.1 m k b
    one-base [] r s p z x5 _ b = elim x5 [ ]

    pub keeps-giveback : 0 < run.page → R10 seen a n ≡ true → Upheld run.page standing cs ms bs
    unfolding R10
    keeps-giveback pos r =
        let b = both (any (λ r. eqb r.base a && eqb r.size n) rs) (every (λ p. not (inside a n p.at)) (map plain_page ms)) r in
        record {
          owned = g.owned;
          placed = all_implies _ _ (λ m w. stands m w.0 w.1 (named rs b.0)) ms (all_both _ _ ms (outside ms b.1) g.placed);
          sized = all_filter _ (λ r. not (eqb r.base a)) rs g.sized;
          reserved = pairs-filter _ (λ r. not (eqb r.base a)) rs g.reserved;
          firm = g.firm;
        }
      where
        outside : (q : List Mapped) → every (λ p. not (inside a n p.at)) (map plain_page q) ≡ true → All (λ m. inside a n m.at ≡ false) q
        outside [] e = tt
        outside (m ∷ q) e = let c = both (not (inside a n m.at)) _ e in (not-true (inside a n m.at) c.0, outside q c.1)

        stands : (m : Mapped) → inside a n m.at ≡ false → Within run.page rs m.at →
            (r : Reservation) × (Member r rs × ((r.base ≡ a) × (r.size ≡ n))) → Within run.page standing m.at
        stands m o w t =
            record { reservation = w.reservation; one = filter-member (λ r. not (eqb r.base a)) w.reservation rs w.one (rw (ne_eqb w.reservation.base a other)); whole = w.whole }
          where
            other : w.reservation.base ≡ a → ⊥
            other e =
                let k = one-base rs w.reservation t.0 g.reserved g.sized w.one t.1.0 (e ∙ sym t.1.1.0) in
                false≢true (sym o ∙ is-inside a n m.at (omega (arith, w.whole.0)) (omega (arith, w.whole.1, ap (λ r. r.size) k, t.1.1.1)))
