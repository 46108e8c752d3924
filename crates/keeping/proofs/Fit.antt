-- Fit: the region chosen is one of the free regions that are large enough, and to make it this stream's changes neither the addresses, the sizes nor
-- the ids.
use mathlib.Core.Path.{◌≡◌, refl, ◌∙◌}
use mathlib.Core.Logic.{inl, inr}
use mathlib.Core.Bool.{Bool, true, false, cond}
use mathlib.Core.List.{List, [], ◌∷◌, map}
use mathlib.Core.Option.{Option, some, none}
use Prim.Native.Nat.{ℕ, ◌≤◌, ◌<◌}
use native.Mathlib.Omega.{arith}
use borrow.Author.Tests.{eq-eqb, leb-true}
use lib.Dec.{leb, eqb}
use lib.ListN.{length, length-map}
use Rattle.lists.specs.Tests.{All, Member}
use Rattle.lists.specs.Walks.{sum}
use Rattle.lists.proofs.Walks.{sum-equal}
use Rattle.lists.proofs.Maps.{all_map, member-map, sum-map, rises-map}
use Rattle.lists.proofs.Tests.{all_implies}
use Rattle.lists.proofs.Members.{member-all, all-members, member_filter, member-least}
use Rattle.tables.specs.Bounds.{SPANS}
use Rattle.tables.specs.Values.{Tables, with_free}
use Rattle.tables.specs.InsertFree.{from}
use Rattle.tables.specs.Pull.{own_of}
use Rattle.tables.specs.Fit.{candidates, smallest, ask_all, on_stream, take_over, or_other, fit}
use Rattle.tables.specs.declared.Outcome.{Outcome}
use Rattle.tables.specs.declared.Outcome.TheVariants.{AnswersRanOut}
use Rattle.tables.specs.declared.FreeRegion.{FreeRegion}
use Rattle.keeping.specs.Cover.{within, equal}
use Rattle.keeping.specs.Sound.{WholeRange, Sound, Kept, Left}
use Rattle.keeping.specs.Counts.{Few, Known}
use Rattle.keeping.specs.Holds.{Holds}
use Rattle.keeping.proofs.Holds.{holds-from, holds_then, holds-give, holds_looked, holds-change, holds-is_complete}
use Rattle.keeping.proofs.Sounds.{Spans, sound-spans}
use Rattle.keeping.proofs.Counts.{few-spans, few-ceilings, ceilings-few}

-- what stands through fit: the page size is `p`, `f` bytes are free, and there are at most `c` spans
abbrev pub Fitting : (ℕ → ℕ) → ℕ → ℕ → ℕ → Tables → Type 0
Fitting lost p f c t = Kept lost t × (Few 0 c t × Known p f t)

-- a free region with room for `n` bytes
abbrev pub Roomy : ℕ → Tables → FreeRegion → Type 0
Roomy n t r = Member r t.free × (n ≤ r.size)

abbrev pub Fitted : (ℕ → ℕ) → ℕ → ℕ → ℕ → ℕ → Option FreeRegion → Tables → Type 0
Fitted lost p f c n none t = Fitting lost p f c t
Fitted lost p f c n (some r) t = Fitting lost p f c t × Roomy n t r

-- Ask every candidate: the tables stay, and the complete ones are of the candidates.
asks-all : {P : Tables → Type 0} {E : Outcome → Tables → Type 0} → ((t : Tables) → P t → E AnswersRanOut t) → (l : List FreeRegion) →
    Holds P (ask_all l) (λ done t. P t × All (λ q. Member q l) done) E
asks-all short [] = holds-from (λ t p. (p, tt)) (holds-give [])
asks-all {P} short (r ∷ l) =
    holds_then (λ _. P) (holds-is_complete r.id.0 short)
    (λ c. holds_then (λ done t. P t × All (λ q. Member q l) done) (asks-all short l)
    (λ done. holds-from (λ t h. (h.0, complete c done h.1)) (holds-give (cond c (r ∷ done) done))))
  where
    complete : (c : Bool) (done : List FreeRegion) → All (λ q. Member q l) done → All (λ q. Member q (r ∷ l)) (cond c (r ∷ done) done)
    complete true done a = (inl refl, all_implies (λ q. Member q l) (λ q. Member q (r ∷ l)) (λ q m. inr m) done a)
    complete false done a = all_implies (λ q. Member q l) (λ q. Member q (r ∷ l)) (λ q m. inr m) done a

-- What becomes of each free region where the one at `r` becomes stream `s`'s.
module _ (s : ℕ) (r : FreeRegion) where
  abbrev taken : FreeRegion → FreeRegion
  taken q = cond (eqb (from q) (from r)) (on_stream s q) q

  -- what is true of a region, whether on its own stream or on `s`, is true of what becomes of it
  taken-keeps : (P : FreeRegion → Type 0) (q : FreeRegion) → P q → P (on_stream s q) → P (taken q)
  taken-keeps P q h k = go (eqb (from q) (from r))
    where
      go : (b : Bool) → P (cond b (on_stream s q) q)
      go true = k
      go false = h

  sum-taken : (g : FreeRegion → ℕ) (l : List FreeRegion) → ((q : FreeRegion) → g (on_stream s q) ≡ g q) → sum g (map taken l) ≡ sum g l
  sum-taken g l e =
      sum-map taken g l ∙ sum-equal (λ q. g (taken q)) g l (all-members _ l (λ q m. taken-keeps (λ z. g z ≡ g q) q refl (e q)))

  all-taken : (P : FreeRegion → Type 0) (l : List FreeRegion) → ((q : FreeRegion) → P q → P (on_stream s q)) → All P l → All P (map taken l)
  all-taken P l f a = all_map taken P l (all_implies P (λ q. P (taken q)) (λ q h. taken-keeps P q h (f q h)) l a)

  taken-spans : {lost hand bare : ℕ → ℕ} {t : Tables} → Sound lost hand bare t → Spans hand bare hand bare (map taken t.free) t.live t
  taken-spans {t = t} h =
      record {
        free = all-taken (λ q. WholeRange t.fields.page (from q) q.size) t.free (λ q w. w) h.free;
        live = h.live;
        free_rises = rises-map taken from from 0 t.free (λ q. taken-keeps (λ z. from z ≡ from q) q refl refl) h.free_rises;
        live_rises = h.live_rises;
        covered = λ x. rw (sum-taken (λ q. within (from q) q.size x) t.free (λ q. refl));
        bared = λ x _. rw (sum-taken (λ q. within (from q) q.size x) t.free (λ q. refl));
        ids = λ i. omega (arith, h.ids_once i, sum-taken (λ q. equal q.id.0 i) t.free (λ q. refl));
        free_ids = all-taken (λ q. q.id.0 < t.fields.counter) t.free (λ q w. w) h.free_ids;
      }

  member-taken : (l : List FreeRegion) → Member r l → Member (on_stream s r) (map taken l)
  member-taken l m = rw (eq-eqb (from r) (from r) refl) at (member-map taken r l m)

  taken_fitting : (lost : ℕ → ℕ) (p f c : ℕ) (t : Tables) → Fitting lost p f c t → Fitting lost p f c (with_free (map taken t.free) t)
  taken_fitting lost p f c t (k, (w, n)) =
      let e : length (map taken t.free) ≡ length t.free = length-map t.free taken in (
        record {
          sound = sound-spans k.sound (taken-spans k.sound);
          ceilings = few-ceilings {c = SPANS} (omega arith) (few-spans (map taken t.free) t.live (ceilings-few k.ceilings) (omega (arith, k.ceilings.spans)));
        },
        (
          few-spans (map taken t.free) t.live w (omega (arith, w.spans)),
          record { page = n.page; free = sum-taken (λ q. q.size) t.free (λ q. refl) ∙ n.free },
        ),
      )

module _ (lost : ℕ → ℕ) (p f c n s : ℕ) where
  -- The smallest of regions that are large enough becomes this stream's.
  takes-over : (o : Option FreeRegion) →
      Holds (λ t. Fitting lost p f c t × ((r : FreeRegion) → o ≡ some r → Roomy n t r)) (take_over s o) (Fitted lost p f c n) (Left lost)
  unfolding take_over
  takes-over none = holds-from (λ t h. h.0) (holds-give none)
  takes-over (some r) =
      holds_then (λ _. Fitted lost p f c n (some (on_stream s r)))
      (holds-change (λ t. with_free (map (taken s r) t.free) t)
      (λ t h. (taken_fitting s r lost p f c t h.0, (member-taken s r t.free (h.1 r refl).0, (h.1 r refl).1))))
      (λ _. holds-give (some (on_stream s r)))

  module _ (u : Tables) where
    roomy : (r : FreeRegion) → Member r (candidates n u.free) → Roomy n u r
    roomy r m =
        let h = member_filter (λ q. leb n q.size) r u.free m in
        (h.0, leb-true n r.size h.1)

    -- the smallest on the same stream, else the smallest complete one
    or-other : Fitting lost p f c u → (o : Option FreeRegion) → smallest (own_of s (candidates n u.free)) ≡ o →
        Holds (λ t. t ≡ u) (or_other s (candidates n u.free) o) (Fitted lost p f c n) (Left lost)
    unfolding or_other
    or-other h none e =
        holds_then (λ done t. (t ≡ u) × All (λ q. Member q (candidates n u.free)) done) (asks-all (λ t _. tt) (candidates n u.free))
        (λ done. holds-from (chosen done) (takes-over (smallest done)))
      where
        chosen : (done : List FreeRegion) (t : Tables) → (t ≡ u) × All (λ q. Member q (candidates n u.free)) done →
            Fitting lost p f c t × ((r : FreeRegion) → smallest done ≡ some r → Roomy n t r)
        chosen done t (q, a) =
            rw q
            (h, λ r g. roomy r (member-all (λ z. Member z (candidates n u.free)) r done (member-least (λ z. z.size) r done g) a))
    or-other h (some r) e = holds-from (λ t q. rw q (h, roomy r own)) (holds-give (some r))
      where
        own : Member r (candidates n u.free)
        own =
            (member_filter (λ z. eqb z.stream s) r (candidates n u.free)
            (member-least (λ z. z.size) r (own_of s (candidates n u.free)) e)).0

pub fits : (lost : ℕ → ℕ) (p f c n s : ℕ) → Holds (λ t. Kept lost t × (Few 0 c t × Known p f t)) (fit n s) (Fitted lost p f c n) (Left lost)
unfolding fit
fits lost p f c n s = holds_looked (λ u h. or-other lost p f c n s u h (smallest (own_of s (candidates n u.free))) refl)
