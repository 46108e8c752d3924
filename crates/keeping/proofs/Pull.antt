-- Pulling regions: the part taken of a region leaves the free table and joins the zombies, a rest goes back in its place, and so no address changes
-- how often it is covered, while the pages of the part stay active.
use mathlib.Core.Path.{◌≡◌, refl, ap, ◌∙◌}
use mathlib.Core.Logic.{⊎_elim}
use mathlib.Core.List.{List, [], ◌∷◌, ◌++◌}
use Prim.Native.Nat.{ℕ, suc, ◌+◌, ◌-◌, ◌≤◌, ◌<◌, ◌%◌, min}
use native.Mathlib.Omega.{arith}
use borrow.Author.Tests.{eqb-true, eqb-false}
use lib.Dec.{eqb}
use lib.ListN.{length, length-append}
use Rattle.lists.specs.Tests.{All, Member}
use Rattle.lists.specs.Walks.{sum}
use Rattle.lists.proofs.Tests.{all_append, cases_lt}
use Rattle.lists.proofs.Walks.{sum-append}
use Rattle.lists.proofs.Members.{member-all, all-members, all_without, rises-without, sum-without, length_without, sum-member, without-keeps}
use Rattle.tables.specs.Bounds.{SPANS}
use Rattle.tables.specs.Values.{Tables, zombie, with_free, with_zombies}
use Rattle.tables.specs.Steps.{◌>>=◌, give, change}
use Rattle.tables.specs.InsertFree.{from, bytes, put_rest, without_free}
use Rattle.tables.specs.Pull.{settle, pull_one, pull}
use Rattle.tables.specs.declared.FreeRegion.{FreeRegion}
use Rattle.tables.specs.declared.Zombie.{Zombie}
use Rattle.tables.specs.declared.Outcome.{Outcome}
use Rattle.tables.specs.declared.Outcome.TheVariants.{DriverFailed, AnswersRanOut}
use Rattle.keeping.specs.Cover.{within, equal, cover_free, cover_zombies}
use Rattle.keeping.specs.Sound.{Sound, WholeRange, Ceilings, Left}
use Rattle.keeping.specs.Counts.{Few}
use Rattle.keeping.specs.Pull.{Pulling}
use Rattle.keeping.specs.Holds.{Holds}
use Rattle.keeping.proofs.Cover.{equal-same}
use Rattle.keeping.proofs.Counting.{none-starts}
use Rattle.keeping.proofs.Sounds.{sound-alone, sound-bare, sound-free, sound-zombies}
use Rattle.keeping.proofs.Whole.{aligned_sub, aligned-min, whole-lower, whole_upper}
use Rattle.keeping.proofs.Rest.{cover-put_rest, ids-put_rest, length-put_rest, length_put_none, all-put_rest, rises-put_rest, put_rest-keeps}
use Rattle.keeping.proofs.Holds.{holds-from, holds_given, holds_then, holds-give, holds-change, holds-cond, holds-must, holds-is_complete, drives-wait}

-- the tables without the region `r`, and with the first `n` bytes of it as a zombie and its rest put back
abbrev pub out_of : FreeRegion → Tables → Tables
out_of r t = with_free (without_free (from r) t.free) t

abbrev pub part : ℕ → FreeRegion → Zombie
part n r = zombie (from r) n r.id.0

abbrev pub pulled : ℕ → FreeRegion → Tables → Tables
pulled n r t = with_free (put_rest n r (without_free (from r) t.free)) (with_zombies (t.zombies ++ part n r ∷ []) t)

module _ (lost hand bare : ℕ → ℕ) (t : Tables) (w : Sound lost hand bare t) (r : FreeRegion) (m : Member r t.free) where
  -- the others, as a count has them
  without-region : (f : FreeRegion → ℕ) → f r + sum f (without_free (from r) t.free) ≡ sum f t.free
  without-region f = sum-without from f 0 r t.free w.free_rises m

  -- no other region starts inside `r`
  none_inside : (n : ℕ) → n < r.size → All (λ q. from q ≡ from r + n → ⊥) (without_free (from r) t.free)
  none_inside n lt =
      none-starts from (λ q. q.size) t.fields.page (from r + n) (without_free (from r) t.free) (all_without from _ (from r) t.free w.free)
      (sound-alone w r m (from r + n) (omega arith) (omega arith)).0

  sound-pulled : (n : ℕ) → 0 < n → n ≤ r.size → n % t.fields.page ≡ 0 → Sound lost hand (λ x. bare x + within (from r) n x) (pulled n r t)
  sound-pulled n pos le whole =
      let out : Sound lost (λ x. hand x + within (from r) n x) (λ x. bare x + within (from r) n x) (with_free (put_rest n r left) t) =
      sound-free w (put_rest n r left)
      (all-put_rest n r left le _ (λ lt. whole_upper n wide whole lt) (all_without from _ (from r) t.free w.free))
      (rises-put_rest n r left le 0 (omega (arith, wide.start.positive)) (none_inside n) (rises-without from (from r) 0 t.free w.free_rises))
      (λ x. omega (arith, free x))
      (λ x h. omega (arith, free x))
      (λ i. omega (arith, w.ids_once i, ids-put_rest n r left le i, without-region (λ q. equal q.id.0 i)))
      (all-put_rest n r left le _ (λ lt. id) (all_without from _ (from r) t.free w.free_ids)) in
      sound-zombies out (t.zombies ++ part n r ∷ [])
      (all_append _ t.zombies _ w.zombies (whole-lower n wide whole pos, tt))
      (λ x. omega (arith, zombies x))
      (all_append _ t.zombies _ w.zombie_ids (id, tt))
    where
      left : List FreeRegion
      left = without_free (from r) t.free

      wide : WholeRange t.fields.page (from r) r.size
      wide = member-all (λ q. WholeRange t.fields.page (from q) q.size) r t.free m w.free

      id : r.id.0 < t.fields.counter
      id = member-all (λ q. q.id.0 < t.fields.counter) r t.free m w.free_ids

      free : (x : ℕ) → within (from r) n x + cover_free (put_rest n r left) x ≡ cover_free t.free x
      free x = cover-put_rest n r left le x ∙ without-region (λ q. within q.start.0 q.size x)

      zombies : (x : ℕ) → cover_zombies (t.zombies ++ part n r ∷ []) x ≡ cover_zombies t.zombies x + within (from r) n x
      zombies x = omega (arith, sum-append (λ z. within z.start.0 z.size x) t.zombies (part n r ∷ []))

-- `zs` are the parts taken: their pages are still active, and they are among the zombies. Spans do not grow: a region was taken out for each rest that
-- was put in; where nothing is left over, no region of `l` is left.
pub record Pulled (lost hand bare : ℕ → ℕ) (p lacks c : ℕ) (keep l : List FreeRegion) (zs : List Zombie) (t : Tables) : Type 0 where
  pub sound : Sound lost hand (λ x. bare x + cover_zombies zs x) t
  pub total : sum (λ z. z.size) zs ≡ lacks
  pub whole : All (λ z. WholeRange p z.start.0 z.size) zs
  pub few : Few 0 c t
  pub page : t.fields.page ≡ p
  pub among : (x : ℕ) → bare x + cover_zombies zs x ≤ cover_zombies t.zombies x
  pub kept : All (λ r. Member r t.free) keep
  pub fewer : lacks ≡ bytes l → length t.free + length t.live + length l ≤ c

-- the tables are what `f` made of some of which `P` holds
abbrev Became : (Tables → Type 0) → (Tables → Tables) → Tables → Type 0
Became P f t = (o : Tables) × (P o × (t ≡ f o))

module _ {E : Outcome → Tables → Type 0} {P : Tables → Type 0} where
  became-change : (f g : Tables → Tables) → Holds (Became P f) (change g) (λ _. Became P (λ o. g (f o))) E
  became-change f g = holds-change g (λ t b. (b.0, (b.1.0, ap g b.1.1)))

  -- Settling changes no table.
  pub holds-settle : (s : ℕ) (r : FreeRegion) → ((t : Tables) → P t → E AnswersRanOut t) → ((c : ℕ) (t : Tables) → P t → E (DriverFailed c) t) →
      Holds P (settle s r) (λ _. P) E
  unfolding settle
  holds-settle s r short fails =
      holds-cond (eqb r.stream s) (λ _. holds-give tt)
      (λ _. holds_then (λ _. P) (holds-is_complete r.id.0 short)
      (λ c. holds-cond c (λ _. holds-give tt) (λ _. holds-must (drives-wait r.id.0 s) short fails)))

-- how much is taken of `r`, and how many spans there may be then
abbrev pub taken_of : ℕ → FreeRegion → ℕ
taken_of lacks r = min lacks r.size

abbrev pub spans_after : ℕ → ℕ → FreeRegion → ℕ
spans_after c lacks r = c - (1 - (r.size - lacks))

module _ (lost hand bare : ℕ → ℕ) (p lacks c : ℕ) (keep : List FreeRegion) (r : FreeRegion) (l : List FreeRegion) (pos : 0 < lacks) where
  -- after one pull the others are still to be pulled
  pub pulling-next : (t : Tables) → Pulling lost hand bare p lacks c keep (r ∷ l) t →
      Pulling lost hand (λ x. bare x + within (from r) (taken_of lacks r) x) p (lacks - taken_of lacks r) (spans_after c lacks r) keep l (pulled (taken_of lacks r) r t)
  pulling-next t w =
      record {
        sound = sound-pulled lost hand bare t w.sound r here n (omega (arith, wide.size.positive)) le (rw page whole);
        members = all-members (λ q. Member q (put_rest n r left)) l (λ q k. stays q (member-all _ q l k w.members.1) (later q k));
        kept = all-members (λ q. Member q (put_rest n r left)) keep (λ q k. stays q (member-all _ q keep k w.kept) (aside q k));
        apart = λ a. omega (arith, w.apart a);
        zombies = omega (arith, w.zombies, more);
        holes = omega (arith, w.holes, more);
        few =
            record {
              pages = w.few.pages;
              spans =
                  ⊎_elim
                  (λ some. omega (arith, w.few.spans, length-put_rest n r left le, less))
                  (λ all. omega (arith, w.few.spans, length_put_none n r left le (omega arith), less))
                  (cases_lt lacks r.size);
              zombies = omega (arith, w.zombies, more);
              holes = omega (arith, w.holes, more);
              roots = w.few.roots;
            };
        lacking = (aligned_sub p lacks n (omega arith) w.lacking.0 whole, page);
        enough = omega (arith, w.enough);
        among = λ x. omega (arith, w.among x, sum-append (λ z. within z.start.0 z.size x) t.zombies (part n r ∷ []));
      }
    where
      n : ℕ
      n = taken_of lacks r

      left : List FreeRegion
      left = without_free (from r) t.free

      le : n ≤ r.size
      le = omega arith

      here : Member r t.free
      here = w.members.0

      page : t.fields.page ≡ p
      page = w.lacking.1

      wide : WholeRange t.fields.page (from r) r.size
      wide = member-all (λ q. WholeRange t.fields.page (from q) q.size) r t.free here w.sound.free

      whole : n % p ≡ 0
      whole = aligned-min p lacks r.size w.lacking.0 (rw page at wide.size.aligned)

      less : suc (length left) ≡ length t.free
      less = length_without from 0 r t.free w.sound.free_rises here

      more : length (t.zombies ++ part n r ∷ []) ≡ suc (length t.zombies)
      more = omega (arith, length-append t.zombies (part n r ∷ []))

      stays : (q : FreeRegion) → Member q t.free → (from q ≡ from r → ⊥) → Member q (put_rest n r left)
      stays q k e = put_rest-keeps n r left le q (without-keeps from (from r) q t.free k e)

      once : equal (from r) (from r) ≡ 1
      once = equal-same (from r)

      later : (q : FreeRegion) → Member q l → from q ≡ from r → ⊥
      later q k e = omega (arith, w.apart (from r), once, ap (λ a. equal a (from r)) e, sum-member (λ q. equal (from q) (from r)) q l k)

      aside : (q : FreeRegion) → Member q keep → from q ≡ from r → ⊥
      aside q k e = omega (arith, w.apart (from r), once, ap (λ a. equal a (from r)) e, sum-member (λ q. equal (from q) (from r)) q keep k)

  -- a region that is out of the tables when a wait fails leaves them within their ceilings
  ceilings_out : (t : Tables) → c ≤ SPANS → Became (Pulling lost hand bare p lacks c keep (r ∷ l)) (out_of r) t → Ceilings t
  ceilings_out t bound (o, (w, e)) =
      rw e (record {
        pages = omega (arith, w.few.pages);
        spans = omega (arith, w.few.spans, length_without from 0 r o.free w.sound.free_rises w.members.0);
        zombies = w.few.zombies;
        holes = w.few.holes;
        roots = w.few.roots;
      })

  -- what is known of the part taken, whatever comes after
  abbrev pub Taken : Zombie → Type 0
  Taken z = (z ≡ part (taken_of lacks r) r) × (WholeRange p (from r) (taken_of lacks r) × (0 < c))

  taken-part : (t : Tables) → Pulling lost hand bare p lacks c keep (r ∷ l) t → Taken (part (taken_of lacks r) r)
  taken-part t w =
      let here : Member r t.free = w.members.0 in
      let wide : WholeRange p (from r) r.size =
      rw w.lacking.1 at (member-all (λ q. WholeRange t.fields.page (from q) q.size) r t.free here w.sound.free) in
      let some : 0 < taken_of lacks r = omega (arith, wide.size.positive) in
      let whole = aligned-min p lacks r.size w.lacking.0 wide.size.aligned in (
        refl,
        (
          whole-lower (taken_of lacks r) wide whole some,
          omega (arith, w.few.spans, length_without from 0 r t.free w.sound.free_rises here),
        ),
      )

  pub holds-pull_one : (s : ℕ) → c ≤ SPANS → Holds (Pulling lost hand bare p lacks c keep (r ∷ l)) (pull_one s lacks r)
      (λ z t. Taken z × Pulling lost hand (λ x. bare x + within (from r) (taken_of lacks r) x) p (lacks - taken_of lacks r) (spans_after c lacks r) keep l t)
      (Left lost)
  unfolding pull_one
  holds-pull_one s bound =
      holds_then (λ _. Became P (out_of r)) (holds-change _ (λ t w. (t, (w, refl))))
      (λ _. holds_then (λ _. Became P (out_of r)) (holds-settle s r (λ t b. tt) (λ k t b. ceilings_out t bound b))
      (λ _. holds_then (λ _. Became P zombied) (became-change (out_of r) _)
      (λ _. holds_then (λ _. Became P (pulled n r)) (became-change zombied _)
      (λ _. holds-from (λ t b. (taken-part b.0 b.1.0, rw b.1.1 (pulling-next b.0 b.1.0))) (holds-give (part n r))))))
    where
      n : ℕ
      n = taken_of lacks r

      P : Tables → Type 0
      P = Pulling lost hand bare p lacks c keep (r ∷ l)

      zombied : Tables → Tables
      zombied t = with_zombies (t.zombies ++ part n r ∷ []) (out_of r t)

  -- the part taken and those taken after it
  pulled-next : (zs : List Zombie) (t : Tables) → WholeRange p (from r) (taken_of lacks r) → 0 < c →
      Pulled lost hand (λ x. bare x + within (from r) (taken_of lacks r) x) p (lacks - taken_of lacks r) (spans_after c lacks r) keep l zs t →
      Pulled lost hand bare p lacks c keep (r ∷ l) (part (taken_of lacks r) r ∷ zs) t
  pulled-next zs t whole some w =
      record {
        sound = sound-bare w.sound (λ x h. omega arith);
        total = omega (arith, w.total);
        whole = (whole, w.whole);
        few =
            record {
              pages = w.few.pages;
              spans = omega (arith, w.few.spans);
              zombies = w.few.zombies;
              holes = w.few.holes;
              roots = w.few.roots;
            };
        page = w.page;
        among = λ x. omega (arith, w.among x);
        kept = w.kept;
        fewer = λ e. omega (arith, w.fewer (omega arith));
      }

-- nothing lacks: nothing is taken
pulled-none : (lost hand bare : ℕ → ℕ) (p lacks c : ℕ) (keep l : List FreeRegion) (t : Tables) → lacks ≡ 0 → Pulling lost hand bare p lacks c keep l t →
    Pulled lost hand bare p lacks c keep l [] t
pulled-none lost hand bare p lacks c keep l t z w =
    record {
      sound = sound-bare w.sound (λ x h. omega arith);
      total = omega arith;
      whole = tt;
      few = w.few;
      page = w.lacking.1;
      among = λ x. omega (arith, w.among x);
      kept = w.kept;
      fewer = λ e. omega (arith, w.few.spans, no-region l w.members (omega arith));
    }
  where
    -- regions of no bytes are none
    no-region : (l : List FreeRegion) → All (λ r. Member r t.free) l → bytes l ≡ 0 → length l ≡ 0
    no-region [] a e = refl
    no-region (r ∷ l) a e =
        absurd (omega (arith, (member-all (λ q. WholeRange t.fields.page (from q) q.size) r t.free a.0 w.sound.free).size.positive))

-- Pulling as much as lacks, in the order given.
pub pulls : (lost hand bare : ℕ → ℕ) (p s lacks c : ℕ) (keep l : List FreeRegion) → c ≤ SPANS →
    Holds (Pulling lost hand bare p lacks c keep l) (pull l s lacks) (Pulled lost hand bare p lacks c keep l) (Left lost)
pulls lost hand bare p s lacks c keep [] bound =
    holds-from (λ t w. pulled-none lost hand bare p lacks c keep [] t (omega (arith, w.enough)) w) (holds-give [])
pulls lost hand bare p s lacks c keep (r ∷ l) bound =
    holds-cond (eqb lacks 0)
    (λ e. holds-from (λ t w. pulled-none lost hand bare p lacks c keep (r ∷ l) t (eqb-true lacks 0 e) w) (holds-give []))
    (λ e. some (omega (arith, eqb-false lacks 0 e)) (pulls lost hand (λ x. bare x + within (from r) (taken_of lacks r) x) p s (lacks - taken_of lacks r) (spans_after c lacks r) keep l (omega arith)))
  where
    n : ℕ
    n = taken_of lacks r

    grown : ℕ → ℕ
    grown x = bare x + within (from r) n x

    some : 0 < lacks →
        Holds (Pulling lost hand grown p (lacks - n) (spans_after c lacks r) keep l) (pull l s (lacks - n)) (Pulled lost hand grown p (lacks - n) (spans_after c lacks r) keep l) (Left lost) →
        Holds (Pulling lost hand bare p lacks c keep (r ∷ l))
        (pull_one s lacks r >>= λ z. pull l s (lacks - z.size) >>= λ zs. give (z ∷ zs)) (Pulled lost hand bare p lacks c keep (r ∷ l)) (Left lost)
    some pos next =
        holds_then _ (holds-pull_one lost hand bare p lacks c keep r l pos s bound)
        (λ z. holds_given (λ k. rw k.0
        (holds_then _ next (λ zs. holds-from (λ t. pulled-next lost hand bare p lacks c keep r l pos zs t k.1.0 k.1.1) (holds-give (part n r ∷ zs))))))
