-- The loop of pull. While bytes lack, what is left of the order is the order of what is left; a rest stays only where nothing lacks any more.
use mathlib.Core.Path.{◌≡◌, refl, ap, ◌∙◌}
use mathlib.Core.List.{List, [], ◌∷◌, ◌++◌, append-nil}
use mathlib.Core.Option.{some}
use Prim.Native.Nat.{ℕ, suc, ◌+◌, ◌-◌, ◌*◌, ◌≤◌, ◌<◌, min}
use native.Mathlib.Omega.{arith}
use borrow.Author.Tests.{eq-eqb}
use lib.ListN.{length, drop, length-append, drop_of_length-le}
use lib.Seq.{drop-append-le}
use Rattle.lists.specs.Tests.{Member}
use Rattle.lists.proofs.Members.{member-all, sum-member, length_without}
use Rattle.tables.specs.Bounds.{END, SPANS, ZOMBIES}
use Rattle.tables.specs.Values.{Tables, free_of, pack_free, zombies_of, pack_zombies, with_free, empty_region}
use Rattle.tables.specs.Kept.{KeptFree, KeptZombies}
use Rattle.tables.specs.Steps.{Ending, on, ends}
use Rattle.cells.specs.Table.{Placed}
use Rattle.tables.specs.InsertFree.{from, upto, put_rest, without_free}
use Rattle.tables.specs.Pull.{pull_order, pull, settle}
use Rattle.tables.specs.declared.FreeRegion.{FreeRegion}
use Rattle.tables.specs.Values.{FreeRegions}
use Rattle.tables.specs.declared.Zombie.{Zombie}
use Rattle.tables.specs.Values.{Zombies}
use Rattle.cells.specs.Table.{Choice}
use Rattle.std.specs.Prelude.{Some, Ok, Err, Option as Made}
use Rattle.words.specs.declared.Address.{Address}
use Rattle.tables.specs.declared.Outcome.{Outcome}
use Rattle.cells.proofs.Choices.{placed_at}
use Rattle.tables.proofs.Packs.{free-count, free-kept, free_pack, zombies-count, zombies-kept, zombies_pack, zombies-packed-count}
use Rattle.keeping.specs.Cover.{within, cover_free}
use Rattle.keeping.specs.Sound.{WholeRange}
use Rattle.keeping.proofs.Sounds.{sound-next, sound-free, sound-range}
use Rattle.keeping.proofs.Rest.{length-put_rest}
use Rattle.keeping.proofs.Pull.{spans_after, pulling-next}
use Rattle.regions.specs.Cutting.{region_at, Cuttable}
use Rattle.regions.specs.Pulling.{besides, next_to_pull}
use Rattle.regions.proofs.Pulling.{pull-next, besides-without, rises-besides}
use Rattle.driving.proofs.Lent.{lent-same, lent-then}
use Rattle.driving.specs.Ran.{Ran, Point, Lent, stands}
use Rattle.driving.specs.declared.Driver.{Driver}
use Rattle.step_pull.specs.Promises.{Settles, pulling, part_of, Pullable, Pulls}
use Rattle.step_pull.proofs.Ways.{joined_to, pull-stop, pull-on, pulls-stop, pulls-on, joined-none, joined-more}

-- Where the loop stands: `left` bytes lack, the regions of `order` are still to be pulled, and what the rest does the whole does.
pub record Due (s lacks : ℕ) (made : Made Address) (d₀ : Driver) (f₀ : FreeRegions) (z₀ : Zombies) (left : ℕ) (d : Driver) (f : FreeRegions) (z : Zombies) : Type 0 where
  pub order : List FreeRegion
  pub pullable : Pullable left order f z
  pub ordered : 0 < left → order ≡ pull_order s (besides made (free_of f))
  pub lent : Lent d₀ d
  pub most : d.made + 2 * length order ≤ d₀.made + 2 * length (pull_order s (besides made (free_of f₀)))
  pub grown : z₀.count ≤ z.count
  pub rest : (t : Tables) (e : Ending (List Zombie)) (u : Point) → Ran (pull order s left) d₀.answers.now (stands d (pulling f z t)) e u →
      Ran (pull (pull_order s (besides made (free_of f₀))) s lacks) d₀.answers.now (stands d₀ (pulling f₀ z₀ t)) (joined_to (drop z₀.count (zombies_of z)) e) u

pub due-first : (s lacks : ℕ) (made : Made Address) (d : Driver) (f : FreeRegions) (z : Zombies) →
    Pullable lacks (pull_order s (besides made (free_of f))) f z → Due s lacks made d f z lacks d f z
due-first s lacks made d f z w =
    let nothing : drop z.count (zombies_of z) ≡ [] = drop_of_length-le (zombies_of z) {i = z.count} (omega (arith, zombies-count z w.zombies)) in
    record {
      order = pull_order s (besides made (free_of f));
      pullable = w;
      ordered = λ _. refl;
      lent = lent-same d;
      most = omega arith;
      grown = omega arith;
      rest = λ t e u r. rw (joined-none _ nothing e) r;
    }

module _ {s lacks : ℕ} {made : Made Address} {d₀ : Driver} {f₀ : FreeRegions} {z₀ : Zombies}
    {left : ℕ} {m : Driver} {f : FreeRegions} {z : Zombies} (d : Due s lacks made d₀ f₀ z₀ left m f z) where
  -- nothing is left to be pulled
  pub due-last : ((t : Tables) → Ran (pull d.order s left) d₀.answers.now (stands m (pulling f z t)) (on []) (stands m (pulling f z t))) →
      Pulls s lacks made d₀ f₀ z₀ (Ok tt) m f z
  due-last r =
      let w = d.pullable in
      record {
        lent = d.lent;
        ran = λ t. rw (← append-nil (drop z₀.count (zombies_of z))) (d.rest t _ _ (r t));
        free = w.free;
        zombies = w.zombies;
        most = omega (arith, d.most);
      }

  module _ (positive : 0 < left) (r : FreeRegion) (next : next_to_pull s (besides made (free_of f)) ≡ some r) where
    abbrev others : List FreeRegion
    others = pull_order s (without_free (from r) (besides made (free_of f)))

    more : d.order ≡ r ∷ others
    more = d.ordered positive ∙ pull-next s 0 r (besides made (free_of f)) (rises-besides made 0 (free_of f) d.pullable.due.sound.free_rises) next

    now-due : Pullable left (r ∷ others) f z
    now-due = rw more at d.pullable

    here : Member r (free_of f)
    here = now-due.due.members.0

    wide : WholeRange now-due.around.fields.page (from r) r.size
    wide = member-all _ r (free_of f) here now-due.due.sound.free

    pub part-some : (0 < min left r.size) × (min left r.size ≤ left)
    part-some = (omega (arith, wide.size.positive), omega arith)

    pub room : m.made + 2 ≤ d₀.made + 2 * length (pull_order s (besides made (free_of f₀)))
    room = omega (arith, d.most, ap length more)

    -- the free regions without it
    abbrev without_it : List FreeRegion
    without_it = without_free (from r) (free_of f)

    fewer : suc (length without_it) ≡ length (free_of f)
    fewer = length_without from 0 r (free_of f) now-due.due.sound.free_rises here

    fits : length (free_of f) ≤ SPANS
    fits = omega (arith, now-due.due.few.spans, now-due.few)

    pub zombie-fits : KeptZombies z × (z.count < ZOMBIES)
    zombie-fits = (now-due.zombies, omega (arith, zombies-count z now-due.zombies, now-due.due.zombies))

    ends-below : upto r ≤ END
    ends-below =
        sound-range
        (sound-free now-due.due.sound {hand' = λ x. cover_free (free_of f) x + now-due.hand x} {bare' = λ x. cover_free (free_of f) x + now-due.bare x} [] tt tt
        (λ x. omega arith) (λ x h. omega arith) (λ i. omega arith) tt) (from r) r.size wide.size.positive
        (λ x. omega (arith, sum-member (λ q. within q.start.0 q.size x) r (free_of f) here))

    -- at its place in the table any part of it may be taken
    pub cuttable : (at : ℕ) → at < f.count → region_at f at ≡ r → (taken : ℕ) → taken ≤ r.size → Cuttable f at taken
    cuttable at placed it taken le =
        record {
          kept = now-due.free;
          rises = now-due.due.sound.free_rises;
          placed = placed;
          enough = rw it le;
          ends = rw it ends-below;
          apart = λ h. sound-next now-due.due.sound at empty_region (omega (arith, free-count f now-due.free));
        }

    -- the driver stands at `n` once it is settled
    module _ (n : Driver) where
      pub due-stop : {q : Outcome} → Settles s r m (Err q) n →
          Pulls s lacks made d₀ f₀ z₀ (Err q) n (pack_free (put_rest r.size r without_it)) z
      due-stop {q = q} p =
          let whole : pack_free (put_rest r.size r without_it) ≡ pack_free without_it = ap pack_free (rw (eq-eqb r.size r.size refl)) in
          record {
            lent = lent-then d.lent p.lent;
            ran = λ t. rw (ap free_of whole ∙ free_pack without_it)
                (d.rest t (ends q) _
                (rw more (pulls-stop r others s left positive (pull-stop s left r (settled p t) refl) refl)));
            free = rw whole (free-kept _ (omega (arith, fewer, fits)));
            zombies = now-due.zombies;
            most = omega (arith, p.most, room);
          }
        where
          settled : Settles s r m (Err q) n → (t : Tables) →
              Ran (settle s r) d₀.answers.now (stands m (with_free without_it (pulling f z t))) (ends q) (stands n (with_free without_it (pulling f z t)))
          settled p t = rw d.lent.answers at (p.ran (with_free without_it (pulling f z t)))

      pub due-next : Settles s r m (Ok tt) n →
          Due s lacks made d₀ f₀ z₀ (left - min left r.size) n (pack_free (put_rest (part_of left r).size r without_it))
          (pack_zombies (zombies_of z ++ part_of left r ∷ []))
      due-next p =
          let free-is = free_pack (put_rest (part_of left r).size r without_it) in
          let zombies_are = zombies_pack (zombies_of z ++ part_of left r ∷ []) in
          let w = now-due in
          let longer = length-append (zombies_of z) (part_of left r ∷ []) in
          let parts = drop-append-le z₀.count (zombies_of z) (part_of left r ∷ []) (omega (arith, d.grown, zombies-count z w.zombies)) in
          record {
            order = others;
            pullable =
                record {
                  free = free-kept _ (omega (arith, length-put_rest (part_of left r).size r without_it (omega arith), fewer, fits));
                  zombies = zombies-kept _ (omega (arith, longer, zombies-count z w.zombies, zombie-fits.1));
                  lost = w.lost;
                  hand = w.hand;
                  bare = λ x. w.bare x + within (from r) (min left r.size) x;
                  page = w.page;
                  spans = spans_after w.spans left r;
                  keep = w.keep;
                  around = w.around;
                  few = omega (arith, w.few);
                  due = rw (free-is, zombies_are)
                      (pulling-next w.lost w.hand w.bare w.page left w.spans w.keep r others positive (pulling f z w.around) w.due);
                };
            ordered = λ h. rw free-is (ordered-next h);
            lent = lent-then d.lent p.lent;
            most = omega (arith, p.most, d.most, ap length more);
            grown = omega (arith, d.grown, zombies-count z w.zombies, zombies-packed-count (zombies_of z ++ part_of left r ∷ []), longer);
            rest = λ t g u a.
                rw (zombies_are, parts, ← joined-more (drop z₀.count (zombies_of z)) (part_of left r) g)
                (d.rest t (joined_to (part_of left r ∷ []) g) u
                (rw more (pulls-on r others s left positive (pull-on s left r (settled t) refl) (part_of left r) refl g
                (rw (free-is, zombies_are) at a))));
          }
        where
          settled : (t : Tables) →
              Ran (settle s r) d₀.answers.now (stands m (with_free without_it (pulling f z t))) (on tt) (stands n (with_free without_it (pulling f z t)))
          settled t = rw d.lent.answers at (p.ran (with_free without_it (pulling f z t)))

          ordered-next : 0 < left - min left r.size → others ≡ pull_order s (besides made (put_rest (part_of left r).size r without_it))
          ordered-next h =
              let whole : r.size ≡ min left r.size = omega arith in
              rw (eq-eqb r.size (min left r.size) whole, besides-without made (from r) (free_of f))

      pub due-again : Settles s r m (Ok tt) n → (part : Zombie) → part ≡ part_of left r →
          (f' : FreeRegions) → f' ≡ pack_free (put_rest part.size r without_it) → (z' : Zombies) → z' ≡ pack_zombies (zombies_of z ++ part ∷ []) →
          Due s lacks made d₀ f₀ z₀ (left - part.size) n f' z'
      due-again p part y f' a z' b = rw (a, b, y) (due-next p)

-- a place that `next_to_pull` chose is below the count
pub place-below : (f : FreeRegions) (c : Choice) (i : ℕ) → KeptFree f → Placed (free_of f) c → c ≡ Some i → i < f.count
place-below f c i k p e = omega (arith, placed_at (free_of f) c i p e, free-count f k)
