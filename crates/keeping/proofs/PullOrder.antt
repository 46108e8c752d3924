-- The order in which regions are pulled only rearranges them: whatever is counted counts the same, so what is to be pulled has distinct starts and
-- all its bytes.
use mathlib.Core.Path.{◌≡◌, sym, ◌∙◌}
use mathlib.Core.List.{List, [], ◌∷◌}
use Prim.Native.Nat.{ℕ, ◌+◌, ◌≤◌, ◌%◌}
use native.Mathlib.Omega.{arith}
use lib.Dec.{eqb}
use lib.ListN.{length}
use Rattle.lists.specs.Tests.{All, Member}
use Rattle.lists.specs.Order.{sorted}
use Rattle.lists.specs.Walks.{sum}
use Rattle.lists.proofs.Tests.{all_append, all_filter}
use Rattle.lists.proofs.Order.{sum-sorted, all-sorted}
use Rattle.lists.proofs.Walks.{length-sum, sum-append, sum-filter}
use Rattle.lists.proofs.Members.{all-members, all_without, sum-without}
use Rattle.tables.specs.Values.{Tables, with_free}
use Rattle.tables.specs.InsertFree.{from, bytes, without_free}
use Rattle.tables.specs.Pull.{own_of, others_of, pull_order}
use Rattle.tables.specs.declared.FreeRegion.{FreeRegion}
use Rattle.keeping.specs.Cover.{equal}
use Rattle.keeping.specs.Sound.{Sound, none}
use Rattle.keeping.specs.Counts.{Few, Pullable}
use Rattle.keeping.specs.Pull.{Pulling}
use Rattle.keeping.proofs.Counting.{rises-once}

module _ (s : ℕ) (l : List FreeRegion) where
  pub sum-pull_order : (f : FreeRegion → ℕ) → sum f (pull_order s l) ≡ sum f l
  sum-pull_order f =
      omega (
        arith,
        sum-append f (sorted (λ r. r.id.0) (own_of s l)) (sorted (λ r. r.id.0) (others_of s l)),
        sum-sorted (λ r. r.id.0) f (own_of s l),
        sum-sorted (λ r. r.id.0) f (others_of s l),
        sum-filter f (λ r. eqb r.stream s) l,
      )

  pub length-pull_order : length (pull_order s l) ≡ length l
  length-pull_order = length-sum (pull_order s l) ∙ sum-pull_order (λ r. 1) ∙ sym (length-sum l)

  pub all-pull_order : (P : FreeRegion → Type 0) → All P l → All P (pull_order s l)
  all-pull_order P a =
      all_append P (sorted (λ r. r.id.0) (own_of s l)) (sorted (λ r. r.id.0) (others_of s l))
      (all-sorted (λ r. r.id.0) P (own_of s l) (all_filter P _ l a))
      (all-sorted (λ r. r.id.0) P (others_of s l) (all_filter P _ l a))

-- What pulling starts from: the free table is made up of the regions `l`, which have all that lacks, and of `keep`.
module _ (lost hand : ℕ → ℕ) (p s lacks c : ℕ) (t : Tables) (sound : Sound lost hand none t) (few : Few 0 c t) (page : t.fields.page ≡ p) (aligned : lacks % p ≡ 0) where
  pulling-first : (keep l : List FreeRegion) → All (λ r. Member r t.free) keep → All (λ r. Member r t.free) l →
      ((f : FreeRegion → ℕ) → sum f l + sum f keep ≡ sum f t.free) → Pullable (with_free l t) → lacks ≤ bytes l →
      Pulling lost hand none p lacks c keep (pull_order s l) t
  pulling-first keep l kept members parts pullable enough =
      record {
        sound = sound;
        members = all-pull_order s l (λ r. Member r t.free) members;
        kept = kept;
        apart = λ a.
            omega (
              arith,
              sum-pull_order s l (λ r. equal r.start.0 a),
              parts (λ r. equal r.start.0 a),
              rises-once from 0 a t.free sound.free_rises,
            );
        zombies = omega (arith, pullable.zombies, length-pull_order s l);
        holes = omega (arith, pullable.holes, length-pull_order s l);
        few = few;
        lacking = (aligned, page);
        enough = omega (arith, sum-pull_order s l (λ r. r.size));
        among = λ x. omega arith;
      }

  -- all regions are pulled from
  pub pulling-all : Pullable t → lacks ≤ bytes t.free → Pulling lost hand none p lacks c [] (pull_order s t.free) t
  pulling-all pullable enough =
      pulling-first [] t.free tt (all-members _ t.free (λ r m. m)) (λ f. omega arith)
      (record { zombies = pullable.zombies; holes = pullable.holes }) enough

  -- all but `r`, which stays: it need not be pullable
  pub pulling-others : (r : FreeRegion) → Member r t.free → Pullable (with_free (without_free (from r) t.free) t) →
      lacks ≤ bytes (without_free (from r) t.free) → Pulling lost hand none p lacks c (r ∷ []) (pull_order s (without_free (from r) t.free)) t
  pulling-others r m pullable enough =
      pulling-first (r ∷ []) (without_free (from r) t.free) (m, tt) (all_without from _ (from r) t.free (all-members _ t.free (λ q k. k)))
      (λ f. omega (arith, sum-without from f 0 r t.free sound.free_rises m)) pullable enough
