-- Fit: the events of free regions were recorded, so they may be asked for; a region taken over by another stream lies where it lay.
use mathlib.Core.Path.{◌≡◌, refl}
use mathlib.Core.Bool.{Bool, true, false, cond}
use mathlib.Core.List.{List, [], ◌∷◌, map}
use mathlib.Core.Option.{Option, some, none as no}
use Prim.Native.Nat.{ℕ, ◌<◌}
use native.Mathlib.Omega.{arith}
use lib.Dec.{leb, eqb}
use Rattle.lists.specs.Tests.{All}
use Rattle.lists.proofs.Tests.{all_filter}
use Rattle.tables.specs.Values.{Tables}
use Rattle.tables.specs.InsertFree.{from}
use Rattle.tables.specs.Pull.{own_of}
use Rattle.tables.specs.Fit.{candidates, smallest, ask_all, on_stream, take_over, or_other, fit}
use Rattle.tables.specs.declared.FreeRegion.{FreeRegion}
use Rattle.tables.specs.declared.Outcome.{Outcome}
use Rattle.keeping.specs.Cover.{within, cover_free}
use Rattle.keeping.specs.Sound.{none, Kept, Left}
use Rattle.keeping.specs.Counts.{Few, Known}
use Rattle.keeping.proofs.Fit.{Fitted, fits}
use Rattle.judge_rules.specs.Rules.{Judge}
use Rattle.judge_rules.specs.declared.Run.{Run}
use Rattle.agreement.specs.Agrees.{Serving, Agreeing}
use Rattle.agreement.specs.Judges.{Judges}
use Rattle.agreement.proofs.Judges.{judges-from, judges-named, judges-and, judges_then, judges-give, judges-known, judges-change}
use Rattle.agreement.proofs.Words.{judges-is_complete}
use Rattle.agreement.proofs.Meets.{agrees-asked}
use Rattle.agreement.proofs.Agrees.{agrees_beside}

abbrev taken : ℕ → FreeRegion → FreeRegion → FreeRegion
taken s r q = cond (eqb (from q) (from r)) (on_stream s q) q

cover-taken : (s : ℕ) (r : FreeRegion) (l : List FreeRegion) (x : ℕ) → cover_free (map (taken s r) l) x ≡ cover_free l x
cover-taken s r [] x = refl
cover-taken s r (q ∷ l) x = omega (arith, same (eqb (from q) (from r)), cover-taken s r l x)
  where
    same : (b : Bool) → within (cond b (on_stream s q) q).start.0 (cond b (on_stream s q) q).size x ≡ within (from q) q.size x
    same true = refl
    same false = refl

module _ {run : Run} (serving : Serving run) {E : Outcome → Tables → Judge → Type 0} where
  asks-all : (u : Tables) (v : Judge) → Agreeing run none [] u v → (l : List FreeRegion) → All (λ r. r.id.0 < u.fields.counter) l →
      Judges (λ t s. (t ≡ u) × (s ≡ v)) (ask_all l) (λ _ t s. (t ≡ u) × (s ≡ v)) E
  asks-all u v g [] known = judges-give []
  asks-all u v g (r ∷ l) known =
      judges_then (λ _ t s. (t ≡ u) × (s ≡ v)) (judges-is_complete r.id.0 (λ t s q. rw q.1 (agrees-asked serving g r.id.0 known.0))) (λ c.
      judges_then (λ _ t s. (t ≡ u) × (s ≡ v)) (asks-all u v g l known.1) (λ done. judges-give (cond c (r ∷ done) done)))

  takes-over : (n : ℕ) (o : Option FreeRegion) → Judges (Agreeing run none []) (take_over n o) (λ _. Agreeing run none []) E
  unfolding take_over
  takes-over n no = judges-give no
  takes-over n (some r) =
      judges_then (λ _. Agreeing run none [])
      (judges-change _ (λ t s g. agrees_beside none g (record { page = refl; va = refl; counter = refl; pages = refl; roots = refl })
      (λ x e. omega (arith, cover-taken n r t.free x)))) (λ _. judges-give (some (on_stream n r)))

  other : (n : ℕ) (u : Tables) (v : Judge) → Agreeing run none [] u v → (l : List FreeRegion) → All (λ r. r.id.0 < u.fields.counter) l → (o : Option FreeRegion) →
      Judges (λ t s. (t ≡ u) × (s ≡ v)) (or_other n l o) (λ _. Agreeing run none []) E
  unfolding or_other
  other n u v g l known (some r) = judges-from (λ t s q. rw (q.0, q.1) g) (judges-give (some r))
  other n u v g l known no =
      judges_then (λ _ t s. (t ≡ u) × (s ≡ v)) (asks-all u v g l known) (λ done. judges-from (λ t s q. rw (q.0, q.1) g) (takes-over n (smallest done)))

  pub judges-fit : (lost : ℕ → ℕ) (p f c n k : ℕ) →
      Judges (λ t s. (Kept lost t × (Few 0 c t × Known p f t)) × Agreeing run none [] t s) (fit n k)
      (λ o t s. Fitted lost p f c n o t × Agreeing run none [] t s) (λ o t s. Left lost o t × E o t s)
  unfolding fit
  judges-fit lost p f c n k =
      judges-and (fits lost p f c n k)
      (judges-named (λ u v q.
      judges-known u (λ w e. rw e
      (other k u v q.1 (candidates n u.free) (all_filter _ (λ r. leb n r.size) u.free q.0.0.sound.free_ids) (smallest (own_of k (candidates n u.free)))))))
