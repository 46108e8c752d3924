-- Pulling regions: the ids asked and waited for are those of free regions, which are below the counter; what leaves the free table joins the zombies, so
-- just as many pages are mapped.
use mathlib.Core.Path.{◌≡◌, refl, ap}
use mathlib.Core.Bool.{true}
use mathlib.Core.List.{List, [], ◌∷◌, ◌++◌}
use Prim.Native.Nat.{ℕ, ◌+◌, ◌-◌, ◌≤◌, ◌<◌, ◌%◌}
use native.Mathlib.Omega.{arith}
use borrow.Author.Tests.{eqb-false}
use lib.Dec.{eqb}
use Rattle.lists.proofs.Walks.{sum-append}
use Rattle.lists.proofs.Members.{member-all}
use Rattle.words.specs.declared.Word.TheVariants.{Wait}
use Rattle.tables.specs.Bounds.{SPANS}
use Rattle.tables.specs.Values.{Tables, with_free, with_zombies}
use Rattle.tables.specs.Steps.{◌>>=◌, give}
use Rattle.tables.specs.Driver.{wait}
use Rattle.tables.specs.InsertFree.{from, put_rest}
use Rattle.tables.specs.Pull.{settle, pull_one, pull}
use Rattle.tables.specs.declared.FreeRegion.{FreeRegion}
use Rattle.tables.specs.declared.Outcome.{Outcome}
use Rattle.keeping.specs.Cover.{within}
use Rattle.keeping.specs.Sound.{none}
use Rattle.keeping.specs.Pull.{Pulling}
use Rattle.keeping.proofs.Pull.{out_of, part, pulled, taken_of, spans_after, Pulled, pulling-next, pulls}
use Rattle.judge_rules.specs.Rules.{Judge, R9_asked}
use Rattle.judge_rules.specs.Verdict.{recorded, ruled}
use Rattle.judge_rules.specs.declared.Run.{Run}
use Rattle.agreement.specs.Agrees.{Inside, Serving, Agreeing, Ends}
use Rattle.agreement.specs.Judges.{Judges}
use Rattle.agreement.proofs.Judges.{judges-from, judges_to, judges-named, judges_given, judges-and, judges_then, judges-give, judges-change, judges-cond}
use Rattle.agreement.proofs.Words.{seen, judges-must, judges-is_complete}
use Rattle.agreement.proofs.Meets.{agrees-asked}
use Rattle.agreement.proofs.Agrees.{spans_at, agrees_beside}

-- Settling asks and waits for the region's id, and changes nothing.
judges-settle : {P : Tables → Judge → Type 0} {E : Outcome → Tables → Judge → Type 0} (c : ℕ) (r : FreeRegion) →
    ((t : Tables) (s : Judge) → P t s → Inside s.run × ((seen s ≡ s) × (R9_asked s r.id.0 ≡ true))) → Judges P (settle c r) (λ _. P) E
unfolding settle wait recorded ruled
judges-settle {P} c r below =
    judges-cond (eqb r.stream c) (λ _. judges-give tt)
    (λ _. judges_then (λ _. P) (judges-is_complete r.id.0 below)
    (λ done. judges-cond done (λ _. judges-give tt)
    (λ _. judges-must Wait r.id.0 c (λ _. refl)
    (λ t s p few. let q = below t s p in record { inside = q.0; state = s; accepts = rw (q.1.0, q.1.1); holds = p }))))

-- the tables between `out_of` and `pulled`: the first `n` bytes of `r` are a zombie, and its rest is not yet put back
abbrev zombied : ℕ → FreeRegion → Tables → Tables
zombied n r t = with_zombies (t.zombies ++ part n r ∷ []) (out_of r t)

module _ {run : Run} (serving : Serving run) where
  module _ (lost hand bare : ℕ → ℕ) (p lacks c : ℕ) (keep : List FreeRegion) (r : FreeRegion) (l : List FreeRegion) (pos : 0 < lacks) where
    abbrev n : ℕ
    n = taken_of lacks r

    abbrev grown : ℕ → ℕ
    grown x = bare x + within (from r) n x

    -- one region pulled: what free loses the zombies gain
    agrees-pulled : (u : Tables) (v : Judge) → Pulling lost hand bare p lacks c keep (r ∷ l) u → Agreeing run none [] u v → Agreeing run none [] (pulled n r u) v
    agrees-pulled u v w g =
        agrees_beside none g (record { page = refl; va = refl; counter = refl; pages = refl; roots = refl }) spans
      where
        spans : (x : ℕ) → x % u.fields.page ≡ 0 → spans_at (pulled n r u) x + none x ≡ spans_at u x + none x
        spans x e =
            let next = pulling-next lost hand bare p lacks c keep r l pos u w in
            omega (
              arith,
              w.sound.pages_match x e,
              next.sound.pages_match x e,
              sum-append (λ z. within z.start.0 z.size x) u.zombies (part n r ∷ []),
            )

    pulls-one : (s : ℕ) (u : Tables) (v : Judge) {E : Outcome → Tables → Judge → Type 0} → r.id.0 < u.fields.counter → Agreeing run none [] u v →
        Judges (λ t z. (t ≡ u) × (z ≡ v)) (pull_one s lacks r) (λ q t z. (q ≡ part n r) × ((t ≡ pulled n r u) × (z ≡ v))) E
    unfolding pull_one
    pulls-one s u v below g =
        judges_then (λ _ t z. (t ≡ out_of r u) × (z ≡ v)) (judges-change _ (λ t z q. (ap (out_of r) q.0, q.1)))
        (λ _. judges_then (λ _ t z. (t ≡ out_of r u) × (z ≡ v)) (judges-settle s r (λ t z q. rw q.1 (agrees-asked serving g r.id.0 below)))
        (λ _. judges_then (λ _ t z. (t ≡ zombied n r u) × (z ≡ v)) (judges-change _ (λ t z q. (ap (λ (x : Tables). with_zombies (x.zombies ++ part n r ∷ []) x) q.0, q.1)))
        (λ _. judges_then (λ _ t z. (t ≡ pulled n r u) × (z ≡ v)) (judges-change _ (λ t z q. (ap (λ (x : Tables). with_free (put_rest n r x.free) x) q.0, q.1)))
        (λ _. judges-from (λ t z q. (refl, q)) (judges-give (part n r))))))

    judges-pull_one : (s : ℕ) {E : Outcome → Tables → Judge → Type 0} →
        Judges (λ t z. Pulling lost hand bare p lacks c keep (r ∷ l) t × Agreeing run none [] t z) (pull_one s lacks r)
        (λ q t z. (q ≡ part n r) × (Pulling lost hand grown p (lacks - n) (spans_after c lacks r) keep l t × Agreeing run none [] t z)) E
    judges-pull_one s =
        judges-named (λ u v h.
        let below : r.id.0 < u.fields.counter = member-all (λ q. q.id.0 < u.fields.counter) r u.free h.0.members.0 h.0.sound.free_ids in
        judges_to (λ q t z e. (e.0, rw (e.1.0, e.1.1) (pulling-next lost hand bare p lacks c keep r l pos u h.0, agrees-pulled u v h.0 h.1)))
        (pulls-one s u v below h.1))

  agrees-pull : (lost hand bare : ℕ → ℕ) (p s lacks c : ℕ) (keep l : List FreeRegion) {E : Outcome → Tables → Judge → Type 0} →
      Judges (λ t z. Pulling lost hand bare p lacks c keep l t × Agreeing run none [] t z) (pull l s lacks) (λ _. Agreeing run none []) E
  agrees-pull lost hand bare p s lacks c keep [] = judges-from (λ t z q. q.1) (judges-give [])
  agrees-pull lost hand bare p s lacks c keep (r ∷ l) {E} =
      judges-cond (eqb lacks 0)
      (λ e. judges-from (λ t z q. q.1) (judges-give []))
      (λ e. some (omega (arith, eqb-false lacks 0 e)) (agrees-pull lost hand (λ x. bare x + within (from r) (taken_of lacks r) x) p s (lacks - taken_of lacks r) (spans_after c lacks r) keep l))
    where
      n : ℕ
      n = taken_of lacks r

      Next : Tables → Judge → Type 0
      Next t z =
          Pulling lost hand (λ x. bare x + within (from r) n x) p (lacks - n) (spans_after c lacks r) keep l t × Agreeing run none [] t z

      some : 0 < lacks → Judges Next (pull l s (lacks - n)) (λ _. Agreeing run none []) E →
          Judges (λ t z. Pulling lost hand bare p lacks c keep (r ∷ l) t × Agreeing run none [] t z)
          (pull_one s lacks r >>= λ q. pull l s (lacks - q.size) >>= λ zs. give (q ∷ zs)) (λ _. Agreeing run none []) E
      some pos next =
          judges_then (λ q t z. (q ≡ part n r) × Next t z) (judges-pull_one lost hand bare p lacks c keep r l pos s)
          (λ q. judges_given (λ k. rw k (judges_then (λ _. Agreeing run none []) next (λ zs. judges-give (part n r ∷ zs)))))

  -- Pulling as much as lacks, in the order given.
  pub judges-pull : (lost hand bare : ℕ → ℕ) (p s lacks c : ℕ) (keep l : List FreeRegion) → c ≤ SPANS →
      Judges (λ t z. Pulling lost hand bare p lacks c keep l t × Agreeing run none [] t z) (pull l s lacks)
      (λ zs t z. Pulled lost hand bare p lacks c keep l zs t × Agreeing run none [] t z) (Ends run lost)
  judges-pull lost hand bare p s lacks c keep l bound =
      judges-and (pulls lost hand bare p s lacks c keep l bound) (agrees-pull lost hand bare p s lacks c keep l)
