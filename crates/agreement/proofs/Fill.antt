-- Fill: nothing is read where the new region is enough; else regions are pulled into what is left of the range.
use mathlib.Core.Path.{◌≡◌, refl}
use mathlib.Core.Logic.{inl}
use mathlib.Core.List.{[], ◌∷◌}
use mathlib.Core.Option.{Option, some, none}
use Prim.Native.Nat.{ℕ, ◌-◌}
use native.Mathlib.Omega.{arith}
use borrow.Author.Tests.{leb-false}
use lib.Dec.{leb}
use Rattle.tables.specs.Bounds.{SPANS}
use Rattle.tables.specs.NewPages.{Room}
use Rattle.tables.specs.MakeRoom.{fill}
use Rattle.tables.specs.declared.FreeRegion.{FreeRegion}
use Rattle.keeping.specs.Sound as S
use Rattle.keeping.specs.MakeRoom.{Made, Measured}
use Rattle.keeping.proofs.Fill.{
  Newly,
  Ready,
  all-range,
  all-due,
  fills-all,
  lacks,
  others,
  left,
  behind-due,
  behind-range,
  behind-spare,
  fills-rest,
}
use Rattle.keeping.proofs.MakeRoom.{Dropped, Roomed, filled-roomed, newly-dropped}
use Rattle.judge_rules.specs.declared.Run.{Run}
use Rattle.agreement.specs.Agrees.{Serving, Agreeing, Ends}
use Rattle.agreement.specs.Judges.{Judges}
use Rattle.agreement.proofs.Judges.{judges-from, judges_to, judges-ends, judges_given, judges-and, judges-give, judges_looked-at, judges-cond}
use Rattle.agreement.proofs.PullIn.{judges-pull_in}

module _ {run : Run} (serving : Serving run) (lost : ℕ → ℕ) (p f : ℕ) (o : Room) (g : Measured p f o) where
  -- the free bytes suffice: they fill the whole range
  agrees-all : o.missing ≡ 0 → Judges (λ t s. Made lost p f o t × Agreeing run S.none [] t s) (fill o none) (λ _. Agreeing run S.none []) (Ends run lost)
  unfolding fill
  agrees-all z =
      judges_looked-at (λ u w.
      judges-from (λ t s q. (rw q.0 (all-due lost p f o g z u w), rw q.0 q.1))
      (judges_to (λ r t s q. q.1)
      (judges-pull_in serving lost S.none p o.size (SPANS - 1) [] u.free o (all-range lost p f o g z) (inl (omega arith)))))

  -- pages were missing: what else was free is pulled behind them
  agrees-rest : (r : FreeRegion) → Judges (λ t s. Newly lost p f o r t × Agreeing run S.none [] t s) (fill o (some r)) (λ _. Agreeing run S.none []) (Ends run lost)
  unfolding fill
  agrees-rest r =
      judges_looked-at (λ u w.
      judges-cond (leb o.size r.size)
      (λ e. judges-from (λ t s q. rw q.0 q.1) (judges-give r))
      (λ e.
      let short = leb-false o.size r.size e in
      judges-from (λ t s q. (rw q.0 (behind-due lost p f o g r u w short), rw q.0 q.1))
      (judges_to (λ r t s q. q.1)
      (judges-pull_in serving lost (left lost p f o g r u w short) p (lacks lost p f o g r u w short) SPANS (r ∷ []) (others lost p f o g r u w short) o
      (behind-range lost p f o g r u w short) (behind-spare lost p f o g r u w short)))))

  pub judges-fill : (x : Option FreeRegion) → Judges (λ t s. Ready lost p f o x t × Agreeing run S.none [] t s) (fill o x)
      (λ r t s. Roomed lost f o.size o.stream r t × Agreeing run S.none [] t s) (Ends run lost)
  judges-fill none =
      judges-from {P = λ t s. (o.missing ≡ 0) × (Made lost p f o t × Agreeing run S.none [] t s)} (λ t s q. (q.0.0, (q.0.1, q.1)))
      (judges_given (λ z.
      judges_to (λ r t s q. (filled-roomed lost f o.size o.stream 0 r t (record { most = omega arith; enough = λ h. refl }) q.0, q.1))
      (judges-ends (λ o t s q. q.1) (judges-and (fills-all lost p f o g z) (agrees-all z)))))
  judges-fill (some r) =
      judges-from {P = λ t s. Dropped f o.size (r.size - o.missing) × (Newly lost p f o r t × Agreeing run S.none [] t s)}
      (λ t s q. (newly-dropped lost p f o g r t q.0, q))
      (judges_given (λ d.
      judges_to (λ q t s h. (filled-roomed lost f o.size o.stream (r.size - o.missing) q t d h.0, h.1))
      (judges-ends (λ o t s q. q.1) (judges-and (fills-rest lost p f o g r) (agrees-rest r)))))
