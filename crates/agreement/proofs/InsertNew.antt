-- The new pages, made accessible and inserted as free: every page of their range is mapped.
use mathlib.Core.Path.{◌≡◌, refl}
use mathlib.Core.List.{[]}
use mathlib.Core.Option.{some, none}
use Prim.Native.Nat.{ℕ, ◌+◌, ◌-◌, ◌<◌}
use native.Mathlib.Omega.{arith}
use borrow.Author.Tests.{eqb-true, eqb-false}
use lib.Dec.{eqb}
use Rattle.words.specs.declared.Word.TheVariants.{Access}
use Rattle.tables.specs.Values.{Tables}
use Rattle.tables.specs.Steps.{◌>>=◌, ◌>>◌, give}
use Rattle.tables.specs.Driver.{must, access}
use Rattle.tables.specs.InsertFree.{insert_free}
use Rattle.tables.specs.NewPages.{Room, insert_new}
use Rattle.tables.specs.declared.Outcome.{Outcome}
use Rattle.keeping.specs.Cover.{within}
use Rattle.keeping.specs.Sound as S
use Rattle.keeping.specs.MakeRoom.{Made}
use Rattle.keeping.proofs.Cover.{within_none}
use Rattle.keeping.proofs.NewPages.{made-whole}
use Rattle.keeping.proofs.Fill.{Ready, made-inserting, inserts-new}
use Rattle.judge_rules.specs.Rules.{Judge}
use Rattle.judge_rules.specs.declared.Run.{Run}
use Rattle.agreement.specs.Agrees.{Serving, Agreeing, Ends}
use Rattle.agreement.specs.Judges.{Judges}
use Rattle.agreement.proofs.Judges.{judges-from, judges_to, judges-ends, judges-named, judges-and, judges_then, judges-give, judges-cond}
use Rattle.agreement.proofs.Words.{judges-must}
use Rattle.agreement.proofs.Agrees.{agrees_as}
use Rattle.agreement.proofs.Access.{accepts-access}
use Rattle.agreement.proofs.InsertFree.{judges-insert_free-agreeing}

module _ {run : Run} (serving : Serving run) (lost : ℕ → ℕ) (p f : ℕ) (o : Room) where
  abbrev a : ℕ
  a = o.start

  abbrev m : ℕ
  m = o.missing

  -- all missing pages are made, and mapped
  abbrev MadeThere : Tables → Judge → Type 0
  MadeThere t z = Made lost p f o t × Agreeing run (within a m) [] t z

  inserts : {E : Outcome → Tables → Judge → Type 0} → 0 < m →
      Judges MadeThere (must (access a m) >> (insert_free a m o.stream >>= λ r. give (some r))) (λ _ t z. Agreeing run S.none [] t z) E
  unfolding access
  inserts {E} pos =
      judges_then (λ _. MadeThere) (judges-must Access a m (λ _. refl) (λ t z q few. accepts-access serving a m q.1 q.0.sound.page (made-whole lost p f a o.size m t q.0 pos) (λ x. omega arith) q)) (λ _.
      judges-named (λ u v q.
      judges-from (λ t z e. rw (e.0, e.1) (made-inserting lost p f o pos u q.0, agrees_as (λ x. S.none x + within a m x) q.1 (λ x e. omega arith)))
      (judges_then (λ _ t z. Agreeing run S.none [] t z)
      (judges_to (λ r t z q. q.1)
      (judges-ends (λ i t z q. q.1) (judges-insert_free-agreeing serving lost rest S.none S.none p f a m o.stream u.free [] {E = E}))) (λ r.
      judges-give (some r)))))
    where
      rest : ℕ → ℕ
      rest = within (a + m) (o.size - m)

  pub judges-insert_new :
      Judges (λ t z. Made lost p f o t × Agreeing run (within o.start o.missing) [] t z) (insert_new o)
      (λ r t z. Ready lost p f o r t × Agreeing run S.none [] t z) (Ends run lost)
  unfolding insert_new
  judges-insert_new =
      judges-and (inserts-new lost p f o)
      (judges-cond (eqb m 0)
      (λ e. judges-from (λ t z q. agrees_as S.none q.1 (λ x _. nothing x (eqb-true m 0 e))) (judges-give none))
      (λ e. inserts (omega (arith, eqb-false m 0 e))))
    where
      nothing : (x : ℕ) → m ≡ 0 → within a m x ≡ 0
      nothing x e = rw e (within_none a x)
