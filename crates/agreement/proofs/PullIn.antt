-- Pull in: regions are pulled and their pages moved to a range in hand, whose pages are then mapped, as access asks; inserted as free, the range is one that
-- the tables have.
use mathlib.Core.Path.{◌≡◌, refl}
use mathlib.Core.List.{List, []}
use Prim.Native.Nat.{ℕ, ◌+◌, ◌-◌}
use native.Mathlib.Omega.{arith}
use Rattle.lists.specs.Tests.{All, Member}
use Rattle.lists.specs.Walks.{sum}
use Rattle.words.specs.declared.Word.TheVariants.{Access}
use Rattle.tables.specs.Bounds.{SPANS}
use Rattle.tables.specs.Values.{Tables}
use Rattle.tables.specs.Steps.{◌>>◌}
use Rattle.tables.specs.Driver.{must, access}
use Rattle.tables.specs.InsertFree.{bytes, insert_free}
use Rattle.tables.specs.NewPages.{Room}
use Rattle.tables.specs.Pull.{pages_in, move_pages, pull_in}
use Rattle.tables.specs.declared.FreeRegion.{FreeRegion}
use Rattle.tables.specs.declared.Zombie.{Zombie}
use Rattle.tables.specs.declared.Outcome.{Outcome}
use Rattle.keeping.specs.Cover.{within}
use Rattle.keeping.specs.Sound.{none, WholeRange}
use Rattle.keeping.specs.Pull.{Pulling, place, filling, order, Spare}
use Rattle.keeping.specs.Move.{Movable}
use Rattle.keeping.proofs.Pull.{Pulled}
use Rattle.keeping.proofs.Move.{Moved}
use Rattle.keeping.proofs.PullIn.{PulledIn, spare-most, pulled-spare, pulled_fills, moved-inserting}
use Rattle.judge_rules.specs.Rules.{Judge}
use Rattle.judge_rules.specs.declared.Run.{Run}
use Rattle.agreement.specs.Agrees.{Serving, Agreeing, Ends}
use Rattle.agreement.specs.Judges.{Judges}
use Rattle.agreement.proofs.Judges.{judges-from, judges_to, judges_then, judges_looked-at}
use Rattle.agreement.proofs.Words.{judges-must}
use Rattle.agreement.proofs.Access.{accepts-access}
use Rattle.agreement.proofs.Agrees.{agrees_as}
use Rattle.agreement.proofs.InsertFree.{judges-insert_free-agreeing}
use Rattle.agreement.proofs.Pull.{judges-pull}
use Rattle.agreement.proofs.Move.{judges-moves}

module _ {run : Run} (serving : Serving run) where
  module _ (lost rest : ℕ → ℕ) (p lacks c : ℕ) (keep others : List FreeRegion) (o : Room) where
    -- where the range to be filled starts, and what is in hand
    abbrev to : ℕ
    to = place o

    abbrev hand : ℕ → ℕ
    hand = filling rest lacks o

    module _ (range : WholeRange p to lacks) (spare : Spare lacks c others) where
      -- the pages are moved into the range: the judge has just them mapped beside what the tables have
      abbrev Filled : ℕ → List FreeRegion → Tables → Judge → Type 0
      Filled n l t s = Moved lost hand p to n (SPANS - 1) l t × Agreeing run (within to n) [] t s

      judges-access : (n : ℕ) (l : List FreeRegion) {E : Outcome → Tables → Judge → Type 0} → n ≡ lacks →
          Judges (Filled n l) (must (access to lacks)) (λ _. Filled n l) E
      unfolding access
      judges-access n l e =
          judges-must Access to lacks (λ _. refl)
          (λ t s q few. accepts-access serving to lacks q.1 q.0.sound.page (rw q.0.page range) (λ x. rw e (omega arith)) q)

      fills : (zs : List Zombie) (l : List FreeRegion) → sum (λ z. z.size) zs ≡ lacks → All (λ q. Member q l) keep →
          Judges (λ t s. Movable lost hand p to (SPANS - 1) l zs t × Agreeing run none [] t s)
          (move_pages (pages_in p zs) to >> (must (access to lacks) >> insert_free to lacks o.stream))
          (λ r t s. PulledIn lost rest p to lacks o.stream keep r t × Agreeing run none [] t s) (Ends run lost)
      fills zs l total kept =
          let n = sum (λ z. z.size) zs in
          judges_then (λ _. Filled n l) (judges-moves serving lost hand p to (SPANS - 1) l zs (omega arith))
          (λ _. judges_then (λ _. Filled n l) (judges-access n l total)
          (λ _. judges-from
          (λ t s q. (
            moved-inserting lost rest p lacks c keep others o range spare n l t total q.0,
            agrees_as (λ x. none x + within to lacks x) q.1 (λ x _. rw total (omega arith)),
          ))
          (judges_to (λ r t s q. (record { before = l; inserted = q.0; kept = kept }, q.1))
          (judges-insert_free-agreeing serving lost rest none none p (bytes l) to lacks o.stream l []))))

      pub judges-pull_in : Judges (λ t s. Pulling lost hand none p lacks c keep (order others o) t × Agreeing run none [] t s) (pull_in o lacks others)
          (λ r t s. PulledIn lost rest p to lacks o.stream keep r t × Agreeing run none [] t s) (Ends run lost)
      unfolding pull_in
      judges-pull_in =
          judges_then (λ zs t s. Pulled lost hand none p lacks c keep (order others o) zs t × Agreeing run none [] t s)
          (judges-pull serving lost hand none p o.stream lacks c keep (order others o) (spare-most lost rest p lacks c keep others o spare))
          (λ zs. judges_looked-at (λ u w.
          let v = pulled-spare lost rest p lacks c keep others o range spare zs u w in
          judges-from {P = λ t s. Movable lost hand p to (SPANS - 1) u.free zs t × Agreeing run none [] t s}
          (λ t s q. rw q.0 (pulled_fills lost rest p lacks c keep others o range spare zs u v, q.1))
          (rw w.page (fills zs u.free v.total v.kept))))
