-- Make room: a range is taken, the missing pages are made in it and become free, and the free bytes fill the rest.
use mathlib.Core.Path.{◌≡◌}
use mathlib.Core.List.{[]}
use Prim.Native.Nat.{ℕ, ◌-◌, ◌/◌, ◌%◌}
use Rattle.tables.specs.Steps.{◌>>=◌, ◌>>◌}
use Rattle.tables.specs.NewPages.{make_pages, insert_new}
use Rattle.tables.specs.MakeRoom.{fill, make_room}
use Rattle.keeping.specs.Sound.{none, Whole}
use Rattle.keeping.specs.MakeRoom.{TakesFrom, Made}
use Rattle.keeping.proofs.TakeRange.{TakenRange}
use Rattle.keeping.proofs.Fill.{Ready}
use Rattle.keeping.proofs.MakeRoom.{Roomed, aligned-missing, count, taken, taken-begins, taken-measured}
use Rattle.judge_rules.specs.declared.Run.{Run}
use Rattle.keeping.specs.Cover.{within}
use Rattle.agreement.specs.Agrees.{Serving, Agreeing, Ends}
use Rattle.agreement.specs.Judges.{Judges}
use Rattle.agreement.proofs.Judges.{judges-from, judges-named, judges_then, judges-known}
use Rattle.agreement.proofs.TakeRange.{judges-take_range}
use Rattle.agreement.proofs.NewPages.{judges-missing}
use Rattle.agreement.proofs.InsertNew.{judges-insert_new}
use Rattle.agreement.proofs.Fill.{judges-fill}

module _ {run : Run} (serving : Serving run) (lost : ℕ → ℕ) (n k p f : ℕ) where
  makes-taken : (size : Whole p n) (pages : (n - f) % p ≡ 0) (a : ℕ) →
      Judges (λ t s. TakenRange lost p f (count lost p f n k) n a t × Agreeing run none [] t s)
      (make_pages (count lost p f n k) (taken lost p f n k a) a >> (insert_new (taken lost p f n k a) >>= λ r. fill (taken lost p f n k a) r))
      (λ r t s. Roomed lost f n k r t × Agreeing run none [] t s) (Ends run lost)
  makes-taken size pages a =
      let o = taken lost p f n k a in
      judges-named (λ u v w.
      judges-from (λ t s e. rw (e.0, e.1) (taken-begins lost p f n k size pages a u w.0, w.1))
      (judges_then (λ _ t s. Made lost p f o t × Agreeing run (within o.start o.missing) [] t s) (judges-missing serving lost p f o pages) (λ _.
      judges_then (λ r t s. Ready lost p f o r t × Agreeing run none [] t s) (judges-insert_new serving lost p f o)
      (judges-fill serving lost p f o (taken-measured lost p f n k size pages a u w.0)))))

  pub judges-make_room : Judges (λ t s. TakesFrom lost p f ((n - f) / p) n t × Agreeing run none [] t s) (make_room n k)
      (λ r t s. Roomed lost f n k r t × Agreeing run none [] t s) (Ends run lost)
  unfolding make_room
  judges-make_room =
      judges-named (λ u v w.
      judges-known u (λ x e. rw e
      (judges-from {P = λ t s. TakesFrom lost p f (count lost p f n k) n t × Agreeing run none [] t s} (λ t s q. rw (q.0, q.1) w)
      (rw (w.0.known.page, w.0.known.free)
      (judges_then (λ a t s. TakenRange lost p f (count lost p f n k) n a t × Agreeing run none [] t s) (judges-take_range serving lost p f (count lost p f n k) n)
      (makes-taken (rw w.0.known.page at w.0.size) (aligned-missing lost p f (count lost p f n k) n u w.0)))))))
