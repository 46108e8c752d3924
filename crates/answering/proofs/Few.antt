-- How many records a close leaves: one for the sync, one for each zombie and root, two for each page. Every step leaves at most as many as it makes driver
-- calls, whatever it is answered, and what is asked for is within the ceilings, of a stopped pool too.
use mathlib.Core.Path.{◌≡◌}
use mathlib.Core.Bool.{true, not, ◌&&◌, ◌||◌}
use mathlib.Core.List.{List, [], ◌∷◌}
use Prim.Native.Nat.{ℕ, ◌+◌, ◌*◌, ◌≤◌}
use native.Mathlib.Omega.{arith}
use borrow.Author.Tests.{not-false}
use lib.Dec.{ltb, eqb}
use lib.ListN.{length, length-append}
use Rattle.lists.proofs.Tests.{both}
use Rattle.words.specs.declared.Record.{Record}
use Rattle.words.specs.declared.Answer.{Answer}
use Rattle.tables.specs.Bounds.{LOG, PAGES, ROOTS, ZOMBIES}
use Rattle.tables.specs.Values.{Tables, closed, opened, stopped, at_entry}
use Rattle.tables.specs.Steps.{Ending, on, ends, Step, Act, after, ◌>>=◌, each}
use Rattle.tables.specs.Driver.{try, unmap, release, sync, giveback}
use Rattle.tables.specs.WellFormed.{ceilings_kept, sound, well_formed}
use Rattle.tables.specs.HandsBack.{Reply}
use Rattle.tables.specs.Close.{close_steps, close_finished, close}
use Rattle.tables.specs.Calls.{closes, answer}
use Rattle.tables.specs.declared.Pool.{Pool}
use Rattle.keeping.proofs.WellFormedEnters.{ceilings-read}
use Rattle.answering.proofs.Calls.{tested, either_way}

-- A step that leaves at most `n` records.
record AtMost {A : Type 0} (n : ℕ) (m : Step A) : Type 0 where
  records : (xs : List ℕ) (k : ℕ) (t : Tables) → length (m xs k t).records ≤ n

at-most_then : {A B : Type 0} {m : Step A} {f : A → Step B} (i j : ℕ) → AtMost i m → ((a : A) → AtMost j (f a)) → AtMost (i + j) (m >>= f)
unfolding ◌>>=◌
at-most_then {A} {B} {m} {f} i j h g = record { records = λ xs k t. go xs k (m xs k t).tables (m xs k t).records (m xs k t).ending (h.records xs k t) }
  where
    go : (xs : List ℕ) (k : ℕ) (t : Tables) (rs : List Record) (e : Ending A) → length rs ≤ i → length (after f xs k t rs e).records ≤ i + j
    go xs k t rs (on a) q = simp length-append (omega (arith, (g a).records xs (k + length rs) t))
    go xs k t rs (ends o) q = omega arith

at-most-each : {A : Type 0} {f : A → Act} (n : ℕ) → ((x : A) → AtMost n (f x)) → (l : List A) → AtMost (n * length l) (each f l)
at-most-each n h [] = record { records = λ xs k t. omega arith }
at-most-each {A} {f} n h (x ∷ l) =
    let q = at-most_then n (n * length l) (h x) (λ _. at-most-each n h l) in
    record { records = λ xs k t. omega (arith, q.records xs k t) }

-- a driver call leaves one, and a failure that is passed over none
at-most-try : {m : Step Answer} → AtMost 1 m → AtMost 1 (try m)
at-most-try h = at-most_then 1 0 h (λ _. record { records = λ xs k t. omega arith })

at-most-unmap : (a n : ℕ) → AtMost 1 (unmap a n)
unfolding unmap
at-most-unmap a n = record { records = λ xs k t. omega arith }

at-most-release : (h : ℕ) → AtMost 1 (release h)
unfolding release
at-most-release h = record { records = λ xs k t. omega arith }

at-most-sync : (s : ℕ) → AtMost 1 (sync s)
unfolding sync
at-most-sync s = record { records = λ xs k t. omega arith }

at-most-giveback : (a va : ℕ) → AtMost 1 (giveback a va)
unfolding giveback
at-most-giveback a va = record { records = λ xs k t. omega arith }

-- as many as there are driver calls to make
close_steps-few : (xs : List ℕ) (k : ℕ) (t : Tables) →
    length (close_steps xs k t).records ≤ 1 + (1 * length t.zombies + (2 * length t.pages + 1 * length t.roots))
unfolding close_steps ◌>>=◌
close_steps-few xs k t =
    (at-most_then 1 (1 * length t.zombies + (2 * length t.pages + 1 * length t.roots)) (at-most-try (at-most-sync 0)) (λ _.
    at-most_then (1 * length t.zombies) (2 * length t.pages + 1 * length t.roots)
    (at-most-each 1 (λ z. at-most-try (at-most-unmap z.start.0 z.size)) t.zombies) (λ _.
    at-most_then (2 * length t.pages) (1 * length t.roots)
    (at-most-each 2 (λ g. at-most_then 1 1 (at-most-try (at-most-unmap _ _)) (λ _. at-most-try (at-most-release g.handle.0))) t.pages) (λ _.
    at-most-each 1 (λ a. at-most-try (at-most-giveback a.0 t.fields.va)) t.roots)))).records xs (k + 0) t

-- A close leaves no more records than this, of any pool and whatever it is lent.
pub close-few : (p : Pool) (xs : List ℕ) (log : ℕ) → length (answer p closes xs log).records ≤ ZOMBIES + 2 * PAGES + ROOTS + 1
unfolding close close_finished well_formed
close-few p xs log =
    let few : Reply → Type 0 = λ r. length r.records ≤ ZOMBIES + 2 * PAGES + ROOTS + 1 in
    let w = close_steps xs 0 (at_entry p) in
    either_way few (eqb p.state closed) _ _ (omega arith)
    (tested few (not (well_formed p)) _ _ (omega arith) (λ formed.
    either_way few (ltb log LOG) _ _ (omega arith)
    (left w.records w.ending
    (omega (arith, close_steps-few xs 0 (at_entry p), ceilings-read p (kept (not-false (well_formed p) formed)))))))
  where
    kept : well_formed p ≡ true → ceilings_kept p ≡ true
    kept w = (both (ceilings_kept p) (eqb p.state stopped || (eqb p.state opened && sound (at_entry p))) w).0

    left : (rs : List Record) (e : Ending (Unit {0})) → length rs ≤ ZOMBIES + 2 * PAGES + ROOTS + 1 →
        length (close_finished p rs e).records ≤ ZOMBIES + 2 * PAGES + ROOTS + 1
    left rs (on u) h = h
    left rs (ends o) h = h
