-- The rules of `Hears`: one for each way that a step is made.
use mathlib.Core.Path.{◌≡◌, refl, sym, ap, ◌∙◌}
use mathlib.Core.Bool.{Bool, true, false, cond}
use mathlib.Core.List.{List, [], ◌∷◌, ◌++◌}
use Prim.Native.Nat.{ℕ, ◌+◌, ◌≤◌, ◌<◌}
use native.Mathlib.Omega.{arith}
use lib.ListN.{length, length-append}
use Rattle.words.specs.Words
use Rattle.words.specs.Answers.{lent, code_of, value_of, failed, complete}
use Rattle.words.specs.declared.Record.{Record}
use Rattle.words.specs.declared.Answer.{Answer}
use Rattle.tables.specs.Values.{Tables}
use Rattle.tables.specs.Steps.{Ending, on, ends, Went, went, Step, Act, after, further, ◌>>=◌, give, end, end_if, each, tables, change}
use Rattle.tables.specs.Driver.{
  heard,
  driver,
  must,
  try,
  is_complete,
  reserve,
  create,
  map,
  access,
  unmap,
  release,
  record_event,
  ask,
  wait,
  sync,
  giveback,
}
use Rattle.tables.specs.declared.Outcome.{Outcome}
use Rattle.tables.specs.declared.Outcome.TheVariants.{DriverFailed}
use Rattle.spare_answers.specs.Hears.{Hears}

pub hears-give : {A : Type 0} (a : A) → Hears (give a)
hears-give a = record { hears = λ xs ys k t e. refl }

pub hears-end : {A : Type 0} (o : Outcome) → Hears (end {A = A} o)
hears-end o = record { hears = λ xs ys k t e. refl }

pub hears-tables : Hears tables
hears-tables = record { hears = λ xs ys k t e. refl }

pub hears-change : (f : Tables → Tables) → Hears (change f)
hears-change f = record { hears = λ xs ys k t e. refl }

pub hears-cond : {A : Type 0} (b : Bool) {m n : Step A} → Hears m → Hears n → Hears (cond b m n)
hears-cond true h g = h
hears-cond false h g = g

pub hears-end_if : (b : Bool) (o : Outcome) → Hears (end_if b o)
hears-end_if b o = hears-cond b (hears-end o) (hears-give tt)

-- a driver call hears one answer
hears-driver : (row : Answer → Record) → Hears (driver row)
hears-driver row =
    record {
      hears = λ xs ys k t e.
          let z : k + 0 ≡ k = omega arith in
          ap (λ (x : Answer). went (heard x) t (row x ∷ [])) (ap (lent xs) (sym z) ∙ e 0 (omega arith) ∙ ap (lent ys) z);
    }

-- one step, then another: the second hears the answers behind those of the first
pub hears_then : {A B : Type 0} {m : Step A} {f : A → Step B} → Hears m → ((a : A) → Hears (f a)) → Hears (m >>= f)
unfolding ◌>>=◌
hears_then {A} {B} {m} {f} hm hf =
    record {
      hears = λ xs ys k t e.
          let w = m xs k t in
          let first : w ≡ m ys k t = hm.hears xs ys k t (λ i h. e i (omega (arith, h, longer xs k w.tables w.records w.ending))) in
          second xs ys k w.tables w.records w.ending e ∙ ap (further f ys k) first;
    }
  where
    longer : (xs : List ℕ) (k : ℕ) (t : Tables) (rs : List Record) (e : Ending A) → length rs ≤ length (after f xs k t rs e).records
    longer xs k t rs (on a) = simp length-append (omega arith)
    longer xs k t rs (ends o) = omega arith

    second : (xs ys : List ℕ) (k : ℕ) (t : Tables) (rs : List Record) (e : Ending A)
        → ((i : ℕ) → i < length (after f xs k t rs e).records → lent xs (k + i) ≡ lent ys (k + i)) → after f xs k t rs e ≡ after f ys k t rs e
    second xs ys k t rs (on a) h =
        let next : f a xs (k + length rs) t ≡ f a ys (k + length rs) t =
        (hf a).hears xs ys (k + length rs) t
        (λ i g.
        let s : k + length rs + i ≡ k + (length rs + i) = omega arith in
        ap (lent xs) s ∙ h (length rs + i) (simp length-append (omega arith)) ∙ ap (lent ys) (sym s)) in
        ap (λ (w : Went B). went w.ending w.tables (rs ++ w.records)) next
    second xs ys k t rs (ends o) h = refl

pub hears-each : {A : Type 0} {f : A → Act} → ((x : A) → Hears (f x)) → (l : List A) → Hears (each f l)
hears-each h [] = hears-give tt
hears-each h (x ∷ l) = hears_then (h x) (λ _. hears-each h l)

pub hears-must : {m : Step Answer} → Hears m → Hears (must m)
hears-must h = hears_then h (λ x. hears-end_if (failed x) (DriverFailed (code_of x)))

pub hears-try : {m : Step Answer} → Hears m → Hears (try m)
hears-try h = hears_then h (λ _. hears-give tt)

pub hears-reserve : (va : ℕ) → Hears (reserve va)
unfolding reserve
hears-reserve va = hears-driver (λ x. Words.reserve (value_of x) va (code_of x))

pub hears-create : (page : ℕ) → Hears (create page)
unfolding create
hears-create page = hears-driver (λ x. Words.create (value_of x) page (code_of x))

pub hears-map : (a h : ℕ) → Hears (map a h)
unfolding map
hears-map a h = hears-driver (λ x. Words.map a h (code_of x))

pub hears-access : (a n : ℕ) → Hears (access a n)
unfolding access
hears-access a n = hears-driver (λ x. Words.access a n (code_of x))

pub hears-unmap : (a n : ℕ) → Hears (unmap a n)
unfolding unmap
hears-unmap a n = hears-driver (λ x. Words.unmap a n (code_of x))

pub hears-release : (h : ℕ) → Hears (release h)
unfolding release
hears-release h = hears-driver (λ x. Words.release h 0 (code_of x))

pub hears-record : (id s : ℕ) → Hears (record_event id s)
unfolding record_event
hears-record id s = hears-driver (λ x. Words.recorded id s (code_of x))

pub hears-ask : (id : ℕ) → Hears (ask id)
unfolding ask
hears-ask id = hears-driver (λ x. Words.asked id (cond (complete x) 1 0) (code_of x))

pub hears-wait : (id s : ℕ) → Hears (wait id s)
unfolding wait
hears-wait id s = hears-driver (λ x. Words.wait id s (code_of x))

pub hears-sync : (s : ℕ) → Hears (sync s)
unfolding sync
hears-sync s = hears-driver (λ x. Words.sync s 0 (code_of x))

pub hears-giveback : (a va : ℕ) → Hears (giveback a va)
unfolding giveback
hears-giveback a va = hears-driver (λ x. Words.giveback a va (code_of x))

pub hears-is_complete : (id : ℕ) → Hears (is_complete id)
hears-is_complete id = hears_then (hears-ask id) (λ x. hears-give (complete x))

pub ruleset hearing = (
  hears_then,
  hears-give,
  hears-end,
  hears-tables,
  hears-change,
  hears-cond,
  hears-end_if,
  hears-each,
  hears-must,
  hears-try,
  hears-reserve,
  hears-create,
  hears-map,
  hears-access,
  hears-unmap,
  hears-release,
  hears-record,
  hears-wait,
  hears-sync,
  hears-giveback,
  hears-is_complete,
)
