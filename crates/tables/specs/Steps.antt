-- docs/RULES.md 3. A step of a call: it is lent the answers and knows how many driver calls were made before it; it may change the tables and leaves
-- records; then the call goes on with a value, or ends with an outcome.
use Rattle.std.specs.Prelude.{Bool, cond, List, [], ◌∷◌, ◌++◌, ℕ, ◌+◌, length}
use Rattle.words.specs.declared.Record.{Record}
use Rattle.tables.specs.Values.{Tables, address, with_free, with_live, with_holes, with_zombies, with_pages, with_roots, with_counter}
use Rattle.tables.specs.declared.FreeRegion.{FreeRegion}
use Rattle.tables.specs.declared.LiveBuffer.{LiveBuffer}
use Rattle.tables.specs.declared.Hole.{Hole}
use Rattle.tables.specs.declared.Zombie.{Zombie}
use Rattle.tables.specs.declared.Page.{Page}
use Rattle.tables.specs.declared.Outcome.{Outcome}

pub data Ending (A : Type 0) : Type 0 where
  on : A → Ending A
  ends : Outcome → Ending A

pub record Went (A : Type 0) : Type 0 where
  pub ending : Ending A
  pub tables : Tables
  pub records : List Record

abbrev pub went : {A : Type 0} → Ending A → Tables → List Record → Went A
went e t rs = record { ending = e; tables = t; records = rs }

abbrev pub Step : Type 0 → Type 0
Step A = List ℕ → ℕ → Tables → Went A

-- a step with no value
abbrev pub Act : Type 0
Act = Step (Unit {0})

-- One step, then another that may depend on its value: the records of both, and one driver call made for each record. An end is the end.
abbrev pub after : {A B : Type 0} → (A → Step B) → List ℕ → ℕ → Tables → List Record → Ending A → Went B
after f xs k t rs (on a) = let w = f a xs (k + length rs) t in went w.ending w.tables (rs ++ w.records)
after f xs k t rs (ends o) = went (ends o) t rs

abbrev pub further : {A B : Type 0} → (A → Step B) → List ℕ → ℕ → Went A → Went B
further f xs k w = after f xs k w.tables w.records w.ending

infixl 20 ◌>>=◌
infixl 20 ◌>>◌
unfoldable pub ◌>>=◌ : {A B : Type 0} → Step A → (A → Step B) → Step B
◌>>=◌ m f = λ xs k t. further f xs k (m xs k t)

abbrev pub ◌>>◌ : {A B : Type 0} → Step A → Step B → Step B
◌>>◌ m n = m >>= λ _. n

-- nothing happens, and the value is `a`
abbrev pub give : {A : Type 0} → A → Step A
give a = λ xs k t. went (on a) t []

abbrev pub nothing : Act
nothing = give tt

-- the call ends with `o`, the tables as they are
abbrev pub end : {A : Type 0} → Outcome → Step A
end o = λ xs k t. went (ends o) t []

abbrev pub end_if : Bool → Outcome → Act
end_if b o = cond b (end o) nothing

-- the same for each of a list, in order
abbrev pub each : {A : Type 0} → (A → Act) → List A → Act
each f [] = nothing
each f (x ∷ l) = f x >> each f l

-- the tables as they are
abbrev pub tables : Step Tables
tables = λ xs k t. went (on t) t []

abbrev pub change : (Tables → Tables) → Act
change f = λ xs k t. went (on tt) (f t) []

abbrev pub change_free : (List FreeRegion → List FreeRegion) → Act
change_free f = change (λ t. with_free (f t.free) t)

abbrev pub change_live : (List LiveBuffer → List LiveBuffer) → Act
change_live f = change (λ t. with_live (f t.live) t)

abbrev pub change_holes : (List Hole → List Hole) → Act
change_holes f = change (λ t. with_holes (f t.holes) t)

abbrev pub change_zombies : (List Zombie → List Zombie) → Act
change_zombies f = change (λ t. with_zombies (f t.zombies) t)

abbrev pub change_pages : (List Page → List Page) → Act
change_pages f = change (λ t. with_pages (f t.pages) t)

abbrev pub add_root : ℕ → Act
add_root a = change (λ t. with_roots (t.roots ++ address a ∷ []) t)

-- the counter's id is spent
abbrev pub count_on : Act
count_on = change (λ t. with_counter (t.fields.counter + 1) t)
