-- docs/RULES.md 6.3: a line's text.
use Rattle.std.specs.Prelude.{◌≡◌, refl, cond, List, [], ◌∷◌, ◌++◌, ℕ, zero, suc, ◌+◌, ◌/◌, ◌%◌, ◌≤◌, ◌<◌, ◌^◌, ltb, length, get_or}
use Prim.Native.Char.{code}
use Prim.Native.String.{String, [] as empty, ◌∷◌ as ◌then◌}
use Rattle.trace.specs.declared.Line.{Line}
use Rattle.trace.specs.declared.Reading.{Reading}
use Rattle.trace.specs.declared.Reading.TheVariants.{Good, Malformed}

-- the bytes of a text
abbrev pub ascii : String → List ℕ
ascii empty = []
ascii (c then s) = code c ∷ ascii s

-- the words that a line may begin with: the driver's in the order of the log's kinds, the calls, `result`, and those of
-- small buffers
abbrev pub words : List (List ℕ)
words =
    ascii "reserve"
    ∷ ascii "create"
    ∷ ascii "map"
    ∷ ascii "access"
    ∷ ascii "unmap"
    ∷ ascii "release"
    ∷ ascii "record"
    ∷ ascii "asked"
    ∷ ascii "wait"
    ∷ ascii "sync"
    ∷ ascii "giveback"
    ∷ ascii "open"
    ∷ ascii "malloc"
    ∷ ascii "free"
    ∷ ascii "close"
    ∷ ascii "result"
    ∷ ascii "small"
    ∷ ascii "dropsmall"
    ∷ []

-- the word of a kind, from 1; other numbers have none
unfoldable pub word : ℕ → List ℕ
word kind = get_or ([] ∷ words) kind []

abbrev pub last_kind : ℕ
last_kind = length words

-- the decimal digits of `n`, at most `k` and one more of them
abbrev pub spell : ℕ → ℕ → List ℕ
spell zero n = (48 + n) ∷ []
spell (suc k) n = let more = spell k (n / 10) in cond (ltb n 10) ((48 + n) ∷ []) (more ++ ((48 + n % 10) ∷ []))

-- a number in decimal
unfoldable pub decimal : ℕ → List ℕ
decimal n = spell n n

-- a word and three decimals parted by tabs
unfoldable pub row : List ℕ → ℕ → ℕ → ℕ → List ℕ
row letters a b c = letters ++ (9 ∷ (decimal a ++ (9 ∷ (decimal b ++ (9 ∷ decimal c)))))

-- the same with its line feed
unfoldable pub text : List ℕ → ℕ → ℕ → ℕ → List ℕ
text letters a b c = row letters a b c ++ (10 ∷ [])

-- the text of a line, without its line feed
unfoldable pub text_of : Line → List ℕ
text_of l = row (word l.kind) l.first l.second l.third

-- and with it
unfoldable pub printed : Line → List ℕ
printed l = text (word l.kind) l.first l.second l.third

-- docs/RULES.md 7.5: what replay prints at a malformed line,
unfoldable pub bad_line : ℕ → List ℕ
bad_line n = text (ascii "bad") n 0 0

-- and in the place of a call answered 17.
unfoldable pub short_line : ℕ → List ℕ
short_line n = text (ascii "short") n 0 0

-- a line that a trace may hold
pub record Proper (l : Line) : Type 0 where
  pub from_one : 1 ≤ l.kind
  pub to_last : l.kind ≤ last_kind
  pub one : l.first < 2 ^ 64
  pub two : l.second < 2 ^ 64
  pub three : l.third < 2 ^ 64

-- what reading must answer: the proper line whose text the bytes are, or that they are no proper line's
abbrev pub ReadAs : List ℕ → Reading → Type 0
ReadAs bytes (Good l) = Proper l × (bytes ≡ text_of l)
ReadAs bytes Malformed = (l : Line) → Proper l → bytes ≡ text_of l → ⊥

abbrev pub line : ℕ → ℕ → ℕ → ℕ → Line
line kind first second third = record { kind = kind; first = first; second = second; third = third }

-- the largest number has twenty digits
largest : printed (line 3 0 18446744073709551615 120) ≡ ascii "map\t0\t18446744073709551615\t120\n"
unfolding word decimal row text printed
largest = refl
