-- What is said of the form of a line, of its bytes without the line feed (docs/RULES.md 6.3, 6.4).
use Rattle.std.specs.Prelude.{◌≡◌, cond, List, ◌⊎◌, ℕ, zero, suc, ◌-◌, ◌^◌, ◌≤◌, ◌<◌, eqb, length, get_or, take, drop}
use Rattle.trace.specs.Bounds.{longest_line}
use Rattle.trace.specs.Form.{word, last_kind, decimal}
use Rattle.judge_reasons.specs.declared.Form.{Form}
use Rattle.judge_reasons.specs.declared.Form.TheVariants.{
  Empty,
  CarriageReturn,
  ByteOrderMark,
  Compressed,
  TooLong,
  Spaces,
  NotText,
  UnknownWord,
  TooFewFields,
  TooManyFields,
  NotANumber,
  Other,
}

abbrev pub Byte : List ℕ → ℕ → ℕ → Type 0
Byte bs i b = get_or bs i 0 ≡ b

abbrev pub TAB : ℕ
TAB = 9

-- the byte stands at none of the places from `a` to before `e`
abbrev pub NoneFrom : List ℕ → ℕ → ℕ → ℕ → Type 0
NoneFrom bs a e b = (k : ℕ) → a ≤ k → k < e → Byte bs k b → ⊥

-- the first place from `a` on with the byte, or the end
pub record FirstFrom (bs : List ℕ) (a b r : ℕ) : Type 0 where
  pub from : a ≤ r
  pub within : r ≤ length bs
  pub found : r < length bs → Byte bs r b
  pub before : NoneFrom bs a r b

-- a byte below a space, but for a tab, or above the letters
abbrev pub Unprinted : ℕ → Type 0
Unprinted b = ((b < 32) × (b ≡ TAB → ⊥)) ⊎ (126 < b)

-- the bytes are none of a trace's words; the decimal of no number below 2^64
abbrev pub NoWord : List ℕ → Type 0
NoWord w = (k : ℕ) → 1 ≤ k → k ≤ last_kind → w ≡ word k → ⊥

abbrev pub NoDecimal : List ℕ → Type 0
NoDecimal w = (n : ℕ) → n < 2 ^ 64 → w ≡ decimal n → ⊥

-- how many of the first `n` bytes are tabs
abbrev pub tabs : ℕ → List ℕ → ℕ
tabs zero bs = 0
tabs (suc n) bs = cond (eqb (get_or bs n 0) TAB) (suc (tabs n bs)) (tabs n bs)

-- the bytes from `a` to before `e` stand between two tabs, or a tab and the end
pub record Field (bs : List ℕ) (a e : ℕ) : Type 0 where
  pub behind : 1 ≤ a
  pub tab : Byte bs (a - 1) TAB
  pub upto : FirstFrom bs a TAB e

unfoldable pub IsTrueOf : List ℕ → Form → Type 0
IsTrueOf bs Empty = length bs ≡ 0
IsTrueOf bs CarriageReturn = (0 < length bs) × Byte bs (length bs - 1) 13
IsTrueOf bs ByteOrderMark = Byte bs 0 239 × (Byte bs 1 187 × Byte bs 2 191)
IsTrueOf bs Compressed = Byte bs 0 31 × Byte bs 1 139
IsTrueOf bs TooLong = longest_line < length bs
IsTrueOf bs (Spaces at) = (at < length bs) × (Byte bs at 32 × NoneFrom bs 0 (length bs) TAB)
IsTrueOf bs (NotText at) = (at < length bs) × Unprinted (get_or bs at 0)
IsTrueOf bs (UnknownWord n) = FirstFrom bs 0 TAB n × NoWord (take n bs)
IsTrueOf bs (TooFewFields n) = (n ≡ tabs (length bs) bs) × (n < 3)
IsTrueOf bs (TooManyFields n) = (n ≡ tabs (length bs) bs) × (3 < n)
IsTrueOf bs (NotANumber a e) = Field bs a e × NoDecimal (take (e - a) (drop a bs))
IsTrueOf bs Other = Unit {0}
