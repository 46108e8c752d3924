-- `trace::put_decimal` meets its contract. It calls itself on a tenth, which is less; `ends-in` says that the last digit follows the decimal of that.
use Rattle.std.proofs.Common.{◌≡◌, sym, ◌∙◌, ap, ◌∷◌, [], ◌++◌, ℕ, ◌+◌, ◌/◌, ◌%◌, ◌≤◌, length, length-append, arith}
use Rattle.trace.proofs.Put.{put_then, put_as}
use Rattle.trace.specs.Form.{decimal}
use Rattle.trace.proofs.Decimal.{one-digit, ends-in}
use Rattle.trace.proofs.+put_decimal.Goals as goal

-- one digit more than the tenth has
grows : (n : ℕ) → 10 ≤ n → length (decimal n) ≡ length (decimal (n / 10)) + 1
grows n h = ap length (ends-in n h) ∙ length-append (decimal (n / 10)) ((48 + n % 10) ∷ [])

pub put_byte-requires : goal.put_byte-requires
put_byte-requires t c =
    let e : length (decimal c.args.n) ≡ 1 = ap length (one-digit c.args.n (omega arith)) in
    omega arith

pub returns-then-n-lt10 : goal.returns-then-n-lt10
returns-then-n-lt10 t c =
    put_as (ap (λ (x : ℕ). x ∷ []) c.digit.ensures ∙ sym (one-digit c.args.n (omega arith))) c.put_byte.ensures

pub put_decimal-next-requires : goal.put_decimal-next-requires
put_decimal-next-requires t c =
    let e = grows c.args.n (omega arith) in
    (omega arith, omega arith)

pub put_byte-requires-2 : goal.put_byte-requires-2
put_byte-requires-2 t c =
    let e = grows c.args.n (omega arith) in
    omega arith

pub returns : goal.returns
returns t c =
    put_as
    (ap (λ (x : ℕ). decimal (c.args.n / 10) ++ (x ∷ [])) c.digit-2.ensures ∙ sym (ends-in c.args.n (omega arith)))
    (put_then c.put_decimal-next.ensures c.put_byte-2.ensures)
