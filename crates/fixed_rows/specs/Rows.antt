-- What a contract sees of `Rows`.
use Rattle.std.specs.Prelude.{ℕ, List, length, refl}
use Rattle.std.specs.Coded.{Coded, code_by, coded×, coded_list}

-- The rows in use, in order, and what the cells behind them hold. No clause says what that is: a copy has it too.
pub record Rows (T : Type 0) : Type 0 where
  pub items : List T
  pub spare : List T

abbrev pub rows_code : {T : Type 0} → Coded T → Coded (Rows T)
rows_code {T} code =
    code_by (List T × List T) (coded× (coded_list code) (coded_list code)) (λ r. (r.items, r.spare))
    (λ p. record { items = p.0; spare = p.1 }) (λ _. refl)

-- `rows.len()`
abbrev pub rows_len : {T : Type 0} → Rows T → ℕ
rows_len r = length r.items
