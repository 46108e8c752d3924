-- What `retain` leaves.
use Rattle.std.proofs.Common.{◌≡◌, Bool, cond, List, [], ◌∷◌, filter, subst, ap, ◌∙◌}
use Rattle.std.specs.List.Retain.{RetainsInTurn}

-- Where a call answers by a test of the row, and changes neither itself nor the row, the rows that pass the test are left.
pub filter-from_retain : {X S : Type 0} (R : S → X → Bool → S → X → Type 0) (test : X → Bool) (s : S)
    → ((x : X) (b : Bool) (t : S) (y : X) → R s x b t y → (b ≡ test x) × (t ≡ s) × (y ≡ x))
    → (rows left : List X) → RetainsInTurn R s rows left → left ≡ filter test rows
filter-from_retain R test s says [] left h = h
filter-from_retain R test s says (x ∷ rows) left h =
    let told = says x h.0 h.1 h.2 h.3 in
    let others = filter test rows in
    let rest = filter-from_retain R test s says rows h.4 (subst (λ t. RetainsInTurn R t rows h.4) told.1 h.5) in
    h.6
    ∙ ap (λ l. cond h.0 (h.2 ∷ l) l) rest
    ∙ ap (λ b. cond b (h.2 ∷ others) others) told.0
    ∙ ap (λ y. cond (test x) (y ∷ others) others) told.2
