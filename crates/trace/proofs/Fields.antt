-- Reading by fields is reading byte by byte: the fields of a text are its word and decimals, and a number's form is that of a decimal.
use mathlib.Core.Path.{◌≡◌, refl, sym, ap, ◌∙◌}
use mathlib.Core.Bool.{true, false, ◌&&◌, ◌||◌}
use mathlib.Core.List.{List, [], ◌∷◌, ◌++◌, append-nil}
use Prim.Native.Nat.{ℕ, ◌-◌, ◌<◌, ◌≤◌}
use native.Mathlib.Omega.{arith}
use borrow.Author.Tests.{lt-ltb, ne_eqb, eqb-true, ltb-true}
use lib.Dec.{ltb, eqb}
use lib.ListN.{get_or}
use Rattle.lists.specs.Tests.{All, same}
use Rattle.lists.proofs.Tests.{both, neither, all_implies}
use Rattle.lists.proofs.Every.{every-all}
use Rattle.lists.proofs.Pairs.{same-is}
use Rattle.trace.specs.Form.{words, word, last_kind, decimal, row, text_of, line, Proper, ReadAs}
use Rattle.trace.specs.Reads.{onto, fields, kind, is_digit, value, is_number, of_fields, reading}
use Rattle.trace.specs.Machine.{read_line}
use Rattle.trace.specs.declared.Line.{Line}
use Rattle.trace.specs.declared.Reading.{Reading}
use Rattle.trace.specs.declared.Reading.TheVariants.{Good, Malformed}
use Rattle.trace.proofs.Cases.{by-test}
use Rattle.trace.proofs.Counted.{counted-within, counted-passes}
use Rattle.trace.proofs.Words.{each-kind, word-from-one, word-plain}
use Rattle.trace.proofs.Numbers.{is_digit_lem, decimal-digits, value-decimal, number-form, form-number}
use Rattle.trace.proofs.Meaning.{only, never}

-- fields put together again, a tab before each but the first
abbrev behind : List (List ℕ) → List ℕ
behind [] = []
behind (f ∷ fs) = 9 ∷ (f ++ behind fs)

abbrev together : List (List ℕ) → List ℕ
together [] = []
together (f ∷ fs) = f ++ behind fs

behind-onto : (b : ℕ) (fs : List (List ℕ)) → behind (onto b fs) ≡ 9 ∷ together (onto b fs)
behind-onto b [] = refl
behind-onto b (f ∷ fs) = refl

behind-fields : (l : List ℕ) → behind (fields l) ≡ 9 ∷ together (fields l)
behind-fields [] = refl
behind-fields (b ∷ l) = by-test (λ fs. behind fs ≡ 9 ∷ together fs) (eqb b 9) (λ t. refl) (λ t. behind-onto b (fields l))

together-onto : (b : ℕ) (fs : List (List ℕ)) → together (onto b fs) ≡ b ∷ together fs
together-onto b [] = refl
together-onto b (f ∷ fs) = refl

together-fields : (l : List ℕ) → together (fields l) ≡ l
together-fields [] = refl
together-fields (b ∷ l) =
    by-test (λ fs. together fs ≡ b ∷ l) (eqb b 9)
    (λ t. behind-fields l ∙ rw (together-fields l, eqb-true b 9 t))
    (λ t. together-onto b (fields l) ∙ ap (λ (x : List ℕ). b ∷ x) (together-fields l))

-- bytes without a tab are a field
abbrev pub NoTab : List ℕ → Type 0
NoTab = All (λ b. eqb b 9 ≡ false)

fields-last : (f : List ℕ) → NoTab f → fields f ≡ f ∷ []
fields-last [] a = refl
fields-last (b ∷ f) a = rw (a.0, fields-last f a.1)

fields-part : (f l : List ℕ) → NoTab f → fields (f ++ (9 ∷ l)) ≡ f ∷ fields l
fields-part [] l a = refl
fields-part (b ∷ f) l a = rw (a.0, fields-part f l a.1)

-- words and decimals have no tab
pub word-no-tab : (k : ℕ) → NoTab (word k)
word-no-tab k = all_implies (λ b. (eqb b 9 || eqb b 10) ≡ false) (λ b. eqb b 9 ≡ false) (λ b e. (neither (eqb b 9) (eqb b 10) e).0) (word k) (word-plain k)

decimal-no-tab : (n : ℕ) → NoTab (decimal n)
decimal-no-tab n =
    every-all is_digit (λ b. eqb b 9 ≡ false)
    (λ b t. let is = is_digit_lem b t in ne_eqb b 9 (omega arith))
    (decimal n) (decimal-digits n)

pub fields-row : (w : List ℕ) (a b c : ℕ) → NoTab w → fields (row w a b c) ≡ w ∷ decimal a ∷ decimal b ∷ decimal c ∷ []
unfolding row
fields-row w a b c h =
    rw (
      fields-part w (decimal a ++ (9 ∷ (decimal b ++ (9 ∷ decimal c)))) h,
      fields-part (decimal a) (decimal b ++ (9 ∷ decimal c)) (decimal-no-tab a),
      fields-part (decimal b) (decimal c) (decimal-no-tab b),
      fields-last (decimal c) (decimal-no-tab c),
    )

pub kind-word : (k : ℕ) → k ≤ last_kind → kind (word k) ≡ k
unfolding kind word
kind-word k h = eqb-true (kind (word k)) k (each-kind (λ n. eqb (kind (word n)) n) refl k h)

kind-within : (w : List ℕ) → (kind w ≡ 0 → ⊥) → (1 ≤ kind w) × (kind w ≤ last_kind)
unfolding kind
kind-within w h = let r = counted-within (same w) 1 words h in omega arith

word-kind : (w : List ℕ) → (kind w ≡ 0 → ⊥) → w ≡ word (kind w)
unfolding kind
word-kind w h =
    same-is w (get_or words (kind w - 1) []) (counted-passes (same w) 1 words [] h)
    ∙ sym (word-from-one (kind w) (kind-within w h).0)

-- the text of a proper line is read as that line
reads-text : (l : Line) → Proper l → reading (text_of l) ≡ Good l
unfolding reading text_of
reads-text l p =
    rw (fields-row (word l.kind) l.first l.second l.third (word-no-tab l.kind))
    (simp (
      kind-word l.kind p.to_last,
      lt-ltb 0 l.kind (omega (arith, p.from_one)),
      number-form l.first p.one,
      number-form l.second p.two,
      number-form l.third p.three,
      value-decimal l.first,
      value-decimal l.second,
      value-decimal l.third,
    ))

-- a row whose word is none of the words is malformed
pub reads_other : (w : List ℕ) (a b c : ℕ) → NoTab w → kind w ≡ 0 → reading (row w a b c) ≡ Malformed
unfolding reading
reads_other w a b c h e = rw (fields-row w a b c h) (simp e)

-- fields that are read as a line are its word and decimals
fields_mean : (fs : List (List ℕ)) (l : Line) → of_fields fs ≡ Good l → Proper l × (together fs ≡ text_of l)
unfolding row text_of
fields_mean [] l e = never e
fields_mean (w ∷ []) l e = never e
fields_mean (w ∷ a ∷ []) l e = never e
fields_mean (w ∷ a ∷ b ∷ []) l e = never e
fields_mean (w ∷ a ∷ b ∷ c ∷ d ∷ fs) l e = never e
fields_mean (w ∷ a ∷ b ∷ c ∷ []) l e =
    by-test (λ r. r ≡ Good l → Proper l × (together (w ∷ a ∷ b ∷ c ∷ []) ≡ text_of l)) (ltb 0 (kind w) && is_number a && is_number b && is_number c)
    (λ t g.
    let q = both (ltb 0 (kind w) && is_number a && is_number b) (is_number c) t in
    let r = both (ltb 0 (kind w) && is_number a) (is_number b) q.0 in
    let s = both (ltb 0 (kind w)) (is_number a) r.0 in
    four (ltb-true 0 (kind w) s.0) s.1 r.1 q.1 g)
    (λ t. never) e
  where
    four : 0 < kind w → is_number a ≡ true → is_number b ≡ true → is_number c ≡ true → Good (line (kind w) (value 0 a) (value 0 b) (value 0 c)) ≡ Good l
        → Proper l × (together (w ∷ a ∷ b ∷ c ∷ []) ≡ text_of l)
    four h x y z g =
        let is : line (kind w) (value 0 a) (value 0 b) (value 0 c) ≡ l = cc in
        let some : kind w ≡ 0 → ⊥ = λ n. omega arith in
        let na = form-number a x in
        let nb = form-number b y in
        let nc = form-number c z in
        rw (← is) (
          record {
            from_one = (kind-within w some).0;
            to_last = (kind-within w some).1;
            one = na.0;
            two = nb.0;
            three = nc.0;
          },
          rw (na.1, nb.1, nc.1, append-nil) (ap (λ (x : List ℕ). x ++ (9 ∷ (a ++ (9 ∷ (b ++ (9 ∷ c)))))) (word-kind w some)),
        )

-- the definition and the machine are one
pub reading-is : (bytes : List ℕ) → reading bytes ≡ read_line bytes
unfolding reading
reading-is bytes = only bytes (reading bytes) (go (reading bytes) refl)
  where
    go : (r : Reading) → reading bytes ≡ r → ReadAs bytes r
    go (Good l) e = rw (together-fields bytes) at (fields_mean (fields bytes) l e)
    go Malformed e = λ l p is. never (sym e ∙ ap reading is ∙ reads-text l p)
