-- What `gather` has done so far, and what one more line adds: the lines that are read come to what they came to before.
use mathlib.Core.Path.{◌≡◌, refl, sym, ap, ◌∙◌}
use mathlib.Core.Bool.{Bool, true, false, cond, not, ◌&&◌, true≢false}
use mathlib.Core.List.{List, [], ◌∷◌, ◌++◌}
use Prim.Native.Nat.{ℕ, ◌+◌, ◌≤◌, ◌<◌}
use native.Mathlib.Omega.{arith}
use lib.Dec.{eqb}
use lib.ListN.{length, drop, length-append}
use lib.Seq.{drop-append-le}
use Rattle.trace.specs.Chunks.{lines_from, reached}
use Rattle.trace.specs.Machine.{fresh, after, line_at}
use Rattle.trace.specs.declared.Line.{Line}
use Rattle.trace.specs.declared.Partial.{Partial}
use Rattle.trace.specs.declared.Reach.{Reach}
use Rattle.trace.specs.declared.Reading.{Reading}
use Rattle.trace.specs.declared.Reading.TheVariants.{Good}
use Rattle.trace.proofs.Cases.{by-test}
use Rattle.trace.proofs.Scanned.{Scanned}
use Rattle.replay_answers.specs.Lending.{is_driver, is_passed_over, is_call, answer_in, passed, Passed}
use Rattle.replay_answers.specs.Promises.{Room, Keeps, lent_by, Lends, ahead, feeds, Calls, Fed, Took, Gathers}
use Rattle.replay_answers.specs.declared.Gathered.{Gathered}
use Rattle.replay_answers.specs.declared.Stop.{Stop}
use Rattle.replay_answers.specs.declared.Stop.TheVariants.{More}

abbrev pub gathered : ℕ → Partial → ℕ → ℕ → Stop → Gathered
gathered i p n k s = record { at = i; partial = p; line = n; count = k; stop = s }

-- a line that is no call: it lends its answer or is passed over
pub passed_on : (l : Line) (xs : List ℕ) (n : ℕ) (ls : List Reading) → is_call l ≡ false → passed xs n (Good l ∷ ls) ≡ passed (lent_by l xs) (n + 1) ls
unfolding is_call
passed_on l xs n ls = go (is_driver l) (is_passed_over l) (xs ++ answer_in l) (record { answers = xs; number = n; rest = Good l ∷ ls })
  where
    go : (d r : Bool) (ys : List ℕ) (z : Passed) → (not d && not r) ≡ false
        → cond d (passed ys (n + 1) ls) (cond r (passed xs (n + 1) ls) z) ≡ passed (cond d ys xs) (n + 1) ls
    go true r ys z e = refl
    go false true ys z e = refl
    go false false ys z e = absurd (true≢false e)

-- behind a place of a chunk that ends with a line feed, a line ends
feed-ends : (at : ℕ) (p : Partial) (l : List ℕ) → (reached at p (l ++ (10 ∷ []))).ended ≡ true
feed-ends at p [] = refl
feed-ends at p (b ∷ l) = by-test (λ (r : Reach). r.ended ≡ true) (eqb b 10) (λ t. refl) (λ t. feed-ends (at + 1) (after p b) l)

pub line-fed : {chunk : List ℕ} → Fed chunk → {i : ℕ} → i < length chunk → (j : ℕ) (p : Partial) → (reached j p (drop i chunk)).ended ≡ true
line-fed {chunk} f {i} h j p =
    let n : length chunk ≡ length f.front + 1 = ap length f.is ∙ length-append f.front (10 ∷ []) in
    rw (ap (drop i) f.is ∙ drop-append-le i f.front (10 ∷ []) (omega arith)) (feed-ends j p (drop i f.front))

pub record Sofar (p₀ : Partial) (n₀ : ℕ) (chunk : List ℕ) (at : ℕ) (cells₀ : List ℕ) (count : ℕ) (cells : List ℕ) (i : ℕ) (p : Partial) (n kept : ℕ) : Type 0 where
  pub from : at ≤ i
  pub within : i ≤ length chunk
  pub counted : n + at ≤ n₀ + i
  pub lines : n₀ ≤ n
  pub clean : at < i → p ≡ fresh
  pub lent : Room cells kept
  pub takes : (xs : List ℕ) → Keeps cells₀ count xs → Took p₀ n₀ chunk at xs cells (gathered i p n kept More)

pub at_first : (p : Partial) (n : ℕ) (chunk : List ℕ) (at : ℕ) (cells : List ℕ) (count : ℕ) → at ≤ length chunk → Room cells count
    → Sofar p n chunk at cells count cells at p n count
at_first p n chunk at cells count h room =
    record { from = omega arith; within = h; counted = omega arith; lines = omega arith; clean = λ q. absurd (omega arith); lent = room; takes = λ xs k. record { answers = xs; keeps = k; same = λ m. refl } }

module _ {p₀ : Partial} {n₀ : ℕ} {chunk : List ℕ} {at : ℕ} {cells₀ : List ℕ} {count : ℕ} {cells : List ℕ} {i : ℕ} {p : Partial} {n kept : ℕ}
    (s : Sofar p₀ n₀ chunk at cells₀ count cells i p n kept) where
  -- the chunk is read
  pub chunk_read : i ≡ length chunk → Gathers p₀ n₀ chunk at cells₀ count cells (gathered i p n kept More)
  chunk_read e =
      record {
        within = s.within;
        moved = λ h. omega arith;
        counted = omega (arith, s.counted);
        lines = s.lines;
        few = s.lent.few;
        all = λ h. e;
        calls = tt;
        fed = λ d q. s.clean (omega arith);
        takes = s.takes;
      }

  module _ {r : Reach} (d : Scanned r chunk i p) where
    -- the line does not end in the chunk
    pub line-open : i < length chunk → r ≡ reached i p (drop i chunk) → r.ended ≡ false → Gathers p₀ n₀ chunk at cells₀ count cells (gathered r.at r.partial n kept More)
    line-open h is e =
        record {
          within = d.within;
          moved = λ g. omega (arith, s.from, d.moved h);
          counted = omega (arith, s.counted, d.from);
          lines = s.lines;
          few = s.lent.few;
          all = λ g. d.all e;
          calls = tt;
          fed = λ f g. absurd (true≢false (sym (line-fed f h i p) ∙ ap (λ (x : Reach). x.ended) (sym is) ∙ e));
          takes = λ xs k.
              let t = s.takes xs k in
              record { answers = t.answers; keeps = t.keeps; same = λ m. t.same m ∙ ap (passed t.answers n) (d.going e m) };
        }

    module _ (h : i < length chunk) (e : r.ended ≡ true) where
      -- what the line comes to, with those behind it
      line-ends : {c : Reading} → c ≡ line_at r.partial → (xs : List ℕ) (m : List ℕ)
          → passed xs n (lines_from p (drop i chunk ++ m)) ≡ passed xs n (c ∷ lines_from fresh (drop r.at chunk ++ m))
      line-ends el xs m = ap (passed xs n) (d.ended e m ∙ ap (λ (x : Reading). x ∷ lines_from fresh (drop r.at chunk ++ m)) (sym el))

      pub line-stops : (c : Stop) {x : Reading} → x ≡ line_at r.partial → ((l : List ℕ) → x ∷ lines_from fresh l ≡ ahead c fresh l) → feeds c ≡ 1
          → Calls c
          → Gathers p₀ n₀ chunk at cells₀ count cells (gathered r.at fresh n kept c)
      line-stops c el a f is =
          record {
            within = d.within;
            moved = λ g. omega (arith, s.from, d.from, d.moved h);
            counted = omega (arith, s.counted, d.moved h);
            lines = s.lines;
            few = s.lent.few;
            all = λ q. absurd (omega (arith, f, ap feeds q));
            calls = is;
            fed = λ f g. refl;
            takes = λ xs k.
                let t = s.takes xs k in
                record {
                  answers = t.answers;
                  keeps = t.keeps;
                  same = λ m. t.same m ∙ line-ends el t.answers m ∙ ap (passed t.answers n) (a (drop r.at chunk ++ m));
                };
          }

      pub line_on : (l : Line) {cells' : List ℕ} {kept' : ℕ} → Good l ≡ line_at r.partial → is_call l ≡ false → Lends l cells kept cells' kept' → length cells' ≡ length cells
          → Sofar p₀ n₀ chunk at cells₀ count cells' r.at fresh (n + 1) kept'
      line_on l {cells'} {kept'} el g w same_length =
          record {
            from = omega (arith, s.from, d.from);
            within = d.within;
            counted = omega (arith, s.counted, d.moved h);
            lines = omega (arith, s.lines);
            clean = λ q. refl;
            lent = record { few = w.few; room = same_length ∙ s.lent.room };
            takes = λ xs k.
                let t = s.takes xs k in
                record {
                  answers = lent_by l t.answers;
                  keeps = w.keeps t.answers t.keeps;
                  same = λ m. t.same m ∙ line-ends el t.answers m ∙ passed_on l t.answers n (lines_from fresh (drop r.at chunk ++ m)) g;
                };
          }
