-- Before the first line all is told of no lines.
use mathlib.Core.Path.{refl, ap}
use mathlib.Core.List.{List, [], ◌∷◌, reverse}
use Prim.Native.Nat.{ℕ, zero, suc}
use Rattle.summary_counts.specs.Counts.{counts_of, firsts_of}
use Rattle.summary_counts.specs.Promises.{Zeros}
use Rattle.summary_counts.specs.Taking.{Starts, Told}
use Rattle.summary_counts.specs.declared.Summary.{Summary}
use Rattle.summary_counts.specs.declared.tallies.Times.{Times}

pub told-start : (s : Summary) → Starts s → Told s []
told-start s e =
    record {
      known = e.known;
      counts =
          record {
            lines = e.counts.lines;
            live = e.counts.live;
            mapped = e.counts.mapped;
            answers = λ n q. e.counts.answers n;
            firsts = λ n q. e.counts.firsts n;
            failures = λ n q. e.counts.failures n;
          };
      handed = ap reverse e.handed;
    }

-- tables of zeros
abbrev pub zeros_of : ℕ → List ℕ
zeros_of zero = []
zeros_of (suc n) = 0 ∷ zeros_of n

pub all-zeros : (n : ℕ) → Zeros (zeros_of n)
all-zeros zero i = refl
all-zeros (suc n) zero = refl
all-zeros (suc n) (suc i) = all-zeros n i

abbrev pub none_of : ℕ → List Times
none_of zero = []
none_of (suc n) = record { count = 0; first = 0 } ∷ none_of n

pub none-counted : (n : ℕ) → Zeros (counts_of (none_of n))
none-counted zero i = refl
none-counted (suc n) zero = refl
none-counted (suc n) (suc i) = none-counted n i

pub none-first : (n : ℕ) → Zeros (firsts_of (none_of n))
none-first zero i = refl
none-first (suc n) zero = refl
none-first (suc n) (suc i) = none-first n i
