-- The definitions on the example of docs/RULES.md 6.6 and on lines that are malformed, by computation.
use mathlib.Core.Path.{◌≡◌, refl}
use mathlib.Core.List.{[], ◌∷◌}
use Rattle.trace.specs.Form.{ascii, line}
use Rattle.trace.specs.Kinds.{open_line, malloc_line, free_line, close_line, result_line}
use Rattle.trace.specs.Reads.{kind, is_number, reading}
use Rattle.trace.specs.Lines.{lines_of}
use Rattle.trace.specs.declared.Reading.TheVariants.{Good, Malformed}

example : lines_of (ascii "open\t4\t40\t0\nreserve\t1000\t40\t0\nresult\t1000\t4\t0\nmalloc\t4\t1\t0")
    ≡ Good (open_line 4 40 0) ∷ Good (line 1 1000 40 0) ∷ Good (result_line 1000 4 0) ∷ Good (malloc_line 4 1) ∷ []
unfolding kind is_number reading lines_of
example = refl

none : lines_of [] ≡ []
unfolding lines_of
none = refl

-- a line feed alone, then one at the end of the input
empty-lines : lines_of (ascii "\nfree\t1016\t0\t0\nclose\t0\t0\t0\n") ≡ Malformed ∷ Good (free_line 1016) ∷ Good close_line ∷ []
unfolding kind is_number reading lines_of
empty-lines = refl

largest : reading (ascii "sync\t18446744073709551615\t0\t0") ≡ Good (line 10 18446744073709551615 0 0)
unfolding kind is_number reading
largest = refl

too_large : reading (ascii "sync\t18446744073709551616\t0\t0") ≡ Malformed
unfolding kind is_number reading
too_large = refl

needless-zero : reading (ascii "sync\t00\t0\t0") ≡ Malformed
unfolding kind is_number reading
needless-zero = refl

carriage_return : reading (ascii "sync\t0\t0\t0\r") ≡ Malformed
unfolding kind is_number reading
carriage_return = refl

space : reading (ascii "sync\t0 0\t0") ≡ Malformed
unfolding kind is_number reading
space = refl

no_number : reading (ascii "sync\t\t0\t0") ≡ Malformed
unfolding kind is_number reading
no_number = refl

capital : reading (ascii "Sync\t0\t0\t0") ≡ Malformed
unfolding kind is_number reading
capital = refl

three-fields : reading (ascii "sync\t0\t0") ≡ Malformed
unfolding kind is_number reading
three-fields = refl

five-fields : reading (ascii "sync\t0\t0\t0\t") ≡ Malformed
unfolding kind is_number reading
five-fields = refl
