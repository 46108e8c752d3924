-- What is printed is read as it was, and what is read is printed as it was.
use mathlib.Core.Path.{◌≡◌, refl, sym, ◌∙◌}
use mathlib.Core.List.{List}
use Prim.Native.Nat.{ℕ}
use Rattle.words.specs.Words.{number}
use Rattle.words.specs.declared.Word.{Word}
use Rattle.words.specs.declared.Word.TheVariants.{Reserve, Create, Map, Access, Unmap, Release, Record as RecordEvent, Asked, Wait, Sync, Giveback}
use Rattle.trace.specs.Form.{ascii, word, row, text_of, Proper, ReadAs}
use Rattle.trace.specs.Reads.{kind, reading}
use Rattle.trace.specs.declared.Line.{Line}
use Rattle.trace.specs.declared.Reading.{Reading}
use Rattle.trace.specs.declared.Reading.TheVariants.{Good, Malformed}
use Rattle.trace.proofs.Printed.{read-printed}
use Rattle.trace.proofs.Meaning.{read_as, only}
use Rattle.trace.proofs.Fields.{reading-is, reads_other}

-- the bytes are the text of the line that is read, and where none is read they are no line's text
pub reading_as : (bytes : List ℕ) → ReadAs bytes (reading bytes)
reading_as bytes = rw (reading-is bytes) (read_as bytes)

-- which no other answer meets
pub only-reading : (bytes : List ℕ) (r : Reading) → ReadAs bytes r → r ≡ reading bytes
only-reading bytes r is = only bytes r is ∙ sym (reading-is bytes)

pub printed_then-read : (l : Line) → Proper l → reading (text_of l) ≡ Good l
printed_then-read l p = reading-is (text_of l) ∙ read-printed l p

pub read_then-printed : (bytes : List ℕ) (l : Line) → reading bytes ≡ Good l → text_of l ≡ bytes
read_then-printed bytes l e = sym is.1
  where
    is : ReadAs bytes (Good l)
    is = rw e at (reading_as bytes)

pub read-is-proper : (bytes : List ℕ) (l : Line) → reading bytes ≡ Good l → Proper l
read-is-proper bytes l e = is.0
  where
    is : ReadAs bytes (Good l)
    is = rw e at (reading_as bytes)

-- what replay prints on its own is no line of a trace
pub bad-is_malformed : (n : ℕ) → reading (row (ascii "bad") n 0 0) ≡ Malformed
unfolding kind
bad-is_malformed n = reads_other (ascii "bad") n 0 0 (refl, (refl, (refl, tt))) refl

pub short-is_malformed : (n : ℕ) → reading (row (ascii "short") n 0 0) ≡ Malformed
unfolding kind
short-is_malformed n = reads_other (ascii "short") n 0 0 (refl, (refl, (refl, (refl, (refl, tt))))) refl

-- the driver's words have the kinds of the log
pub spelled : Word → List ℕ
spelled Reserve = ascii "reserve"
spelled Create = ascii "create"
spelled Map = ascii "map"
spelled Access = ascii "access"
spelled Unmap = ascii "unmap"
spelled Release = ascii "release"
spelled RecordEvent = ascii "record"
spelled Asked = ascii "asked"
spelled Wait = ascii "wait"
spelled Sync = ascii "sync"
spelled Giveback = ascii "giveback"

pub word_number : (w : Word) → word (number w) ≡ spelled w
unfolding word spelled
word_number Reserve = refl
word_number Create = refl
word_number Map = refl
word_number Access = refl
word_number Unmap = refl
word_number Release = refl
word_number RecordEvent = refl
word_number Asked = refl
word_number Wait = refl
word_number Sync = refl
word_number Giveback = refl
