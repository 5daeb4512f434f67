-- What each refusal is called: its number, and its words for people. Assumes nothing.
use Rattle.std.specs.Prelude.{ℕ, List, ◌++◌, codes, decimal}
use Rattle.roster.specs.declared.denial.Denial.{Denial}
use Rattle.roster.specs.declared.denial.Denial.TheVariants.{RosterSize, FaultySet, IllMatched, NoSuchAddress, OutOfRange, FaultySeat, FigureRange, CodeTooLarge, PutBefore, NothingDue, HandedBefore, NoLetter, ShortBuffer}

abbrev pub number_of : Denial → ℕ
number_of RosterSize = 1
number_of FaultySet = 2
number_of IllMatched = 3
number_of NoSuchAddress = 4
number_of OutOfRange = 5
number_of FaultySeat = 6
number_of FigureRange = 7
number_of CodeTooLarge = 8
number_of PutBefore = 9
number_of NothingDue = 10
number_of HandedBefore = 11
number_of (NoLetter place) = 12
number_of ShortBuffer = 13

abbrev pub words_of : Denial → List ℕ
words_of RosterSize = codes "n is not 1 to 10, or 3t is not below n"
words_of FaultySet = codes "the faulty set has a seat beyond n, or over t seats"
words_of IllMatched = codes "the part is ill-matched"
words_of NoSuchAddress = codes "no such address, hall or kind"
words_of OutOfRange = codes "a seat, letter kind, slot or origin is out of range"
words_of FaultySeat = codes "a faulty seat, or a sound sender of a stray act"
words_of FigureRange = codes "a figure is out of its range"
words_of CodeTooLarge = codes "the code is above the largest"
words_of PutBefore = codes "the seat has put before"
words_of NothingDue = codes "nothing to hand over, or nothing due"
words_of HandedBefore = codes "counted or handed over before"
words_of (NoLetter place) = codes "the bytes are no letter"
words_of ShortBuffer = codes "the buffer is shorter than 23 bytes"

-- where the bytes stop to be a letter, for the refusal that has such a place
abbrev pub place_of : Denial → List ℕ
place_of (NoLetter place) = codes " at " ++ decimal place
place_of RosterSize = codes ""
place_of FaultySet = codes ""
place_of IllMatched = codes ""
place_of NoSuchAddress = codes ""
place_of OutOfRange = codes ""
place_of FaultySeat = codes ""
place_of FigureRange = codes ""
place_of CodeTooLarge = codes ""
place_of PutBefore = codes ""
place_of NothingDue = codes ""
place_of HandedBefore = codes ""
place_of ShortBuffer = codes ""

-- what a person reads
abbrev pub text_of : Denial → List ℕ
text_of d = codes "denied " ++ (decimal (number_of d) ++ (place_of d ++ (codes ": " ++ words_of d)))
