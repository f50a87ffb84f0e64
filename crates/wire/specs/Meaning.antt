-- What the types of the code stand for. Assumes nothing: these are definitions.
use Rattle.std.specs.Prelude.{◌≢◌, ℕ, suc, List, ◌++◌, map, length, drop, Ok, Err, Result, nat_le}
use Rattle.codes.specs.Codes.{pick}
use Rattle.wire.specs.Rows.{row, size, reading}
use Rattle.codes.specs.Calls as book
use Rattle.wire.specs.declared.answer.Answer.{Answer}
use Rattle.wire.specs.declared.answer.Answer.TheVariants.{Refused, Number, Two}
use Rattle.wire.specs.declared.call.Call.{Call}
use Rattle.wire.specs.declared.call.Call.TheVariants.{Told, Back, Left, CouldBe, Advise}
use Rattle.wire.specs.declared.refusal.Refusal.{Refusal}
use Rattle.wire.specs.declared.refusal.Refusal.TheVariants.{Unreadable, MorePegs, NoSuchGame, NoSuchCode, NothingLeft, PastLimit, TooManyLeft}
use Rattle.wire.specs.declared.row.Garbled.{Garbled}
use Rattle.wire.specs.declared.row.TooShort.{TooShort}

-- each case of a call, with its numbers
abbrev pub asks : Call → book.Call
asks (Told guess right near) = book.was_told guess right near
asks Back = book.back
asks Left = book.left_over
asks (CouldBe code) = book.could_be code
asks Advise = book.advise

abbrev pub asked : Result Call Garbled → book.Call
asked (Ok c) = asks c
asked (Err g) = book.garbled g.place

-- each case of an answer, with its numbers
abbrev pub says : Answer → book.Answer
says (Refused number place) = book.refused number place
says (Number n) = book.number n
says (Two m n) = book.two m n

abbrev pub answered : Result Answer Garbled → Result book.Answer ℕ
answered (Ok a) = Ok (says a)
answered (Err g) = Err g.place

-- the number of each refusal
abbrev pub refusal_number : Refusal → ℕ
refusal_number Unreadable = 1
refusal_number MorePegs = 2
refusal_number NoSuchGame = 3
refusal_number NoSuchCode = 4
refusal_number NothingLeft = 5
refusal_number PastLimit = 6
refusal_number TooManyLeft = 7

-- how long the rows of some forms are, by the number in their first byte
abbrev pub lengths_of : List (List ℕ) → List ℕ
lengths_of forms = map (λ ws. suc (size ws)) forms

-- bytes that are no row of some forms
abbrev pub NoRow : List (List ℕ) → List ℕ → Type 0
NoRow forms bs = (k : ℕ) (vs : List ℕ) → reading forms bs ≢ row k vs

-- bytes at the front of a buffer that is long enough, and its rest as it was; else the buffer as it was, and how many are needed
abbrev pub put_in : List ℕ → List ℕ → List ℕ
put_in bs out = pick (nat_le (length bs) (length out)) (bs ++ drop (length bs) out) out

abbrev pub put_said : List ℕ → List ℕ → Result ℕ TooShort
put_said bs out = pick (nat_le (length bs) (length out)) (Ok (length bs)) (Err (record { needed = length bs }))
