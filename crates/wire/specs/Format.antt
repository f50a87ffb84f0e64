-- Which bytes are which call, and which bytes an answer has. Assumes nothing: these are definitions.
use Rattle.std.specs.Prelude.{ℕ, List, [], ◌∷◌, Ok, Err, Result, ◌==◌, slice_index}
use Rattle.codes.specs.Codes.{pick}
use Rattle.codes.specs.Calls.{Call, was_told, back, left_over, could_be, advise, garbled, Answer, refused, number, two}
use Rattle.wire.specs.Rows.{Reading, row, ceases, reading, Fits, row_bytes}

-- told: a code in two bytes, right and near in one each; back; left; could be: a code; advise
abbrev pub call_forms : List (List ℕ)
call_forms = (2 ∷ (1 ∷ (1 ∷ []))) ∷ ([] ∷ ([] ∷ ((2 ∷ []) ∷ ([] ∷ []))))

abbrev pub call_row : Call → Reading
call_row (was_told q r n) = row 0 (q ∷ (r ∷ (n ∷ [])))
call_row back = row 1 []
call_row left_over = row 2 []
call_row (could_be c) = row 3 (c ∷ [])
call_row advise = row 4 []
call_row (garbled n) = ceases n

abbrev pub call_in : Reading → Call
call_in (row k vs) =
    pick (k == 0) (was_told (slice_index vs 0) (slice_index vs 1) (slice_index vs 2))
    (pick (k == 1) back (pick (k == 2) left_over (pick (k == 3) (could_be (slice_index vs 0)) advise)))
call_in (ceases n) = garbled n

-- bytes as a call, garbled where they cease to be one; a call whose numbers fit has bytes, and these are they
abbrev pub call_of : List ℕ → Call
call_of bs = call_in (reading call_forms bs)

abbrev pub CallFits : Call → Type 0
CallFits c = Fits call_forms (call_row c)

abbrev pub bytes_of : Call → List ℕ
bytes_of c = row_bytes call_forms (call_row c)

-- a refusal and its place; a number; two numbers: four bytes each
abbrev pub answer_forms : List (List ℕ)
answer_forms = (4 ∷ (4 ∷ [])) ∷ ((4 ∷ []) ∷ ((4 ∷ (4 ∷ [])) ∷ []))

abbrev pub answer_row : Answer → Reading
answer_row (refused k p) = row 0 (k ∷ (p ∷ []))
answer_row (number n) = row 1 (n ∷ [])
answer_row (two m n) = row 2 (m ∷ (n ∷ []))

abbrev pub answer_in : Reading → Result Answer ℕ
answer_in (row k vs) =
    Ok (pick (k == 0) (refused (slice_index vs 0) (slice_index vs 1))
    (pick (k == 1) (number (slice_index vs 0)) (two (slice_index vs 0) (slice_index vs 1))))
answer_in (ceases n) = Err n

-- bytes as an answer, or the place where they cease to be one
abbrev pub answer_of : List ℕ → Result Answer ℕ
answer_of bs = answer_in (reading answer_forms bs)

abbrev pub AnswerFits : Answer → Type 0
AnswerFits a = Fits answer_forms (answer_row a)

abbrev pub answer_bytes : Answer → List ℕ
answer_bytes a = row_bytes answer_forms (answer_row a)
