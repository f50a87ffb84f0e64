-- What the format promises of calls and answers, from the laws of rows. Assumes nothing.
use Rattle.std.proofs.Common.{◌≡◌, ℕ, List, Ok, Err, refl, ap, ◌∙◌, arith}
use Rattle.std.proofs.lemmas.Bool.Decides.{nat_tests}
use Rattle.codes.specs.Calls.{Call, was_told, back, left_over, could_be, advise, garbled, Answer, refused, number, two}
use Rattle.wire.specs.Rows.{Reading, row, ceases, Fits, reading}
use Rattle.wire.specs.Format.{call_forms, call_row, call_in, call_of, CallFits, bytes_of}
use Rattle.wire.specs.Format.{answer_forms, answer_row, answer_in, AnswerFits, answer_bytes}
use Rattle.wire.specs.Laws.{CallsReadBack, CallsWrittenBack, CallsDiffer, CallsCease}
use Rattle.wire.specs.Laws.{AnswersReadBack, AnswersWrittenBack, AnswersCease}
use Rattle.wire.proofs.Rows.{reading_row_bytes, Sound, reading_sound, row_counted, cease_as}

call_in_row : (c : Call) → call_in (call_row c) ≡ c
call_in_row (was_told q r n) = refl
call_in_row back = refl
call_in_row left_over = refl
call_in_row (could_be c) = refl
call_in_row advise = refl
call_in_row (garbled n) = refl

call_row_in : (r : Reading) → Fits call_forms r → call_row (call_in r) ≡ r
call_row_in (row k vs) f = grind (arith, nat_tests, row_counted call_forms k vs f)
call_row_in (ceases n) f = elim f [ ]

call_ceases : (r : Reading) (n : ℕ) → call_in r ≡ garbled n → r ≡ ceases n
call_ceases (row k vs) n e = grind arith
call_ceases (ceases m) n e = cc

pub calls_read_back : CallsReadBack
calls_read_back c f = ap call_in (reading_row_bytes call_forms (call_row c) f) ∙ call_in_row c

pub calls_differ : CallsDiffer
calls_differ c d f g e = cc (calls_read_back c f, ap call_of e, calls_read_back d g)

call_written :
    (bs : List ℕ) (r : Reading) → Sound call_forms bs r → ((n : ℕ) → call_in r ≡ garbled n → ⊥) →
    CallFits (call_in r) × (bytes_of (call_in r) ≡ bs)
call_written bs (row k vs) s f = rw (call_row_in (row k vs) s.0) s
call_written bs (ceases n) s f = absurd (f n refl)

pub calls_written_back : CallsWrittenBack
calls_written_back bs h f = call_written bs (reading call_forms bs) (reading_sound call_forms bs (omega arith) h) f

pub calls_cease : CallsCease
calls_cease bs n h e = cease_as call_forms call_row (λ r f. (call_in r, call_row_in r f)) (omega arith) bs n h (call_ceases _ n e)

answer_in_row : (a : Answer) → answer_in (answer_row a) ≡ Ok a
answer_in_row (refused k p) = refl
answer_in_row (number n) = refl
answer_in_row (two m n) = refl

answer_row_in : (r : Reading) (a : Answer) → Fits answer_forms r → answer_in r ≡ Ok a → answer_row a ≡ r
answer_row_in (row k vs) a f e = grind (arith, nat_tests, row_counted answer_forms k vs f)
answer_row_in (ceases n) a f e = elim f [ ]

row_answer : (r : Reading) → Fits answer_forms r → (a : Answer) × (answer_row a ≡ r)
row_answer (row k vs) f = (_, answer_row_in (row k vs) _ f refl)
row_answer (ceases n) f = elim f [ ]

answer_ceases : (r : Reading) (n : ℕ) → answer_in r ≡ Err n → r ≡ ceases n
answer_ceases (row k vs) n e = cc
answer_ceases (ceases m) n e = cc

pub answers_read_back : AnswersReadBack
answers_read_back a f = ap answer_in (reading_row_bytes answer_forms (answer_row a) f) ∙ answer_in_row a

answer_written :
    (bs : List ℕ) (r : Reading) (a : Answer) → Sound answer_forms bs r → answer_in r ≡ Ok a →
    AnswerFits a × (answer_bytes a ≡ bs)
answer_written bs (row k vs) a s e = rw (answer_row_in (row k vs) a s.0 e) s
answer_written bs (ceases n) a s e = absurd cc

pub answers_written_back : AnswersWrittenBack
answers_written_back bs a h e = answer_written bs (reading answer_forms bs) a (reading_sound answer_forms bs (omega arith) h) e

pub answers_cease : AnswersCease
answers_cease bs n h e = cease_as answer_forms answer_row row_answer (omega arith) bs n h (answer_ceases _ n e)
