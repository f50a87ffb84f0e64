-- What the format promises. Each is a statement, a type whose proof is owed. Assumes nothing.
use Rattle.std.specs.Prelude.{◌≡◌, ℕ, List, Ok, Err, ◌≢◌}
use Rattle.codes.specs.Calls.{Call, garbled, Answer}
use Rattle.wire.specs.Rows.{Bytes, Ceases, Only}
use Rattle.wire.specs.Format.{call_of, CallFits, bytes_of, answer_of, AnswerFits, answer_bytes}

-- reading what was written gives the same call
abbrev pub CallsReadBack : Type 0
CallsReadBack = (c : Call) → CallFits c → call_of (bytes_of c) ≡ c

-- and what is read as a call that is not garbled has just the bytes of that call
abbrev pub CallsWrittenBack : Type 0
CallsWrittenBack =
    (bs : List ℕ) → Bytes bs → ((n : ℕ) → call_of bs ≢ garbled n) → CallFits (call_of bs) × (bytes_of (call_of bs) ≡ bs)

-- two calls with the same bytes are the same
abbrev pub CallsDiffer : Type 0
CallsDiffer = (c d : Call) → CallFits c → CallFits d → bytes_of c ≡ bytes_of d → c ≡ d

-- a row is garbled at the first byte that does not fit, the only place of that kind
abbrev pub CallsCease : Type 0
CallsCease = (bs : List ℕ) (n : ℕ) → Bytes bs → call_of bs ≡ garbled n → Only (Ceases CallFits bytes_of bs) n

-- the same of answers, and of bytes that are none
abbrev pub AnswersReadBack : Type 0
AnswersReadBack = (a : Answer) → AnswerFits a → answer_of (answer_bytes a) ≡ Ok a

abbrev pub AnswersWrittenBack : Type 0
AnswersWrittenBack = (bs : List ℕ) (a : Answer) → Bytes bs → answer_of bs ≡ Ok a → AnswerFits a × (answer_bytes a ≡ bs)

abbrev pub AnswersCease : Type 0
AnswersCease = (bs : List ℕ) (n : ℕ) → Bytes bs → answer_of bs ≡ Err n → Only (Ceases AnswerFits answer_bytes bs) n
