-- The fields of a line, each a blank and then digits. Assumes nothing: these are definitions.
use Rattle.std.specs.Prelude.{ℕ, ◌+◌, ◌-◌, ◌*◌, min, Bool, false, ◌&&◌, List, length, take, drop, Some, None, Ok, Err, Option, Result, ◌==◌, nat_le, nat_lt, slice_index, fold}
use Rattle.std.specs.Option.{unwrap_or}
use Rattle.std.specs.List.{prefix_len}
use Rattle.codes.specs.Codes.{pick}

-- the value of a hexadecimal digit
abbrev pub digit : ℕ → Option ℕ
digit c =
    pick (nat_le 48 c && nat_le c 57) (Some (c - 48))
    (pick (nat_le 97 c && nat_le c 102) (Some (c - 87)) (pick (nat_le 65 c && nat_le c 70) (Some (c - 55)) None))

-- the same, and 0 for any other character
abbrev pub value : ℕ → ℕ
value c = unwrap_or (digit c) 0

-- whether a character is a digit below a base
abbrev pub below : ℕ → Option ℕ → Bool
below base None = false
below base (Some d) = nat_lt d base

abbrev pub digit_below : ℕ → ℕ → Bool
digit_below base c = below base (digit c)

-- how many characters at the front of a text are such digits
abbrev pub run : ℕ → List ℕ → ℕ
run base cs = prefix_len (digit_below base) cs

-- the place behind so many digits from a place on, or that place if there are none
abbrev pub behind : ℕ → ℕ → Result ℕ ℕ
behind at n = pick (n == 0) (Err at) (Ok (at + n))

-- the place behind the field that begins at a place, or the place that does not fit
abbrev pub field_end : List ℕ → ℕ → ℕ → Result ℕ ℕ
field_end cs at base = pick (slice_index cs at == 32) (behind (at + 1) (run base (drop (at + 1) cs))) (Err at)

abbrev pub and_then : {A : Type 0} → Result ℕ ℕ → (ℕ → Result A ℕ) → Result A ℕ
and_then (Ok at) f = f at
and_then (Err n) f = Err n

-- where pegs, colours, code and guess end
abbrev pub Ends : Type 0
Ends = ℕ × ℕ × ℕ × ℕ

-- where two numbers and two rows of pegs end that fill a text from a place on, or the first place that does not fit
abbrev pub field_ends : List ℕ → ℕ → Result Ends ℕ
field_ends cs start =
    and_then (field_end cs start 10) (λ pegs.
    and_then (field_end cs pegs 10) (λ colours.
    and_then (field_end cs colours 16) (λ code.
    and_then (field_end cs code 16) (λ guess.
    pick (guess == length cs) (Ok (pegs, colours, code, guess)) (Err guess)))))

-- the digits of a field that begins at a place and ends at another
abbrev pub digits_of : List ℕ → ℕ → ℕ → List ℕ
digits_of cs at end = take (end - (at + 1)) (drop (at + 1) cs)

-- the number that decimal digits write; one above 255 is taken as 255
abbrev pub number_in : List ℕ → ℕ
number_in cs = fold (λ n c. min (10 * n + value c) 255) 0 cs
