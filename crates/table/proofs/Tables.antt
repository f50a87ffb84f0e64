-- Where the rows of a table lie. Assumes nothing.
use Rattle.std.proofs.Common.{◌≡◌, ℕ, ◌+◌, ◌*◌, ◌<◌, ◌≤◌, true, List, length, get_or, Some, None, Option, ◌∙◌, mul-le-mul_right, suc-mul, arith, Bor}
use Rattle.std.specs.Option.{option_map}
use Rattle.std.specs.Slice.{IsGetResult}
use Rattle.std.proofs.lemmas.List.Edits.{length-between, get_or-between}
use Rattle.std.proofs.lemmas.Bool.Decides.{nat_tests}
use Rattle.table.specs.Table.{entry, row, holds, row_at, entry_at}
use Rattle.table.specs.declared.shape.Shape.{Shape}

-- the row of a guess ends within the table
row_within : (q n m : ℕ) → q < m → q * n + n ≤ m * n
row_within q n m h = omega (arith, suc-mul q n, mul-le-mul_right n h)

-- a row has an entry for each code
pub length_row : (s : Shape) (xs : List ℕ) (q : ℕ) → holds s xs ≡ true → q < s.guesses → length (row s xs q) ≡ s.codes
length_row s xs q fit some =
    let within = row_within q s.codes s.guesses some in
    length-between xs (q * s.codes) (q * s.codes + s.codes) (grind (arith, nat_tests)) ∙ omega arith

pub get_or_row : (s : Shape) (xs : List ℕ) (q c : ℕ) → c < s.codes → get_or (row s xs q) c 0 ≡ entry s xs q c
get_or_row s xs q c low = get_or-between xs (q * s.codes) (q * s.codes + s.codes) c 0 (omega arith)

-- what was found at a code's place in the row that was found
pub entry_found :
    (s : Shape) (xs : List ℕ) (q c : ℕ) (ys : List ℕ) (o : Option (Bor ℕ)) →
    Some ys ≡ row_at s xs q → IsGetResult ys c c o →
    option_map (λ x. x.now) o ≡ entry_at s xs q c
entry_found s xs q c ys None here none =
    let long = length_row s xs q in let end = none.3 in grind (arith, nat_tests)
entry_found s xs q c ys (Some x) here some =
    let long = length_row s xs q in
    let (low, is) = some.3 in
    let at = is 0 in
    let e = get_or_row s xs q c in
    grind (arith, nat_tests)
