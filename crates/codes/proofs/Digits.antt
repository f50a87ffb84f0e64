-- The pegs of a code as the digits of its number, there and back. Assumes nothing.
use Rattle.std.proofs.Common.{◌≡◌, ℕ, zero, suc, ◌+◌, ◌*◌, ◌/◌, ◌%◌, ◌<◌, ◌≤◌, true, List, [], ◌∷◌, length, get_or, refl, ap, ◌∙◌, mod-lt, mod-eq_of_lt, zero-lt-suc, mul_comm, div-lt_iff_lt-mul, arith}
use native.Mathlib.Nat.{mod-add-div, div-eq_of_lt}
use native.Mathlib.Nat.{add-mul-mod_self_left, add-mul-div_left}
use lib.Arith.{digits_lt}
use Rattle.std.proofs.lemmas.Bool.Decides.{nat_tests}
use Rattle.codes.specs.Codes.{digits, power}
use Rattle.codes.specs.Pegs.{coloured, number_of}
use Rattle.codes.specs.Laws.{CodeOfPegs, PegsOfCode}

pub length_digits : (k c n : ℕ) → length (digits k c n) ≡ k
unfolding digits
length_digits zero c n = refl
length_digits (suc k) zero n = ap suc (length_digits k zero n)
length_digits (suc k) (suc c) n = ap suc (length_digits k (suc c) (n / suc c))

pub coloured_cons : (c x : ℕ) (xs : List ℕ) → coloured c (x ∷ xs) ≡ true → (x < c) × (coloured c xs ≡ true)
unfolding coloured
coloured_cons c x xs h = grind (arith, nat_tests)

pub coloured_digits : (k c n : ℕ) → 0 < c → coloured c (digits k c n) ≡ true
unfolding digits coloured
coloured_digits zero c n h = refl
coloured_digits (suc k) zero n h = absurd (omega arith)
coloured_digits (suc k) (suc c) n h =
    let ih = coloured_digits k (suc c) (n / suc c) h in let low = mod-lt n h in grind (arith, nat_tests)

-- each peg of a coloured row has a colour
pub colour_at : (c : ℕ) (xs : List ℕ) (i : ℕ) → coloured c xs ≡ true → i < length xs → get_or xs i 0 < c
colour_at c [] i h some = absurd (omega arith)
colour_at c (x ∷ xs) zero h some = (coloured_cons c x xs h).0
colour_at c (x ∷ xs) (suc i) h some = colour_at c xs i (coloured_cons c x xs h).1 (omega arith)

-- what is of few colours is of more
pub coloured_more : (b c : ℕ) (xs : List ℕ) → b ≤ c → coloured b xs ≡ true → coloured c xs ≡ true
unfolding coloured
coloured_more b c [] le h = refl
coloured_more b c (x ∷ xs) le h =
    let (low, rest) = coloured_cons b x xs h in let ih = coloured_more b c xs le rest in grind (arith, nat_tests)

-- with no colour there is no code but that of no pegs
coloured_code : (k c n : ℕ) → n < power c k → coloured c (digits k c n) ≡ true
unfolding digits coloured power
coloured_code zero c n h = refl
coloured_code (suc k) zero n h = absurd (omega arith)
coloured_code (suc k) (suc c) n h = coloured_digits (suc k) (suc c) n (zero-lt-suc c)

-- the pegs after the first are those of a code too
div_below : (c p n : ℕ) → n < suc c * p → n / suc c < p
div_below c p n h = (div-lt_iff_lt-mul (zero-lt-suc c)).1 (rw mul_comm at h)

pub number_digits : (k c n : ℕ) → n < power c k → number_of c (digits k c n) ≡ n
unfolding digits number_of power
number_digits zero c n h = omega arith
number_digits (suc k) zero n h = omega arith
number_digits (suc k) (suc c) n h =
    ap (λ x. n % suc c + suc c * x) (number_digits k (suc c) (n / suc c) (div_below c (power (suc c) k) n h))
    ∙ mod-add-div n (suc c)

-- the first peg of a number, and the number of the others
mod_number : (c x n : ℕ) → x < c → (x + c * n) % c ≡ x
mod_number c x n h = add-mul-mod_self_left x c n ∙ mod-eq_of_lt h

div_number : (c x n : ℕ) → x < c → (x + c * n) / c ≡ n
div_number c x n h = omega (arith, add-mul-div_left x n {y = c} (omega arith), div-eq_of_lt h)

digits_number : (c : ℕ) (xs : List ℕ) → coloured c xs ≡ true → digits (length xs) c (number_of c xs) ≡ xs
unfolding digits number_of
digits_number c [] h = refl
digits_number zero (x ∷ xs) h = absurd (omega (arith, coloured_cons zero x xs h))
digits_number (suc c) (x ∷ xs) h =
    let (low, rest) = coloured_cons (suc c) x xs h in
    let ih = digits_number (suc c) xs rest in
    let n = number_of (suc c) xs in
    cc (mod_number (suc c) x n low, div_number (suc c) x n low)

pub number_lt : (c : ℕ) (xs : List ℕ) → coloured c xs ≡ true → number_of c xs < power c (length xs)
unfolding number_of power
number_lt c [] h = omega arith
number_lt c (x ∷ xs) h =
    let (low, rest) = coloured_cons c x xs h in let below = digits_lt (number_lt c xs rest) low in omega arith

pub code_of_pegs : CodeOfPegs
code_of_pegs g c h =
    let l = length_digits g.pegs g.colours c in
    let k = coloured_code g.pegs g.colours c h in
    let n = number_digits g.pegs g.colours c h in
    grind (arith, nat_tests)

pub pegs_of_code : PegsOfCode
pegs_of_code g xs c h =
    let l : length xs ≡ g.pegs = grind (arith, nat_tests) in
    let k : coloured g.colours xs ≡ true = grind (arith, nat_tests) in
    let n : number_of g.colours xs ≡ c = grind (arith, nat_tests) in
    (rw (n, l) at (number_lt g.colours xs k), rw (n, l) at (digits_number g.colours xs k))
