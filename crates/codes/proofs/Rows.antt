-- How a code's pegs are written one after another, and read back. Assumes nothing.
use Rattle.std.proofs.Common.{◌≡◌, ℕ, zero, suc, ◌+◌, ◌-◌, ◌*◌, ◌/◌, ◌%◌, ◌<◌, ◌≤◌, true, false, List, [], ◌∷◌, ◌++◌, length, take, drop, set, replicate, refl, sym, ap, ◌∙◌, append_assoc, length-append, mul-le-mul, arith}
use Rattle.std.proofs.lemmas.List.{append-nil, length-set, length-take, take_more_set, take_all, take_at, drop_at, drop-replicate}
use Rattle.std.proofs.lemmas.Bool.Decides.{nat_tests}
use Rattle.codes.specs.Codes.{Game, digits, power, pegs_of}
use Rattle.codes.specs.Pegs.{coloured, number_of}
use Rattle.codes.proofs.Digits.{number_lt}
use Rattle.codes.proofs.Powers.{power_mono}

digits_more : (k c n : ℕ) → 0 < k → 0 < c → digits k c n ≡ n % c ∷ digits (k - 1) c (n / c)
unfolding digits
digits_more zero c n some any = elim some [ ]
digits_more (suc k) zero n some any = elim any [ ]
digits_more (suc k) (suc c) n some any = ap (λ j. n % suc c ∷ digits j (suc c) (n / suc c)) (omega arith)

abbrev zeros : List ℕ
zeros = replicate 8 0

-- a row into which the first i digits of a number are written
module _ (c n : ℕ) where
  abbrev pub Written : ℕ → ℕ → List ℕ → Type 0
  Written i rest row = take i row ++ digits (length row - i) c rest ≡ digits (length row) c n

  pub written_more :
      (i rest : ℕ) (row : List ℕ) → Written i rest row → i < length row → 0 < c → Written (i + 1) (rest / c) (set row i (rest % c))
  written_more i rest row inv more some =
      let j : (length row - i) - 1 ≡ length row - (i + 1) = omega arith in
      let d = digits_more (length row - i) c rest (omega arith) some in
      let l = length-set row i (rest % c) in
      cc (take_more_set row i (rest % c) more, append_assoc (take i row) (rest % c ∷ []) (digits (length row - (i + 1)) c (rest / c)))

  written_all : (i rest : ℕ) (row : List ℕ) → Written i rest row → length row ≤ i → row ≡ digits (length row) c n
  unfolding digits
  written_all i rest row inv end =
      let z : length row - i ≡ 0 = omega arith in
      let none : digits (length row - i) c rest ≡ [] = ap (λ k. digits k c rest) z in
      cc (append-nil row, take_all i row end)

  -- a row of eight whose first pegs are written
  pub written_row :
      (g : Game) (i rest p : ℕ) (row : List ℕ) → Written i rest row → length (take p zeros) ≤ i → length row ≡ length (take p zeros) →
      c ≡ g.colours → p ≡ g.pegs → g.pegs ≤ 8 →
      (take g.pegs (row ++ drop p zeros) ≡ pegs_of g n) × (drop g.pegs (row ++ drop p zeros) ≡ replicate (8 - g.pegs) 0)
  written_row g i rest p row inv end long e few short =
      let l : length row ≡ g.pegs = omega (arith, length-take p zeros) in (
        cc (take_at row (drop p zeros) g.pegs l, written_all i rest row inv (omega arith)),
        cc (drop_at row (drop p zeros) g.pegs l, drop-replicate {X = ℕ} p 8 0),
      )

coloured_part : (c : ℕ) (ys : List ℕ) (x : ℕ) (zs : List ℕ) → c ≤ x → coloured c (ys ++ x ∷ zs) ≡ false
unfolding coloured
coloured_part c [] x zs high = grind (arith, nat_tests)
coloured_part c (y ∷ ys) x zs high = let ih = coloured_part c ys x zs high in grind (arith, nat_tests)

-- the last pegs of a row are read as the digits of a number
module _ (c : ℕ) (xs : List ℕ) where
  pub record Numbered (rest : List ℕ) (n : ℕ) : Type 0 where
    pub last : List ℕ
    pub whole : rest ++ last ≡ xs
    pub number : n ≡ number_of c last
    pub colours : coloured c last ≡ true

  pub numbered_none : Numbered xs 0
  unfolding number_of coloured
  numbered_none = record { last = []; whole = append-nil xs; number = refl; colours = refl }

  -- the row has a peg before those that were read
  parted : (rest rest' : List ℕ) (x n : ℕ) (k : Numbered rest n) → rest ≡ rest' ++ x ∷ [] → rest' ++ x ∷ k.last ≡ xs
  parted rest rest' x n k e = sym (append_assoc rest' (x ∷ []) k.last) ∙ ap (λ ys. ys ++ k.last) (sym e) ∙ k.whole

  pub numbered_more :
      (rest rest' : List ℕ) (x n : ℕ) → Numbered rest n → rest ≡ rest' ++ x ∷ [] → x < c → Numbered rest' (n * c + x)
  unfolding number_of coloured
  numbered_more rest rest' x n k e low =
      record {
        last = x ∷ k.last;
        whole = parted rest rest' x n k e;
        number = omega (arith, ap (λ m. m * c) k.number);
        colours = grind (arith, nat_tests, k.colours);
      }

  -- the number is below that of the game's codes, so it stays small when a peg is joined to it
  pub numbered_fits :
      (rest : List ℕ) (n p : ℕ) → Numbered rest n → 0 < c → c ≤ 16 → length xs ≡ p → power c p ≤ 256 → n * c ≤ 255 * 16
  numbered_fits rest n p k some few long most =
      let low = number_lt c k.last k.colours in
      let parts = simp length-append at (ap length k.whole) in
      let grows = power_mono c (length k.last) p some (omega arith) in
      mul-le-mul {n₂ = 255} (omega (arith, k.number)) few

  -- a peg of another colour makes no row of the game
  pub not_coloured : (rest rest' : List ℕ) (x n : ℕ) → Numbered rest n → rest ≡ rest' ++ x ∷ [] → c ≤ x → coloured c xs ≡ false
  not_coloured rest rest' x n k e high = rw (← parted rest rest' x n k e) (coloured_part c rest' x k.last high)
