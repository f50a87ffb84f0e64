-- Rows of bytes: a number in the first byte, then values, each in as many bytes as its field is wide, the lowest first.
-- Assumes nothing: these are definitions.
use Rattle.std.specs.Prelude.{◌≡◌, ℕ, zero, suc, ◌+◌, ◌*◌, ◌/◌, ◌%◌, ◌^◌, ◌<◌, ◌⊎◌, List, [], ◌∷◌, ◌++◌, length, take, drop, ◌==◌, ◌≢◌, nat_lt, slice_index_or}
use Rattle.std.specs.List.{AllByRecursion}
use Rattle.codes.specs.Codes.{pick, lesser}

abbrev pub Bytes : List ℕ → Type 0
Bytes bs = AllByRecursion (λ b. b < 256) bs

-- a number in so many bytes, and the number that bytes stand for
abbrev pub low_first : ℕ → ℕ → List ℕ
low_first zero n = []
low_first (suc w) n = (n % 256) ∷ low_first w (n / 256)

abbrev pub number_of : List ℕ → ℕ
number_of [] = 0
number_of (b ∷ bs) = b + 256 * number_of bs

-- a form is a list of widths: so many bytes do its fields take, so their values are written, and so they are read
abbrev pub size : List ℕ → ℕ
size [] = 0
size (w ∷ ws) = w + size ws

abbrev pub written : List ℕ → List ℕ → List ℕ
written [] vs = []
written (w ∷ ws) [] = []
written (w ∷ ws) (v ∷ vs) = low_first w v ++ written ws vs

abbrev pub values : List ℕ → List ℕ → List ℕ
values [] bs = []
values (w ∷ ws) bs = number_of (take w bs) ∷ values ws (drop w bs)

-- there is one value for each field, and it fits the field's width
abbrev pub Fit : List ℕ → List ℕ → Type 0
Fit [] [] = Unit {0}
Fit [] (v ∷ vs) = ⊥
Fit (w ∷ ws) [] = ⊥
Fit (w ∷ ws) (v ∷ vs) = (v < 256 ^ w) × Fit ws vs

-- what bytes are read as: a row by its number, with its values; or none, since they cease to be one at a place
pub data Reading : Type 0 where
  row : ℕ → List ℕ → Reading
  ceases : ℕ → Reading

-- the first byte says which of some forms the others have to have, all of them and no more
abbrev pub by_form : ℕ → List ℕ → List ℕ → Reading
by_form k ws bs = pick (length bs == size ws) (row k (values ws bs)) (ceases (suc (lesser (length bs) (size ws))))

abbrev pub reading : List (List ℕ) → List ℕ → Reading
reading forms [] = ceases 0
reading forms (k ∷ bs) = pick (nat_lt k (length forms)) (by_form k (slice_index_or forms k []) bs) (ceases 0)

abbrev pub Fits : List (List ℕ) → Reading → Type 0
Fits forms (row k vs) = (k < length forms) × Fit (slice_index_or forms k []) vs
Fits forms (ceases n) = ⊥

abbrev pub row_bytes : List (List ℕ) → Reading → List ℕ
row_bytes forms (row k vs) = k ∷ written (slice_index_or forms k []) vs
row_bytes forms (ceases n) = []

abbrev pub Begins : List ℕ → List ℕ → Type 0
Begins xs ys = (zs : List ℕ) × (xs ++ zs ≡ ys)

-- the place at which bytes cease to be one of some rows: those before it begin such a row; with the byte there they begin none,
-- or they end there and are none
pub record Ceases {A : Type 0} (Known : A → Type 0) (bytes : A → List ℕ) (bs : List ℕ) (n : ℕ) : Type 0 where
  pub begun : (a : A) × Known a × Begins (take n bs) (bytes a)
  pub stuck :
      ((n < length bs) × ((a : A) → Known a → Begins (take (suc n) bs) (bytes a) → ⊥))
      ⊎ ((n ≡ length bs) × ((a : A) → Known a → bytes a ≢ bs))

abbrev pub Only : (ℕ → Type 0) → ℕ → Type 0
Only P n = P n × ((m : ℕ) → P m → m ≡ n)
