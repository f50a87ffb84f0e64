-- Hidden codes, what a guess is answered, and how few guesses are enough. Assumes nothing: these are definitions.
use Rattle.std.specs.Prelude.{ℕ, zero, suc, ◌+◌, ◌-◌, ◌*◌, ◌/◌, ◌%◌, Bool, true, false, ◌&&◌, ◌||◌, List, [], ◌∷◌, ◌++◌, length, ◌==◌, nat_le}

abbrev pub pick : {A : Type 0} → Bool → A → A → A
pick true a b = a
pick false a b = b

-- a game: so many pegs, each of so many colours. A code is a number, and its pegs are its digits to the base of the colours,
-- the first peg the lowest digit
pub record Game : Type 0 where
  pub pegs : ℕ
  pub colours : ℕ

unfoldable pub digits : ℕ → ℕ → ℕ → List ℕ
digits zero c n = []
digits (suc k) zero n = 0 ∷ digits k zero n
digits (suc k) (suc c) n = (n % suc c) ∷ digits k (suc c) (n / suc c)

abbrev pub pegs_of : Game → ℕ → List ℕ
pegs_of g n = digits g.pegs g.colours n

unfoldable pub power : ℕ → ℕ → ℕ
power b zero = 1
power b (suc n) = b * power b n

abbrev pub how_many : Game → ℕ
how_many g = power g.colours g.pegs

-- the pegs that two codes have alike at the same place; the pegs of a colour; and, over all colours, what both codes have of it,
-- at whatever places
unfoldable pub at_place : List ℕ → List ℕ → ℕ
at_place [] ys = 0
at_place (x ∷ xs) [] = 0
at_place (x ∷ xs) (y ∷ ys) = pick (x == y) 1 0 + at_place xs ys

unfoldable pub of_colour : ℕ → List ℕ → ℕ
of_colour c [] = 0
of_colour c (x ∷ xs) = pick (x == c) 1 0 + of_colour c xs

abbrev pub lesser : ℕ → ℕ → ℕ
lesser a b = pick (nat_le a b) a b

unfoldable pub in_common : ℕ → List ℕ → List ℕ → ℕ
in_common zero xs ys = 0
in_common (suc c) xs ys = lesser (of_colour c xs) (of_colour c ys) + in_common c xs ys

-- what a guess is told: how many pegs are right, of the code's colour at their place, and how many more are near, of a colour
-- that the code has elsewhere
pub record Told : Type 0 where
  pub right : ℕ
  pub near : ℕ

abbrev pub told_of : Game → ℕ → ℕ → Told
told_of g code guess =
    record {
      right = at_place (pegs_of g code) (pegs_of g guess);
      near = in_common g.colours (pegs_of g code) (pegs_of g guess) - at_place (pegs_of g code) (pegs_of g guess);
    }

abbrev pub same : Told → Told → Bool
same s t = s.right == t.right && s.near == t.near

-- the codes out of some that would be told so of a guess
unfoldable pub left : Game → ℕ → Told → List ℕ → List ℕ
left g q t [] = []
left g q t (c ∷ cs) = pick (same (told_of g c q) t) (c ∷ left g q t cs) (left g q t cs)

unfoldable pub all_codes : ℕ → List ℕ
all_codes zero = []
all_codes (suc n) = all_codes n ++ (n ∷ [])

-- all that a guess could be told in a game of p pegs, by right and then near
unfoldable pub with_near : ℕ → ℕ → List Told
with_near r zero = record { right = r; near = 0 } ∷ []
with_near r (suc n) = with_near r n ++ (record { right = r; near = suc n } ∷ [])

unfoldable pub all_told : ℕ → ℕ → List Told
all_told p zero = with_near 0 p
all_told p (suc r) = all_told p r ++ with_near (suc r) (p - suc r)

-- are k guesses always enough to name a code out of some, the last guess being the code? None are needed for no code; else some
-- guess has to leave, for each thing told but all right, codes for which one guess less is enough
unfoldable pub each : (Told → Bool) → List Told → Bool
each f [] = true
each f (t ∷ ts) = f t && each f ts

unfoldable pub some : (ℕ → Bool) → List ℕ → Bool
some f [] = false
some f (q ∷ qs) = f q || some f qs

unfoldable pub enough : Game → ℕ → List ℕ → Bool
enough g zero cs = length cs == 0
enough g (suc k) cs =
    (length cs == 0)
    || some (λ q. each (λ t. (t.right == g.pegs) || enough g k (left g q t cs)) (all_told g.pegs g.pegs))
    (all_codes (how_many g))

-- does a guess do, if k more may follow it?
unfoldable pub does : Game → ℕ → List ℕ → ℕ → Bool
does g k cs q = each (λ t. (t.right == g.pegs) || enough g k (left g q t cs)) (all_told g.pegs g.pegs)

-- the fewest guesses that are enough, and the smallest guess that does with so many
unfoldable pub fewest_in : Game → List ℕ → ℕ → ℕ → ℕ
fewest_in g cs zero k = k
fewest_in g cs (suc n) k = pick (enough g k cs) k (fewest_in g cs n (suc k))

abbrev pub fewest : Game → List ℕ → ℕ
fewest g cs = fewest_in g cs (length cs) 0

unfoldable pub first_that : (ℕ → Bool) → List ℕ → ℕ
first_that f [] = 0
first_that f (q ∷ qs) = pick (f q) q (first_that f qs)

abbrev pub best : Game → List ℕ → ℕ
best g cs = first_that (does g (fewest g cs - 1) cs) (all_codes (how_many g))
