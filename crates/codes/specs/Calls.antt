-- The written desk: what it is asked while somebody guesses, what it answers, and what it refuses. Assumes nothing: these are
-- definitions.
use Rattle.std.specs.Prelude.{ℕ, suc, ◌+◌, ◌-◌, Bool, false, ◌||◌, List, [], ◌∷◌, length, ◌==◌, nat_le, nat_lt}
use Rattle.codes.specs.Codes.{pick, Game, how_many, Told, left, all_codes, fewest, best}

pub data Call : Type 0 where
  was_told : ℕ → ℕ → ℕ → Call  -- a guess, and what it was told: right and near
  back : Call  -- the last guess is taken back
  left_over : Call  -- how many codes are left, and one more than the first of them, or 0
  could_be : ℕ → Call  -- is a code left? 1 or 0
  advise : Call  -- the fewest guesses that are always enough, and the smallest guess that does
  garbled : ℕ → Call  -- bytes that cease to be a call at a place

pub data Answer : Type 0 where
  refused : ℕ → ℕ → Answer  -- a refusal's number, and its place
  number : ℕ → Answer
  two : ℕ → ℕ → Answer

-- a guess that was made, with what it was told
pub record Asked : Type 0 where
  pub guess : ℕ
  pub told : Told

pub record Limits : Type 0 where
  pub guesses : ℕ

-- the codes left after some guesses, the last one first
unfoldable pub codes_left : Game → List Asked → List ℕ
codes_left g [] = all_codes (how_many g)
codes_left g (a ∷ asked) = left g a.guess a.told (codes_left g asked)

-- the number by which a call is turned away, the first that applies, or 0
unfoldable pub turned : Limits → Game → List Asked → Call → ℕ
turned l g as' (was_told q r n) = pick (nat_lt q (how_many g)) (pick (nat_le (r + n) g.pegs) (pick (nat_lt (length as') l.guesses) 0 6) 2) 4
turned l g as' back = pick (length as' == 0) 5 0
turned l g as' left_over = 0
turned l g as' (could_be c) = pick (nat_lt c (how_many g)) 0 4
turned l g as' advise = pick (length (codes_left g as') == 0) 5 (pick (nat_le (length (codes_left g as')) 64) 0 7)
turned l g as' (garbled n) = 1

-- the place of a refusal
unfoldable pub place : Call → ℕ → ℕ
place (was_told q r n) k = pick (k == 2) 1 0
place (garbled n) k = n
place back k = 0
place left_over k = 0
place (could_be c) k = 0
place advise k = 0

unfoldable pub but_first : List Asked → List Asked
but_first [] = []
but_first (a ∷ as') = as'

-- the guesses after a call that is taken, and after any call
unfoldable pub changed : List Asked → Call → List Asked
changed as' (was_told q r n) = record { guess = q; told = record { right = r; near = n } } ∷ as'
changed as' back = but_first as'
changed as' left_over = as'
changed as' (could_be c) = as'
changed as' advise = as'
changed as' (garbled n) = as'

abbrev pub after : Limits → Game → List Asked → Call → List Asked
after l g as' c = pick (turned l g as' c == 0) (changed as' c) as'

unfoldable pub first : List ℕ → ℕ
first [] = 0
first (c ∷ cs) = suc c

unfoldable pub among : ℕ → List ℕ → Bool
among c [] = false
among c (d ∷ ds) = c == d || among c ds

-- the answer to a call that is taken, to any call, and to one call after the other
unfoldable pub said : Game → List Asked → Call → Answer
said g as' (was_told q r n) = number (suc (length as'))
said g as' back = number (length as' - 1)
said g as' left_over = two (length (codes_left g as')) (first (codes_left g as'))
said g as' (could_be c) = number (pick (among c (codes_left g as')) 1 0)
said g as' advise = two (fewest g (codes_left g as')) (best g (codes_left g as'))
said g as' (garbled n) = number 0

abbrev pub answer : Limits → Game → List Asked → Call → Answer
answer l g as' c = pick (turned l g as' c == 0) (said g as' c) (refused (turned l g as' c) (place c (turned l g as' c)))

unfoldable pub answers : Limits → Game → List Asked → List Call → List Answer
answers l g as' [] = []
answers l g as' (c ∷ cs) = answer l g as' c ∷ answers l g (after l g as' c) cs
