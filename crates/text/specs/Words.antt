-- Calls, feedback and refusals in words. Assumes nothing: these are definitions.
use Rattle.std.specs.Prelude.{ℕ, List, ◌++◌, codes, decimal}
use Rattle.codes.specs.Codes.{Told}
use Rattle.codes.specs.Calls.{Call, was_told, back, left_over, could_be, advise, garbled}

abbrev pub refused_at : ℕ → ℕ → List ℕ
refused_at k n = codes "refused " ++ (decimal k ++ (codes " at " ++ decimal n))

abbrev pub right_and_near : Told → List ℕ
right_and_near t = decimal t.right ++ (codes " right " ++ (decimal t.near ++ codes " near"))

-- a call's code is written as a number; a garbled call is refused
abbrev pub in_words : Call → List ℕ
in_words (was_told q r n) = codes "told " ++ (decimal q ++ (codes " " ++ (decimal r ++ (codes " " ++ decimal n))))
in_words back = codes "back"
in_words left_over = codes "left"
in_words (could_be c) = codes "could " ++ decimal c
in_words advise = codes "advise"
in_words (garbled n) = refused_at 1 n
