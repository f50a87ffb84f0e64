use Rattle.std.proofs.Common.{◌≡◌, ℕ, ◌+◌, min, List, refl, add-one, arith, rules}
use Rattle.std.proofs.lemmas.Bool.Decides.{nat_tests}
use Rattle.codes.specs.Codes.{of_colour, in_common}
use Rattle.codes.proofs.Told.{in_common_le}
use Rattle.codes.proofs.feedback.in_common.Goals as goal

in_common_next :
    (c m n : ℕ) (xs ys : List ℕ) → m ≡ of_colour c xs → n ≡ of_colour c ys → in_common c xs ys + min m n ≡ in_common (c + 1) xs ys
unfolding in_common
in_common_next c m n xs ys d e = rw add-one (grind (arith, nat_tests))

pub overflow_add-common : goal.overflow_add-common
overflow_add-common c =
    let k = c.loop-colour.colour in
    let a = c.tally-code_tally.ensures k (omega arith) in
    let b = c.tally-guess_tally.ensures k (omega arith) in
    let next = in_common_next k _ _ c.args.code.now c.args.guess.now a b in
    let most = in_common_le (k + 1) c.args.code.now c.args.guess.now in
    search rules

pub loop-colour-init : goal.loop-colour-init
unfolding in_common
loop-colour-init c = refl

pub loop-colour-preserved : goal.loop-colour-preserved
loop-colour-preserved c =
    let k = c.loop-colour.colour in
    let a = c.tally-code_tally.ensures k (omega arith) in
    let b = c.tally-guess_tally.ensures k (omega arith) in
    cc (in_common_next k _ _ c.args.code.now c.args.guess.now a b)
