use Rattle.std.proofs.Common.{◌≡◌, ℕ, ◌+◌, ◌<◌, ◌≤◌, eqb, List, length, get_or, drop, arith}
use Rattle.std.proofs.lemmas.List.{drop_more, at_drop_all}
use Rattle.std.proofs.lemmas.Bool.Decides.{nat_tests}
use Rattle.codes.specs.Codes.{pick, at_place}
use Rattle.codes.proofs.feedback.at_place.Goals as goal

at_place_more :
    (xs ys : List ℕ) (i : ℕ) → i < length xs → i < length ys →
    at_place (drop i xs) (drop i ys) ≡ pick (eqb (get_or xs i 0) (get_or ys i 0)) 1 0 + at_place (drop (i + 1) xs) (drop (i + 1) ys)
unfolding at_place
at_place_more xs ys i h k = rw (drop_more xs i 0, drop_more ys i 0)

at_place_all : (xs ys : List ℕ) (i : ℕ) → length xs ≤ i → at_place (drop i xs) ys ≡ 0
unfolding at_place
at_place_all xs ys i h = at_drop_all (λ zs. at_place zs ys) xs i h

pub loop-i-preserved : goal.loop-i-preserved
loop-i-preserved c =
    let m = at_place_more c.args.code.now c.args.guess.now c.loop-i.i c.loop-i-test.true (omega arith) in
    grind (arith, nat_tests)

pub returns : goal.returns
returns c =
    omega (arith, at_place_all c.args.code.now (drop c.loop-i.i c.args.guess.now) c.loop-i.i c.loop-i-test.false)
