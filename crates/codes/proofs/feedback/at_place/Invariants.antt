use Rattle.std.proofs.Common.{◌≡◌, ◌+◌, ◌≤◌, drop}
use Rattle.codes.specs.Codes.{at_place}
use Rattle.codes.proofs.feedback.at_place.Given as goal

abbrev pub invariant-loop-i : goal.invariant-loop-i
invariant-loop-i l =
    (l.right + at_place (drop l.i l.code) (drop l.i l.guess) ≡ at_place l.code l.guess) × (l.right ≤ l.i)
