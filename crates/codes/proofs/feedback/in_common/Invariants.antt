use Rattle.std.proofs.Common.{◌≡◌}
use Rattle.codes.specs.Codes.{in_common}
use Rattle.codes.proofs.feedback.in_common.Given as goal

abbrev pub invariant-loop-colour : goal.invariant-loop-colour
invariant-loop-colour l = l.common ≡ in_common l.colour l.code l.guess
