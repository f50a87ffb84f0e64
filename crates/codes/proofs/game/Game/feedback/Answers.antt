use Rattle.std.proofs.Common.{◌≡◌, ℕ, ◌<◌, ◌≤◌, true, List, take, arith}
use Rattle.codes.specs.Codes.{digits, at_place, in_common}
use Rattle.codes.specs.Pegs.{coloured}
use Rattle.codes.proofs.Digits.{coloured_digits, coloured_more}
use Rattle.codes.proofs.Told.{at_place_common}
use Rattle.codes.proofs.game.Game.feedback.Goals as goal

coloured_row :
    (k p c n : ℕ) (row : List ℕ) → k ≡ p → take p row ≡ digits p c n → 0 < c → c ≤ 16 → coloured 16 (take k row) ≡ true
coloured_row k p c n row e is some few = rw (e, is) (coloured_more c 16 (digits p c n) few (coloured_digits p c n some))

pub in_common-common-requires-clause-known : goal.in_common-common-requires-clause-known
in_common-common-requires-clause-known c =
    let t = c.args.self.taken in (
      coloured_row _ _ _ _ _ c.pegs-pegs.ensures.value c.pegs_of-code_row.ensures.pegs t.2 t.3,
      coloured_row _ _ _ _ _ c.pegs-pegs.ensures.value c.pegs_of-guess_row.ensures.pegs t.2 t.3,
    )

-- the rows that are compared are the pegs of the code and of the guess
abbrev pegs : goal.After-in_common-common → ℕ → List ℕ
pegs c n = digits c.args.self.pegs c.args.self.colours n

right : (c : goal.After-in_common-common) → c.at_place-right.result ≡ at_place (pegs c c.args.code) (pegs c c.args.guess)
right c = cc

common :
    (c : goal.After-in_common-common) →
    c.in_common-common.result ≡ in_common c.args.self.colours (pegs c c.args.code) (pegs c c.args.guess)
common c = cc c.colours.ensures

pub overflow_sub-result : goal.overflow_sub-result
overflow_sub-result c =
    let code = coloured_digits c.args.self.pegs c.args.self.colours c.args.code c.args.self.taken.2 in
    omega (arith, right c, common c, at_place_common c.args.self.colours _ (pegs c c.args.guess) code)
