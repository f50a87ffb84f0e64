use Rattle.std.proofs.Common.{◌≡◌, ◌-◌, drop, length, vec_items}
use Rattle.text.specs.Lines.{before, bytes_from}
use Rattle.text.proofs.line.read_bytes.Given as goal

abbrev pub invariant-loop-line : goal.invariant-loop-line
invariant-loop-line l = record {
  text : l.line.text.now ≡ l.fn.line.text.now;
  read :
      before (vec_items l.row) (bytes_from l.line.at (drop l.line.at l.line.text.now))
      ≡ bytes_from l.fn.line.at (drop l.fn.line.at l.fn.line.text.now);
}

abbrev pub decreases-loop-line : goal.decreases-loop-line
decreases-loop-line l = length l.line.text.now - l.line.at
