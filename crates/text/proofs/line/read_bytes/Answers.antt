use Rattle.std.proofs.Common.{arith}
use Rattle.text.proofs.Lines.{before_more}
use Rattle.text.proofs.line.read_bytes.Goals as goal

pub loop-line-preserved : goal.loop-line-preserved
loop-line-preserved c =
    let l = c.loop-line in
    let e = before_more l.row.items c.in_ok-byte.field-0 l.line.at l.line.text.now c.in_ok-byte.ensures.ok (grind arith) in
    record { text = cc; read = cc (e, c.in_ok-push.ensures.items, c.in_ok-byte.ensures.at) }
