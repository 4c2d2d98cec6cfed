use Rattle.std.proofs.Common.{rules}
use Rattle.mp_cert.proofs.RowLemmas.{same_further}
use Rattle.mp_cert.proofs.read_lines.TextLines.kept.Goals as goal

pub loop-line-preserved : goal.loop-line-preserved
loop-line-preserved c = record {
  room = search rules;
  same = same_further c.args.self.now.number c.loop-line.self.number c.next.new.self.number c.args.self.now.rest.now c.loop-line.self.rest.now c.next.new.self.rest.now c.in-Some.line.now
      c.loop-line.invariant.same c.in-Some.ensures.some (search rules) c.in-Some.ensures.number;
}
