use Rattle.std.proofs.Common.{not, rules, arith}
use Rattle.mp_net.specs.Marks.{is_marked}
use Rattle.mp_net.proofs.Numbers.{found}
use Rattle.mp_net.proofs.outlets.first_unmarked.Goals as goal

pub returns : goal.returns
returns c = found (λ l. not (is_marked c.args.marks.now l)) c.args.links _ (omega arith) c.find.ensures.ran (λ x b q k. search rules)
