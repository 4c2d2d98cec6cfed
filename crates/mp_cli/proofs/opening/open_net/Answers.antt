use Rattle.std.proofs.Common.{ap, sym, ◌∙◌, arith}
use Rattle.mp_netfile.specs.Meaning.{file_meaning}
use Rattle.mp_cli.proofs.OpeningLemmas.{reads_value, rule_read}
use Rattle.mp_cli.proofs.opening.open_net.Goals as goal

pub returns-in-Ok-read_net-clause-net : goal.returns-in-Ok-read_net-clause-net
returns-in-Ok-read_net-clause-net g c =
    reads_value file_meaning (g.St.Store.files c.args.store.now) c.args.name.now c.read.new.into.items c.in-Ok-read_net.net c.in-Ok.ensures.ok (let few = c.in-Ok.ensures.bound in omega (arith, few)) (ap file_meaning (sym c.deref.ensures.value) ∙ c.in-Ok-read_net.ensures.ok)

pub returns-in-Err-Rule-clause-refused : goal.returns-in-Err-Rule-clause-refused
returns-in-Err-Rule-clause-refused g c =
    let refused = rw c.in-Err-Rule.field-0-is at c.in-Err-Rule.ensures.refused in
    rule_read (g.St.Store.files c.args.store.now) c.args.name.now c.read.new.into.items c.in-Err-Rule.rule c.in-Err-Rule.spot c.in-Ok.ensures.ok (ap file_meaning (sym c.deref.ensures.value) ∙ refused)
