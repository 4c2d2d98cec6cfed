use Rattle.std.proofs.Common.{rules}
use Rattle.mp_log.proofs.LoggedLemmas.{no_space, no_count, count_found}
use Rattle.mp_log.proofs.logged.next_count.Goals as goal

pub returns-in_default-space : goal.returns-in_default-space
returns-in_default-space c = no_space c.args.bytes.now c.in-Some.digits.now c.in-Some.ensures (search rules)

pub returns-in_default-read_count : goal.returns-in_default-read_count
returns-in_default-read_count c = no_count c.args.bytes.now c.in-Some.digits.now c.in-Some-space.at c.in-Some.ensures (search rules) (search rules)

pub returns : goal.returns
returns c = count_found c.args.bytes.now c.in-Some.digits.now c.in-Some-space.at c.in-Some-read_count.count c.in-Some.ensures (search rules) (search rules) (search rules)
