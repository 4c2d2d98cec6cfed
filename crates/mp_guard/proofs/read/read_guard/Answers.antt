use Rattle.std.proofs.Common.{◌∙◌, ap, drop}
use Rattle.mp_guard.proofs.ReadLemmas.{guard_read, lengths_read}
use Rattle.mp_guard.proofs.read.read_guard.Goals as goal

pub returns-clause-ok : goal.returns-clause-ok
returns-clause-ok c = rw c.new.ensures (guard_read c.args.net.now c.args.bytes.now c.in_ok-rows.rows.items c.green_rows.result.now c.in_ok-greens.greens.items c.number_in-cycle.result c.number_in-lost.result c.number_in.result c.in_ok-rates.rates.items
    c.in_ok-rows.ensures.ok (c.green_rows.ensures ∙ ap (drop 5) c.deref-2.ensures.value) c.in_ok-greens.ensures (rw c.deref-3.ensures.value at c.number_in-cycle.ensures) (rw c.deref-4.ensures.value at c.number_in-lost.ensures) (rw c.deref-5.ensures.value at c.number_in.ensures)
    (rw (c.row_at.ensures, c.deref.ensures.value) at c.in_ok-rates.ensures))

pub returns-clause-lengths : goal.returns-clause-lengths
returns-clause-lengths c = lengths_read c.args.net.now c.args.bytes.now c.new.result (returns-clause-ok c)
