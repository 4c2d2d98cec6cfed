use Rattle.std.proofs.Common.{◌≡◌, ◌-◌, IfOk, IfErr, arith, sym, subst}
use Rattle.mp_cert.specs.TextMeaning.{Form}
use Rattle.mp_cert.specs.TextReading.{ReadsRow, RefusesAhead}
use Rattle.mp_model.specs.Network.{junction_at}
use Rattle.mp_guard.specs.GuardText.{form_at, green_form}
use Rattle.mp_guard.proofs.ReadLemmas.{form_of_greens}
use Rattle.mp_guard.proofs.read.read_line.Goals as goal

pub returns-in_default-clause-ok : goal.returns-in_default-clause-ok
returns-in_default-clause-ok c =
    let form : form_at c.args.net.now c.args.i ≡ green_form (c.args.i - 4) (junction_at c.args.net.now (c.args.i - 4)) = form_of_greens c.args.net.now c.args.i (omega arith) c.requires.there in
    let P : Form → Type 0 = λ f. IfOk c.read_greens.result (λ row. ReadsRow f row.items c.args.lines.now.number c.args.lines.now.rest.now c.read_greens.new.lines.number c.read_greens.new.lines.rest.now) in
    subst P (sym form) c.read_greens.ensures.ok

pub returns-in_default-clause-fault : goal.returns-in_default-clause-fault
returns-in_default-clause-fault c =
    let form : form_at c.args.net.now c.args.i ≡ green_form (c.args.i - 4) (junction_at c.args.net.now (c.args.i - 4)) = form_of_greens c.args.net.now c.args.i (omega arith) c.requires.there in
    let P : Form → Type 0 = λ f. IfErr c.read_greens.result (RefusesAhead f c.args.lines.now.number c.args.lines.now.rest.now) in
    subst P (sym form) c.read_greens.ensures.fault
