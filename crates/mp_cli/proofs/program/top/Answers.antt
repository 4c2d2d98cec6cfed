use Rattle.std.proofs.Common.{◌≡◌, ◌⊎◌, ℕ, sym, ◌∙◌, subst, map}
use Rattle.std.specs.String.{string_bytes}
use Rattle.mp_edge.specs.Outside.{Tells, Puts}
use Rattle.mp_cli.specs.Commands.{Command, command_of}
use Rattle.mp_cli.specs.Ends.{ErrorOutput, Means}
use Rattle.mp_cli.specs.Messages.{message_of}
use Rattle.mp_cli.specs.Ports.{Ports}
use Rattle.mp_cli.specs.Statuses.{status_of}
use Rattle.mp_cli.proofs.CompleteLemmas.{IsQuiet, completes, exceeds}
use Rattle.mp_cli.proofs.HeadlineLemmas.{does, promised}
use Rattle.mp_cli.proofs.MessageLemmas.{reported, nothing_reported}
use Rattle.mp_cli.proofs.program.top.Goals as goal

pub returns-clause-ends : goal.returns-clause-ends
returns-clause-ends g c =
    let command = command_of (map string_bytes c.args.words.now) in
    let outcome = c.obey-outcome.result in
    let ports : Ports = record { files = g.St.Store.files c.args.store.now; input_before = g.In.Source.left c.args.input.now; input_after = g.In.Source.left c.obey-outcome.new.input; output_before = g.Out.Sink.held c.args.out.now; output_after = g.Out.Sink.held c.obey-outcome.new.out } in
    let means : Means command outcome ports = subst (λ (k : Command). Means k outcome ports) c.command_of-command.ensures.value c.obey-outcome.ensures.means in
    let err : ErrorOutput = record { before = g.Er.Sink.held c.args.err.now; after = g.Er.Sink.held c.put_message.new.err; faults_before = g.Er.Sink.faults c.args.err.now; faults_after = g.Er.Sink.faults c.put_message.new.err } in
    let told = subst (λ (k : Command). Tells err.before err.after (Puts c.put_message.result (message_of k outcome))) c.command_of-command.ensures.value c.put_message.ensures.bytes in
    record { outcome = outcome; status_is = c.status_of-status.ensures; means = means; reports = reported c.put_message.result command outcome err told c.put_message.ensures.cause }

pub returns-clause-complete : goal.returns-clause-complete
returns-clause-complete g c = λ good no_store no_read no_write.
    let command = command_of (map string_bytes c.args.words.now) in
    let outcome = c.obey-outcome.result in
    let ports : Ports = record { files = g.St.Store.files c.args.store.now; input_before = g.In.Source.left c.args.input.now; input_after = g.In.Source.left c.obey-outcome.new.input; output_before = g.Out.Sink.held c.args.out.now; output_after = g.Out.Sink.held c.obey-outcome.new.out } in
    let means : Means command outcome ports = subst (λ (k : Command). Means k outcome ports) c.command_of-command.ensures.value c.obey-outcome.ensures.means in
    let quiet : IsQuiet outcome = record { store = λ e. no_store (c.obey-outcome.ensures.store e); read = λ e. no_read (c.obey-outcome.ensures.read e); write = λ e. no_write (c.obey-outcome.ensures.write e) } in
    subst (λ (status : ℕ). (status ≡ 0) ⊎ (status ≡ 12)) (sym c.status_of-status.ensures) (completes command outcome ports quiet good means)

pub returns-clause-excessive : goal.returns-clause-excessive
returns-clause-excessive g c = λ given no_store no_read no_write.
    let command = command_of (map string_bytes c.args.words.now) in
    let outcome = c.obey-outcome.result in
    let ports : Ports = record { files = g.St.Store.files c.args.store.now; input_before = g.In.Source.left c.args.input.now; input_after = g.In.Source.left c.obey-outcome.new.input; output_before = g.Out.Sink.held c.args.out.now; output_after = g.Out.Sink.held c.obey-outcome.new.out } in
    let means : Means command outcome ports = subst (λ (k : Command). Means k outcome ports) c.command_of-command.ensures.value c.obey-outcome.ensures.means in
    let quiet : IsQuiet outcome = record { store = λ e. no_store (c.obey-outcome.ensures.store e); read = λ e. no_read (c.obey-outcome.ensures.read e); write = λ e. no_write (c.obey-outcome.ensures.write e) } in
    subst (λ (status : ℕ). (status ≡ 8) ⊎ (status ≡ 12)) (sym c.status_of-status.ensures) (exceeds command outcome ports quiet given means)

pub returns-then-status-eq0-clause-ends : goal.returns-then-status-eq0-clause-ends
returns-then-status-eq0-clause-ends g c =
    let command = command_of (map string_bytes c.args.words.now) in
    let outcome = c.obey-outcome.result in
    let ports : Ports = record { files = g.St.Store.files c.args.store.now; input_before = g.In.Source.left c.args.input.now; input_after = g.In.Source.left c.obey-outcome.new.input; output_before = g.Out.Sink.held c.args.out.now; output_after = g.Out.Sink.held c.obey-outcome.new.out } in
    let means : Means command outcome ports = subst (λ (k : Command). Means k outcome ports) c.command_of-command.ensures.value c.obey-outcome.ensures.means in
    let done : status_of outcome ≡ 0 = sym c.status_of-status.ensures ∙ c.if-status-eq0.true in
    record { outcome = outcome; status_is = sym done; means = means; reports = nothing_reported command outcome (g.Er.Sink.held c.args.err.now) (g.Er.Sink.faults c.args.err.now) done }

pub returns-then-status-eq0-clause-done : goal.returns-then-status-eq0-clause-done
returns-then-status-eq0-clause-done g c = λ is.
    let command = command_of (map string_bytes c.args.words.now) in
    let outcome = c.obey-outcome.result in
    let ports : Ports = record { files = g.St.Store.files c.args.store.now; input_before = g.In.Source.left c.args.input.now; input_after = g.In.Source.left c.obey-outcome.new.input; output_before = g.Out.Sink.held c.args.out.now; output_after = g.Out.Sink.held c.obey-outcome.new.out } in
    let means : Means command outcome ports = subst (λ (k : Command). Means k outcome ports) c.command_of-command.ensures.value c.obey-outcome.ensures.means in
    let done : status_of outcome ≡ 0 = sym c.status_of-status.ensures ∙ c.if-status-eq0.true in
    does command outcome ports done means

pub returns-then-status-eq0-clause-promised : goal.returns-then-status-eq0-clause-promised
returns-then-status-eq0-clause-promised g c = λ is.
    let command = command_of (map string_bytes c.args.words.now) in
    let outcome = c.obey-outcome.result in
    let ports : Ports = record { files = g.St.Store.files c.args.store.now; input_before = g.In.Source.left c.args.input.now; input_after = g.In.Source.left c.obey-outcome.new.input; output_before = g.Out.Sink.held c.args.out.now; output_after = g.Out.Sink.held c.obey-outcome.new.out } in
    let means : Means command outcome ports = subst (λ (k : Command). Means k outcome ports) c.command_of-command.ensures.value c.obey-outcome.ensures.means in
    let done : status_of outcome ≡ 0 = sym c.status_of-status.ensures ∙ c.if-status-eq0.true in
    promised command outcome ports done means

pub returns-then-status-eq0-clause-excessive : goal.returns-then-status-eq0-clause-excessive
returns-then-status-eq0-clause-excessive g c = λ given no_store no_read no_write.
    let command = command_of (map string_bytes c.args.words.now) in
    let outcome = c.obey-outcome.result in
    let ports : Ports = record { files = g.St.Store.files c.args.store.now; input_before = g.In.Source.left c.args.input.now; input_after = g.In.Source.left c.obey-outcome.new.input; output_before = g.Out.Sink.held c.args.out.now; output_after = g.Out.Sink.held c.obey-outcome.new.out } in
    let means : Means command outcome ports = subst (λ (k : Command). Means k outcome ports) c.command_of-command.ensures.value c.obey-outcome.ensures.means in
    let done : status_of outcome ≡ 0 = sym c.status_of-status.ensures ∙ c.if-status-eq0.true in
    let quiet : IsQuiet outcome = record { store = λ e. no_store (c.obey-outcome.ensures.store e); read = λ e. no_read (c.obey-outcome.ensures.read e); write = λ e. no_write (c.obey-outcome.ensures.write e) } in
    subst (λ (status : ℕ). (status ≡ 8) ⊎ (status ≡ 12)) done (exceeds command outcome ports quiet given means)
