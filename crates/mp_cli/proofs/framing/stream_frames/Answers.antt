use Rattle.std.proofs.Common.{◌≡◌, ◌++◌, ℕ, List, [], refl, sym, inl, inr, ◌∙◌, subst}
use Rattle.mp_edge.specs.Outside.{Tells, GainsPrefix}
use Rattle.mp_model.specs.Certificate.{HasLengths}
use Rattle.mp_model.specs.Frames.{framed_after, framed_lines_from, framed_opening}
use Rattle.mp_model.specs.Log.{end_line, text_of, header_lines}
use Rattle.mp_model.specs.Network.{Network}
use Rattle.mp_model.specs.NetworkRules.{IsAcceptable}
use Rattle.mp_cert.specs.Views.{cert_of}
use Rattle.mp_drift.specs.Session.{IsAccepted}
use Rattle.mp_num.specs.Fraction.{numerator, denominator}
use Rattle.mp_press.specs.Queues.{naturals}
use Rattle.mp_frame_run.specs.Running.{EndsAs}
use Rattle.mp_run.specs.declared.run.RunEnd.TheVariants as run
use Rattle.mp_cli.specs.declared.outcome.Outcome.{Outcome}
use Rattle.mp_cli.specs.declared.outcome.Outcome.TheVariants.{Run}
use Rattle.mp_cli.specs.Framing.{IsUnopenedFrames, StreamsFrames}
use Rattle.mp_cli.specs.Ports.{Ports}
use Rattle.mp_cli.specs.Verdicts.{OfAdmitted}
use Rattle.mp_cli.proofs.FrameLemmas.{unopened_so, certified, frames_open}
use Rattle.mp_cli.proofs.SessionLemmas.{header_same}
use Rattle.mp_cli.proofs.StreamLemmas.{behind_head, head_cut, over_read, over_write, rose_behind, none_stored}
use Rattle.mp_cli.proofs.framing.stream_frames.Goals as goal

pub returns-in-Err-clause-so : goal.returns-in-Err-clause-so
returns-in-Err-clause-so g c = λ files.
    let net = c.args.net.now in
    let cert = cert_of c.args.cert.now in
    let by = subst (λ (n : Network). OfAdmitted n (λ found. found ≡ cert)) c.requires.framed c.requires.admitted in
    let lengths = subst (λ (n : Network). HasLengths n cert) c.requires.framed c.requires.lengths in
    inl (subst (λ (outcome : Outcome). IsUnopenedFrames outcome net c.args.f cert) (sym c.outcome_of_frames.ensures) (unopened_so c.in-Err.fault net c.args.f cert lengths (certified net c.args.f cert by) c.in-Err.ensures.refused), record { input = refl; output = refl })

pub returns-in-Err-put_header-clause-so : goal.returns-in-Err-put_header-clause-so
returns-in-Err-put_header-clause-so g c = λ files.
    let session = c.in-Ok.session in
    let net = c.args.net.now in
    let F = c.args.f in
    let cert = cert_of c.args.cert.now in
    let by = subst (λ (n : Network). OfAdmitted n (λ found. found ≡ cert)) c.requires.framed c.requires.admitted in
    let accepted = subst (λ (n : Network). IsAccepted n cert) c.requires.framed c.in-Ok.ensures.checked in
    let acceptable = subst IsAcceptable c.in-Ok.ensures.net c.state.ensures.framed.acceptable in
    let ports : Ports = record { files = files; input_before = g.In.Source.left c.args.input.now; input_after = g.In.Source.left c.args.input.now; output_before = g.Out.Sink.held c.args.out.now; output_after = g.Out.Sink.held c.put_header.new.out } in
    let head = header_same c.net.result.now net c.slack.result.now session.slack c.bounds.result.now session.bounds (c.net.ensures ∙ c.in-Ok.ensures.net) c.slack.ensures c.bounds.ensures in
    let cut = subst (λ (text : List ℕ). Tells (g.Out.Sink.held c.args.out.now) (g.Out.Sink.held c.put_header.new.out) (GainsPrefix text)) head c.in-Err-put_header.ensures.bytes in
    inr (frames_open net F cert by (numerator session.slack) (denominator session.slack) session.bounds acceptable.network c.requires.range.0 accepted c.in-Ok.ensures.slack c.in-Ok.ensures.found c.in-Ok.ensures.bounds (StreamsFrames (Run run.Write) net F ports)
    (head_cut net (framed_lines_from net F (framed_opening net)) (λ A. end_line net (framed_after net F (framed_opening net) A).state) (text_of (header_lines net (numerator session.slack) (denominator session.slack) (naturals session.bounds))) ports refl cut))

pub returns-clause-so : goal.returns-clause-so
returns-clause-so g c = λ files.
    let session = c.in-Ok.session in
    let net = c.args.net.now in
    let F = c.args.f in
    let cert = cert_of c.args.cert.now in
    let left = g.In.Source.left c.args.input.now in
    let rest = g.In.Source.left c.run_frames.new.input in
    let was = g.Out.Sink.held c.args.out.now in
    let mid = g.Out.Sink.held c.put_header.new.out in
    let now = g.Out.Sink.held c.run_frames.new.out in
    let ports : Ports = record { files = files; input_before = left; input_after = rest; output_before = was; output_after = now } in
    let by = subst (λ (n : Network). OfAdmitted n (λ found. found ≡ cert)) c.requires.framed c.requires.admitted in
    let accepted = subst (λ (n : Network). IsAccepted n cert) c.requires.framed c.in-Ok.ensures.checked in
    let acceptable = subst IsAcceptable c.in-Ok.ensures.net c.state.ensures.framed.acceptable in
    let head = header_same c.net.result.now net c.slack.result.now session.slack c.bounds.result.now session.bounds (c.net.ensures ∙ c.in-Ok.ensures.net) c.slack.ensures c.bounds.ensures in
    let whole = text_of (header_lines net (numerator session.slack) (denominator session.slack) (naturals session.bounds)) in
    let told = subst (λ (text : List ℕ). Tells was mid (λ before after. after ≡ before ++ text)) head c.in_default.ensures.bytes in
    let behind = subst (λ (n : ℕ). EndsAs net n [] c.run_frames.result left rest mid now) c.in-Ok.ensures.frames (subst (λ (n : Network). EndsAs n session.periods [] c.run_frames.result left rest mid now) c.in-Ok.ensures.net c.run_frames.ensures.ends) in
    inr (frames_open net F cert by (numerator session.slack) (denominator session.slack) session.bounds acceptable.network c.requires.range.0 accepted c.in-Ok.ensures.slack c.in-Ok.ensures.found c.in-Ok.ensures.bounds (StreamsFrames (Run c.run_end.result) net F ports)
    (behind_head net (framed_lines_from net F (framed_opening net)) (λ A. end_line net (framed_after net F (framed_opening net) A).state) whole ports mid c.run_end.result c.run_frames.result c.run_end.ensures told behind))

pub returns-clause-unstored : goal.returns-clause-unstored
returns-clause-unstored g c = none_stored c.run_end.result

pub returns-clause-read : goal.returns-clause-read
returns-clause-read g c = λ is. c.run_frames.ensures.read (over_read c.run_end.result c.run_frames.result c.run_end.ensures is)

pub returns-clause-write : goal.returns-clause-write
returns-clause-write g c = λ is. rose_behind (g.Out.Sink.faults c.args.out.now) (g.Out.Sink.faults c.put_header.new.out) (g.Out.Sink.faults c.run_frames.new.out) c.in_default.ensures.cause.later (c.run_frames.ensures.write (over_write c.run_end.result c.run_frames.result c.run_end.ensures is))
