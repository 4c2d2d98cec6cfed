use Rattle.std.proofs.Common.{◌≡◌, refl, sym, subst, inl, inr}
use Rattle.mp_model.specs.Frames.{frame_network}
use Rattle.mp_model.specs.Network.{Network}
use Rattle.mp_cert.specs.Views.{cert_of}
use Rattle.mp_netfile.specs.Meaning.{file_meaning}
use Rattle.mp_cli.specs.declared.outcome.Outcome.{Outcome}
use Rattle.mp_cli.specs.Framing.{IsUnframed, FramesUnder}
use Rattle.mp_cli.specs.Ports.{Ports}
use Rattle.mp_cli.specs.Verdicts.{IsUnadmitted, OfAdmitted}
use Rattle.mp_cli.proofs.FrameLemmas.{unframed_so}
use Rattle.mp_cli.proofs.OpeningLemmas.{reads_more}
use Rattle.mp_cli.proofs.SessionLemmas.{admits}
use Rattle.mp_cli.proofs.framing.frames.Goals as goal

pub returns-in-Err-clause-means : goal.returns-in-Err-clause-means
returns-in-Err-clause-means g c = inl (c.in-Err.ensures.refused, record { input = refl; output = refl })

pub returns-in-Err-frame_net-clause-means : goal.returns-in-Err-frame_net-clause-means
returns-in-Err-frame_net-clause-means g c =
    inr (reads_more file_meaning _ _ c.in-Ok.net _ c.in-Ok.ensures.net (
      c.in-Ok.ensures.acceptable,
      inl (subst (λ (outcome : Outcome). IsUnframed outcome c.in-Ok.net c.args.f) (sym c.outcome_of_framing.ensures) (unframed_so c.in-Err-frame_net.fault c.in-Ok.net c.args.f c.in-Err-frame_net.ensures.refused), record { input = refl; output = refl }),
    ))

pub returns-in-Ok-admitted-clause-means : goal.returns-in-Ok-admitted-clause-means
returns-in-Ok-admitted-clause-means g c =
    let net = c.in-Ok.net in
    let framed = frame_network net c.args.f in
    let cert = cert_of c.in-Ok-admitted.cert in
    let by = subst (λ (n : Network). OfAdmitted n (λ found. found ≡ cert)) c.in-Ok-frame_net.ensures.ok c.in-Ok-admitted.ensures.admitted in
    let ports : Ports = record { files = g.St.Store.files c.args.store.now; input_before = g.In.Source.left c.args.input.now; input_after = g.In.Source.left c.stream_frames.new.input; output_before = g.Out.Sink.held c.args.out.now; output_after = g.Out.Sink.held c.stream_frames.new.out } in
    inr (reads_more file_meaning _ _ net _ c.in-Ok.ensures.net (
      c.in-Ok.ensures.acceptable,
      inr (c.in-Ok-frame_net.ensures.fits, inr (admits framed cert by (λ found. FramesUnder c.stream_frames.result net c.args.f found ports) (c.stream_frames.ensures.so (g.St.Store.files c.args.store.now)))),
    ))

pub returns-clause-means : goal.returns-clause-means
returns-clause-means g c =
    let unadmitted = subst (λ (n : Network). IsUnadmitted c.in-Err-admitted.outcome n) c.in-Ok-frame_net.ensures.ok c.in-Err-admitted.ensures.refused in
    inr (reads_more file_meaning _ _ c.in-Ok.net _ c.in-Ok.ensures.net (
      c.in-Ok.ensures.acceptable,
      inr (c.in-Ok-frame_net.ensures.fits, inl (unadmitted, record { input = refl; output = refl })),
    ))
