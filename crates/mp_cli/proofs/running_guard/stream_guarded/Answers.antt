use Rattle.std.proofs.Common.{◌≡◌, ◌++◌, ℕ, List, [], refl, inl, inr, ◌∙◌, ap, subst}
use Rattle.mp_edge.specs.Outside.{Tells, GainsPrefix}
use Rattle.mp_guard.specs.GuardHeader.{guard_header}
use Rattle.mp_guard_run.specs.Running.{EndsAs, guarded_after, guarded_lines_from}
use Rattle.mp_model.specs.Guard.{Guard}
use Rattle.mp_model.specs.GuardedChoice.{guarded_opening}
use Rattle.mp_model.specs.Log.{end_line, text_of}
use Rattle.mp_model.specs.Network.{Network}
use Rattle.mp_run.specs.declared.run.RunEnd.TheVariants as how
use Rattle.mp_cli.specs.declared.outcome.Outcome.TheVariants.{Run}
use Rattle.mp_cli.specs.GuardRunning.{StreamsGuarded}
use Rattle.mp_cli.specs.Ports.{Ports}
use Rattle.mp_cli.proofs.GuardRunLemmas.{runs_more}
use Rattle.mp_cli.proofs.StreamLemmas.{behind_head, head_cut}
use Rattle.mp_cli.proofs.running_guard.stream_guarded.Goals as goal

-- the header that is put is that of the session
same_text : (net : Network) (guard : Guard) (bounds bounds' waits waits' : List ℕ) → bounds ≡ bounds' → waits ≡ waits' → text_of (guard_header net guard bounds waits) ≡ text_of (guard_header net guard bounds' waits')
same_text net guard bounds bounds' waits waits' one two = ap (λ (bs : List ℕ). text_of (guard_header net guard bs waits)) one ∙ ap (λ (ws : List ℕ). text_of (guard_header net guard bounds' ws)) two

pub returns-in-Err-clause-so : goal.returns-in-Err-clause-so
returns-in-Err-clause-so g c = λ files. inl (c.in-Err.ensures.refused, record { input = refl; output = refl })

pub returns-in-Ok-put_guard_header-clause-so : goal.returns-in-Ok-put_guard_header-clause-so
returns-in-Ok-put_guard_header-clause-so g c = λ files.
    let net = c.args.net.now in
    let guard = c.args.guard.now in
    let session = c.in-Ok.session in
    let left = g.In.Source.left c.args.input.now in
    let rest = g.In.Source.left c.run_guarded.new.input in
    let was = g.Out.Sink.held c.args.out.now in
    let mid = g.Out.Sink.held c.put_guard_header.new.out in
    let now = g.Out.Sink.held c.run_guarded.new.out in
    let ports : Ports = record { files = files; input_before = left; input_after = rest; output_before = was; output_after = now } in
    let header = guard_header net guard session.bounds session.waits in
    let text = same_text net guard c.bounds.result.now session.bounds c.waits.result.now session.waits c.bounds.ensures c.waits.ensures in
    let told = subst (λ (text : List ℕ). Tells was mid (λ before after. after ≡ before ++ text)) text c.in-Ok-put_guard_header.ensures.bytes in
    let behind = subst (λ (gd : Guard). EndsAs net gd [] c.run_guarded.result left rest mid now) c.in-Ok.ensures.guard (subst (λ (n : Network). EndsAs n session.guard [] c.run_guarded.result left rest mid now) c.in-Ok.ensures.net c.run_guarded.ensures.ends) in
    inr (runs_more net guard header (StreamsGuarded (Run c.run_end.result) net guard ports) c.in-Ok.ensures.runs
    (behind_head net (guarded_lines_from net guard (guarded_opening net guard)) (λ A. end_line net (guarded_after net guard (guarded_opening net guard) A).state) (text_of header) ports mid c.run_end.result c.run_guarded.result c.run_end.ensures told behind))

pub returns-clause-so : goal.returns-clause-so
returns-clause-so g c = λ files.
    let net = c.args.net.now in
    let guard = c.args.guard.now in
    let session = c.in-Ok.session in
    let was = g.Out.Sink.held c.args.out.now in
    let mid = g.Out.Sink.held c.put_guard_header.new.out in
    let ports : Ports = record { files = files; input_before = g.In.Source.left c.args.input.now; input_after = g.In.Source.left c.args.input.now; output_before = was; output_after = mid } in
    let header = guard_header net guard session.bounds session.waits in
    let text = same_text net guard c.bounds.result.now session.bounds c.waits.result.now session.waits c.bounds.ensures c.waits.ensures in
    let cut = subst (λ (text : List ℕ). Tells was mid (GainsPrefix text)) text c.in-Err-Failed.ensures.bytes in
    inr (runs_more net guard header (StreamsGuarded (Run how.Write) net guard ports) c.in-Ok.ensures.runs
    (head_cut net (guarded_lines_from net guard (guarded_opening net guard)) (λ A. end_line net (guarded_after net guard (guarded_opening net guard) A).state) (text_of header) ports refl cut))
