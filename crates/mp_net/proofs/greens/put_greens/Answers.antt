use Rattle.std.proofs.Common.{◌≡◌, ◌-◌, ◌∙◌, ap, arith, get_or, map, subst, sym}
use Rattle.std.proofs.lemmas.List.{get_or-map}
use Rattle.mp_model.specs.Network.{Junction, junction_at, no_junction}
use Rattle.mp_net.specs.Parts.{network_of, junction_of}
use Rattle.mp_net.specs.Rows.{AreSpans}
use Rattle.mp_net.proofs.Spans.{rows_more}
use Rattle.mp_net.proofs.greens.put_greens.Goals as goal

pub loop-j-preserved : goal.loop-j-preserved
loop-j-preserved c =
    let parts = c.args.parts.now.junctions.items in
    let part = c.index.result.now in
    let j = c.loop-j.j in
    let greens = c.put_stages.new.greens.items in
    let row = c.in_ok-put_stages.field-0 in
    let place : c.from.result ≡ j = c.from.ensures in
    let at : junction_at (network_of c.args.parts.now) j ≡ junction_of part = get_or-map junction_of parts (j - 1) part no_junction (omega arith) ∙ ap junction_of (sym (c.index.ensures ∙ ap (λ n. get_or parts (n - 1) part) place)) in
    let here = subst (λ stages. AreSpans greens stages row.items) (ap (map (λ stage. stage.items)) c.deref.ensures.value ∙ ap (λ (j : Junction). j.stages) (sym at)) c.in_ok-put_stages.ensures.spans in
    rows_more (λ j. (junction_at (network_of c.args.parts.now) j).stages) (λ spans. spans.items) c.loop-j.greens.items greens j c.loop-j.rows.items c.push.new.self.items row c.loop-j.invariant c.in_ok-put_stages.ensures.grown c.in_ok-push.ensures.items here
