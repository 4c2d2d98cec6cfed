use Rattle.std.proofs.Common.{◌≡◌, ◌<◌, ◌+◌, ◌^◌, ℕ, length, ap, ◌∙◌, arith}
use Rattle.mp_model.specs.Network.{Network, fed}
use Rattle.mp_step.specs.Standing.{Standing}
use Rattle.mp_log.proofs.FedLemmas.{fed_few}
use Rattle.mp_run.proofs.AuditLemmas.{gives_counts}
use Rattle.mp_event_audit.proofs.auditing.next_arrivals.Goals as goal

pub read_arrivals-requires : goal.read_arrivals-requires
read_arrivals-requires c =
    let links = c.round.ensures.kept.acceptable.range.links in
    let net : length c.fed.result.now ≡ length (fed c.args.session.now.net) = ap (length {A = ℕ}) c.fed.ensures ∙ ap (λ (n : Network). length (fed n)) c.net-net.ensures in
    omega (arith, net, fed_few c.args.session.now.net, links.1)

pub returns : goal.returns
returns c =
    let standing = c.args.session.now.round.standing in
    let period : c.period-period.result ≡ standing.period = c.period-period.ensures.value ∙ ap (λ (st : Standing). st.period) c.state.ensures in
    let net : length c.fed.result.now ≡ length (fed c.args.session.now.net) = ap (length {A = ℕ}) c.fed.ensures ∙ ap (λ (n : Network). length (fed n)) c.net-net.ensures in
    let low : standing.period < 2 ^ 48 = omega (arith, period, c.period-period.ensures.few, c.if-period-eq-MOST_LINES.false) in
    gives_counts c.read_arrivals.result c.is_some.result c.args.session.now.net standing c.args.line.now c.read_arrivals.new.into.items (c.period-period.result + 1) (length c.fed.result.now) c.is_some.ensures c.read_arrivals.ensures.some c.read_arrivals.ensures.none
    (ap (λ n. n + 1) period) net low
