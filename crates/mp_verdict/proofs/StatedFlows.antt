-- The flows and worths of the stated calculation are those of the network.
use Rattle.std.proofs.Common.{◌≡◌, ◌+◌, List, length, map, ℤ, pos, ◌≤ℤ◌, Some, arith, refl, ◌∙◌, ap, subst, All}
use Rattle.std.proofs.lemmas.List.{length-map, length-append}
use Rattle.std.proofs.lemmas.List.FromFn.{length-range_with_len, get_or-map-range_with_len}
use Rattle.std.proofs.lemmas.Option.{same_Some}
use Rattle.mp_model.specs.Network.{Network, link_numbers}
use Rattle.mp_model.specs.NetworkRules.{IsNetwork}
use Rattle.mp_flow.specs.Answers.{Outcome, Answer, Kernel, Passes, solved}
use Rattle.mp_flow.specs.Systems.{flow_cell, flow_row, flow_rows, worth_cell, worth_row, worth_rows, Flows, flows_from, stated_flows, Worths, worths_from, stated_worths, AreFlows, AreWorths}
use Rattle.mp_flow.proofs.SolutionLemmas.{solved_answers}
use Rattle.mp_flow.proofs.KernelRight.{solved_shape}
use Rattle.mp_flow.proofs.BalanceLemmas.{flows_right, worths_right}

flow_widths : (net : Network) → All (λ r. length r ≡ length net.links + 2) (flow_rows net)
unfolding flow_rows flow_row
flow_widths net = λ k u l.
    (let n = length net.links in
    let m = length-map (link_numbers net) (flow_row net) in
    let r = length-range_with_len 1 n in
    ap length (get_or-map-range_with_len (flow_row net) 1 n k (1 + k) u (omega (arith, l, m, r)) refl)
    ∙ length-append (map (flow_cell net (1 + k)) (link_numbers net)) _ ∙ ap (λ t. t + 2) (length-map (link_numbers net) (flow_cell net (1 + k)) ∙ r))

worth_widths : (net : Network) (u : List ℤ) → All (λ r. length r ≡ length net.links + 1) (worth_rows net u)
unfolding worth_rows worth_row
worth_widths net u = λ k d l.
    (let n = length net.links in
    let m = length-map (link_numbers net) (worth_row net u) in
    let r = length-range_with_len 1 n in
    ap length (get_or-map-range_with_len (worth_row net u) 1 n k (1 + k) d (omega (arith, l, m, r)) refl)
    ∙ length-append (map (worth_cell net (1 + k)) (link_numbers net)) _ ∙ ap (λ t. t + 1) (length-map (link_numbers net) (worth_cell net (1 + k)) ∙ r))

flow_count : (net : Network) → length (flow_rows net) ≡ length net.links
unfolding flow_rows
flow_count net = length-map (link_numbers net) (flow_row net) ∙ length-range_with_len 1 (length net.links)

worth_count : (net : Network) (u : List ℤ) → length (worth_rows net u) ≡ length net.links
unfolding worth_rows
worth_count net u = length-map (link_numbers net) (worth_row net u) ∙ length-range_with_len 1 (length net.links)

flows_by : (net : Network) → IsNetwork net → (flows : Flows) (o : Outcome) → solved (length net.links) 2 (flow_rows net) ≡ o → flows_from (length net.links) o ≡ Some flows → AreFlows net flows
flows_by net ok flows (Answer x d) h e =
    let n = length net.links in
    let shape = solved_shape n 2 (flow_rows net) x d (flow_count net) (flow_widths net) h in
    subst (AreFlows net) (same_Some _ _ e) (flows_right net ok x d shape.positive shape.values (solved_answers n 2 (flow_rows net) x d (flow_count net) (flow_widths net) h))
flows_by net ok flows (Kernel x) h e = absurd (cc)
flows_by net ok flows (Passes column) h e = absurd (cc)

pub flows_are : (net : Network) → IsNetwork net → (flows : Flows) → stated_flows net ≡ Some flows → AreFlows net flows
unfolding stated_flows
flows_are net ok flows e = flows_by net ok flows (solved (length net.links) 2 (flow_rows net)) refl e

worths_by : (net : Network) → IsNetwork net → (u : List ℤ) → length u ≡ length net.links → All (λ v. pos 0 ≤ℤ v) u → (worths : Worths) (o : Outcome) → solved (length net.links) 1 (worth_rows net u) ≡ o → worths_from o ≡ Some worths → AreWorths net u worths
worths_by net ok u fits signs worths (Answer x d) h e =
    let n = length net.links in
    let shape = solved_shape n 1 (worth_rows net u) x d (worth_count net u) (worth_widths net u) h in
    subst (AreWorths net u) (same_Some _ _ e) (worths_right net ok u x d fits signs shape.positive shape.values (solved_answers n 1 (worth_rows net u) x d (worth_count net u) (worth_widths net u) h))
worths_by net ok u fits signs worths (Kernel x) h e = absurd (cc)
worths_by net ok u fits signs worths (Passes column) h e = absurd (cc)

pub worths_are : (net : Network) → IsNetwork net → (u : List ℤ) → length u ≡ length net.links → All (λ v. pos 0 ≤ℤ v) u → (worths : Worths) → stated_worths net u ≡ Some worths → AreWorths net u worths
unfolding stated_worths
worths_are net ok u fits signs worths e = worths_by net ok u fits signs worths (solved (length net.links) 1 (worth_rows net u)) refl e
