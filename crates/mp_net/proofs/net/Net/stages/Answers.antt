use Rattle.std.proofs.Common.{◌≡◌, ◌≤◌, ◌<◌, ℕ, ap, arith, List, [], ◌∷◌, zero, suc, length, map, ◌-◌, get_or, vec_len}
use Rattle.std.specs.List.{AllByRecursion}
use Rattle.std.proofs.lemmas.List.{length-map}
use Rattle.mp_model.specs.Network.{Network}
use Rattle.mp_net.specs.declared.parts.JunctionPart.{JunctionPart}
use Rattle.mp_net.specs.Parts.{junction_of}
use Rattle.mp_net.proofs.net.Net.stages.Goals as goal

few_stages : (js : List JunctionPart) (i : ℕ) (d : JunctionPart) → AllByRecursion (λ j. 1 ≤ length j.stages) (map junction_of js) → AllByRecursion (λ j. length j.stages ≤ 16) (map junction_of js) → i < length js →
    (1 ≤ vec_len (get_or js i d).stages) × (vec_len (get_or js i d).stages ≤ 16)
few_stages [] i d some most h = absurd (omega arith)
few_stages (j ∷ js) zero d some most h =
    let size = length-map j.stages.items (λ stage. stage.items) in
    (omega (arith, some.0), omega (arith, most.0))
few_stages (j ∷ js) (suc i) d some most h = few_stages js i d some.1 most.1 (omega arith)

few : (c : goal.After-len) → (1 ≤ c.len.result) × (c.len.result ≤ 16)
few c =
    let junctions = ap (λ (net : Network). length net.junctions) c.self.view_is in
    let size = length-map c.self.inside.parts.junctions.items junction_of in
    let i : c.from.result ≡ c.args.j = c.from.ensures in
    let range = few_stages c.self.inside.parts.junctions.items (c.from.result - 1) c.index.result.now c.self.invariant.acceptable.network.some_stage c.self.invariant.acceptable.range.stages (omega arith) in
    let same = ap (λ (j : JunctionPart). vec_len j.stages) c.index.ensures in
    (omega arith, omega arith)

pub overflow_cast-result : goal.overflow_cast-result
overflow_cast-result c = let h = few c in omega arith

pub returns-clause-few : goal.returns-clause-few
returns-clause-few c = few c
