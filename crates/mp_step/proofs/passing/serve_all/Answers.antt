use Rattle.std.proofs.Common.{◌≡◌, ◌≤◌, ◌+◌, ◌-◌, [], ap, ap₂, ◌∙◌, sym, refl, arith, length, get_or, drop, replicate, nat_lt, min, cond, subst, sum_by, ◌<◌}
use Rattle.std.proofs.lemmas.List.{length-replicate, drop_all}
use Rattle.mp_laws.proofs.Lists.{each_in}
use Rattle.mp_model.specs.Network.{no_junction, flow_of, entry, junction_at, stage_at, movement_numbers}
use Rattle.mp_model.specs.Pressure.{positive_weight}
use Rattle.mp_model.specs.Step.{passed, has_green}
use Rattle.mp_press.proofs.Known.{stage_known, stage_few, flow_few}
use Rattle.mp_press.proofs.Writes.{numbers_by_all}
use Rattle.mp_press.specs.Queues.{naturals}
use Rattle.mp_press.specs.Written.{IsAmong, written}
use Rattle.mp_step.proofs.Greens.{leaves, over_stages, over_more, left_is}
use Rattle.mp_step.proofs.Moves.{map_each, passed_few}
use Rattle.mp_step.proofs.Stages.{entry-written_stages, written_stages_more, get_or-replicate, cond-and, stages_at, stages_count, stages_of_all}
use Rattle.mp_step.specs.Settled.{written_stages}
use Rattle.mp_step.specs.Standing.{served}
use Rattle.std.proofs.lemmas.List.Elements.{All-from_recursion}
use Rattle.mp_step.proofs.passing.serve_all.Goals as goal

pub bounds-stages-from : goal.bounds-stages-from
bounds-stages-from c = omega (arith, stages_count c.args.net.now.junctions c.args.stages.now c.requires.stages, c.from.ensures)

pub stage-stage-requires : goal.stage-stage-requires
stage-stage-requires c =
    let i = c.loop-i.i in
    let e = stages_at c.args.net.now.junctions c.args.stages.now c.requires.stages i (omega arith) in
    let here : c.from.result ≡ i = c.from.ensures in
    let back : (i + 1) - 1 ≡ i = omega arith in
    let s = get_or c.args.stages.now in
    (omega arith, omega arith, subst (λ n. 1 ≤ s n 0) (sym here) e.0, subst (λ n. s n 0 ≤ length (junction_at c.args.net.now (i + 1)).stages) (sym here) (subst (λ n. s i 0 ≤ length (get_or c.args.net.now.junctions n no_junction).stages) (sym back) e.1))

pub serve_stage-left-requires-clause-known : goal.serve_stage-left-requires-clause-known
serve_stage-left-requires-clause-known c =
    let net = c.args.net.now in
    let i = c.loop-i.i in
    rw c.stage-stage.ensures (All-from_recursion (IsAmong (length net.movements)) _ (stage_known net c.requires.acceptable.network ((i + 1) - 1) _))

pub serve_stage-left-requires-clause-limit : goal.serve_stage-left-requires-clause-limit
serve_stage-left-requires-clause-limit c =
    let net = c.args.net.now in
    omega (arith, ap length c.stage-stage.ensures, stage_few net c.requires.acceptable.network ((c.loop-i.i + 1) - 1) (get_or c.args.stages.now c.from.result 0), c.requires.acceptable.range.movements)

pub loop-i-preserved : goal.loop-i-preserved
loop-i-preserved c =
    let net = c.args.net.now in
    let q = entry (naturals c.args.queues.now) in
    let f = served net q in
    let js = net.junctions in
    let stages = c.args.stages.now in
    let i = c.loop-i.i in
    let xs = c.loop-i.passes in
    let inv = c.loop-i.invariant in
    let back : (i + 1) - 1 ≡ i = omega arith in
    let stage : c.stage-stage.result.now ≡ stage_at (get_or js i no_junction) (get_or stages i 0) =
    c.stage-stage.ensures ∙ ap₂ (λ n m. stage_at (get_or js n no_junction) (get_or stages m 0)) back c.from.ensures in
    let few : i < length stages = omega (arith, stages_count js stages c.requires.stages) in
    let here : c.serve_stage-left.result ≡ sum_by (leaves net q) (stage_at (get_or js i no_junction) (get_or stages i 0)) = c.serve_stage-left.ensures.left ∙ ap (sum_by (leaves net q)) stage in
    record {
      value =
          ap (written_stages f (drop (i + 1) js) (drop (i + 1) stages)) (c.serve_stage-left.ensures.value ∙ ap (λ ks. written f ks xs) stage)
          ∙ sym (written_stages_more f js stages xs i (get_or stages i 0) (omega arith) few refl)
          ∙ inv.value
          ∙ ap (λ n. written_stages f js stages (replicate n 0)) (sym c.serve_stage-left.auto.passes);
      so_far = omega (arith, over_more (leaves net q) js stages i (omega arith) few, here, inv.so_far);
      small = omega (arith, c.serve_stage-left.ensures.few, inv.small);
    }

pub returns-clause-value : goal.returns-clause-value
returns-clause-value c =
    let net = c.args.net.now in
    let q = entry (naturals c.args.queues.now) in
    let m = length net.movements in
    let f = served net q in
    let js = net.junctions in
    let stages = c.args.stages.now in
    let size : length c.loop-i.passes ≡ m = omega (arith, c.loop-i.auto.passes, c.requires.size) in
    let end : drop c.loop-i.i js ≡ [] = drop_all c.loop-i.i js (omega arith) in
    let is : c.loop-i.passes ≡ written_stages f js stages (replicate (length c.loop-i.passes) 0) = ap (λ t. written_stages f t (drop c.loop-i.i stages) c.loop-i.passes) (sym end) ∙ c.loop-i.invariant.value in
    numbers_by_all (passed net stages q) c.loop-i.passes m size (λ k h l.
    ap (λ xs. entry xs k) is
    ∙ entry-written_stages f js stages (replicate (length c.loop-i.passes) 0) m k (length-replicate _ _ ∙ size) (stages_of_all net c.requires.acceptable.network) h l
    ∙ ap (cond (has_green net stages k) (f k)) (get_or-replicate (length c.loop-i.passes) (k - 1))
    ∙ cond-and (has_green net stages k) (nat_lt 0 (positive_weight net q k)) (min (flow_of net k) (q k)))

pub returns-clause-each : goal.returns-clause-each
returns-clause-each c =
    let net = c.args.net.now in
    let m = length net.movements in
    let v = returns-clause-value c in
    rw v (All-from_recursion (λ y. y ≤ 1000) _ (map_each (λ y. y ≤ 1000) (passed net c.args.stages.now (entry (naturals c.args.queues.now))) (movement_numbers net)
    (each_in _ (movement_numbers net) (λ k h. passed_few net c.args.stages.now (entry (naturals c.args.queues.now)) k (flow_few net c.requires.acceptable.range k)))))

pub returns-clause-left : goal.returns-clause-left
returns-clause-left c =
    let net = c.args.net.now in
    let q = entry (naturals c.args.queues.now) in
    let js = net.junctions in
    let end : drop c.loop-i.i js ≡ [] = drop_all c.loop-i.i js (omega arith) in
    let none : over_stages (leaves net q) (drop c.loop-i.i js) (drop c.loop-i.i c.args.stages.now) ≡ 0 = ap (λ t. over_stages (leaves net q) t (drop c.loop-i.i c.args.stages.now)) end in
    let all : c.loop-i.left ≡ over_stages (leaves net q) js c.args.stages.now = omega (arith, c.loop-i.invariant.so_far, none) in
    all ∙ left_is net c.requires.acceptable.network q c.args.stages.now c.loop-i.passes (returns-clause-value c)
