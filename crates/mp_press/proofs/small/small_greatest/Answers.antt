use Rattle.std.proofs.Common.{◌≡◌, ◌≤◌, ◌+◌, ◌-◌, ◌∙◌, ap, arith, length, sym, ℕ, pos, sum_by, List}
use Rattle.std.specs.List.{All}
use Rattle.std.proofs.lemmas.List.Elements.{All-from_recursion}
use Rattle.mp_model.specs.Network.{Network, numbers_to, junction_at, stage_at, entry}
use Rattle.mp_model.specs.NetworkRules.{IsAcceptable}
use Rattle.mp_model.specs.Split.{first_greatest}
use Rattle.mp_press.specs.Written.{IsAmong}
use Rattle.mp_press.proofs.Known.{stage_known, stage_few}
use Rattle.mp_press.proofs.Firsts.{takes, keeps}
use Rattle.mp_press.proofs.small.small_greatest.Goals as goal
use Rattle.mp_press.proofs.small.small_greatest.Goals.{then-most-here, else-most-here}

known : (net : Network) → IsAcceptable net → (j s size : ℕ) (ks : List ℕ) → ks ≡ stage_at (junction_at net j) s → size ≡ length net.movements → All (IsAmong size) ks
known net ok j s size ks e h = λ i d lt. let k = rw (sym e) at (All-from_recursion (IsAmong (length net.movements)) _ (stage_known net ok.network (j - 1) s)) in let m = k i d lt in (m.0, omega (arith, m))

few : (net : Network) → IsAcceptable net → (j s : ℕ) (ks : List ℕ) → ks ≡ stage_at (junction_at net j) s → length ks ≤ 512
few net ok j s ks e = omega (arith, ap length e, stage_few net ok.network (j - 1) s, ok.range.movements)

pub small_pressure-most-requires-clause-known : goal.small_pressure-most-requires-clause-known
small_pressure-most-requires-clause-known c = known c.args.net.now c.requires.acceptable c.args.j 1 (length c.args.presses.now) _ c.stage.ensures c.requires.size

pub small_pressure-most-requires-clause-limit : goal.small_pressure-most-requires-clause-limit
small_pressure-most-requires-clause-limit c = few c.args.net.now c.requires.acceptable c.args.j 1 _ c.stage.ensures

pub small_pressure-here-requires-clause-known : goal.small_pressure-here-requires-clause-known
small_pressure-here-requires-clause-known c = known c.args.net.now c.requires.acceptable c.args.j (c.loop-i.i + 1) (length c.args.presses.now) _ c.stage-in-loop-i.ensures c.requires.size

pub small_pressure-here-requires-clause-limit : goal.small_pressure-here-requires-clause-limit
small_pressure-here-requires-clause-limit c = few c.args.net.now c.requires.acceptable c.args.j (c.loop-i.i + 1) _ c.stage-in-loop-i.ensures

pub loop-i-preserved : goal.loop-i-preserved
loop-i-preserved c =
    let j = junction_at c.args.net.now c.args.j in
    let f : ℕ → ℕ = λ s. sum_by (entry c.args.presses.now) (stage_at j s) in
    let i = c.loop-i.i in
    let here : c.small_pressure-here.result ≡ f (i + 1) = c.small_pressure-here.ensures ∙ ap (sum_by (entry c.args.presses.now)) c.stage-in-loop-i.ensures in
    elim c.if-most-here.branch [
      | then-most-here w ↦ record {
        best = w.best-is ∙ takes f i c.loop-i.best (omega arith) c.loop-i.invariant.best (omega (arith, here, c.loop-i.invariant.most, w.if-most-here));
        most = w.most-is ∙ here ∙ ap f (sym w.best-is);
      }
      | else-most-here w ↦ record {
        best = w.best-is ∙ keeps f i c.loop-i.best (omega arith) c.loop-i.invariant.best (omega (arith, here, c.loop-i.invariant.most, w.if-most-here));
        most = w.most-is ∙ c.loop-i.invariant.most ∙ ap f (sym w.best-is);
      }
    ]

pub returns : goal.returns
returns c =
    let j = junction_at c.args.net.now c.args.j in
    let f : ℕ → ℕ = λ s. sum_by (entry c.args.presses.now) (stage_at j s) in
    let end : c.loop-i.i ≡ length j.stages = omega (arith, c.stages-i-end.ensures) in
    c.loop-i.invariant.best ∙ ap (λ n. first_greatest (λ s. pos (f s)) (numbers_to n)) end
