use Rattle.std.proofs.Common.{◌≡◌, ◌-◌, ◌∙◌, ℕ, ap, sym, arith, length, List, sum_by}
use Rattle.std.specs.List.{All}
use Rattle.std.proofs.lemmas.List.Elements.{All-from_recursion}
use Rattle.mp_model.specs.Network.{Network, junction_at, stage_at, entry}
use Rattle.mp_model.specs.NetworkRules.{IsAcceptable}
use Rattle.mp_press.specs.Written.{IsAmong}
use Rattle.mp_press.proofs.Known.{stage_known, stage_few}
use Rattle.mp_guard_run.proofs.pressing.pressure.Goals as goal

known : (net : Network) → IsAcceptable net → (j s size : ℕ) (ks : List ℕ) → ks ≡ stage_at (junction_at net j) s → size ≡ length net.movements → All (IsAmong size) ks
known net ok j s size ks e h = λ i d lt. let k = rw (sym e) at (All-from_recursion (IsAmong (length net.movements)) _ (stage_known net ok.network (j - 1) s)) in let m = k i d lt in (m.0, omega (arith, m))

pub sum_of-requires-clause-known : goal.sum_of-requires-clause-known
sum_of-requires-clause-known c = known c.args.net.now c.requires.acceptable c.args.j c.args.s (length c.args.presses.now) _ c.stage.ensures c.requires.size

pub sum_of-requires-clause-limit : goal.sum_of-requires-clause-limit
sum_of-requires-clause-limit c = omega (arith, ap length c.stage.ensures, stage_few c.args.net.now c.requires.acceptable.network (c.args.j - 1) c.args.s, c.requires.acceptable.range.movements)

pub returns-clause-value : goal.returns-clause-value
returns-clause-value c = c.sum_of.ensures.value ∙ ap (sum_by (entry c.args.presses.now)) c.stage.ensures
