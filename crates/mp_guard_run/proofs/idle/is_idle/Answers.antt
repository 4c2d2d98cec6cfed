use Rattle.std.proofs.Common.{◌≡◌, ◌-◌, ℕ, sym, arith, length, List}
use Rattle.std.specs.List.{All}
use Rattle.std.proofs.lemmas.List.Elements.{All-from_recursion}
use Rattle.mp_model.specs.Network.{Network, junction_at, stage_at}
use Rattle.mp_model.specs.NetworkRules.{IsAcceptable}
use Rattle.mp_press.specs.Written.{IsAmong}
use Rattle.mp_press.proofs.Known.{stage_known}
use Rattle.mp_guard_run.proofs.idle.is_idle.Goals as goal

known : (net : Network) → IsAcceptable net → (j s size : ℕ) (ks : List ℕ) → ks ≡ stage_at (junction_at net j) s → size ≡ length net.movements → All (IsAmong size) ks
known net ok j s size ks e h = λ i d lt. let k = rw (sym e) at (All-from_recursion (IsAmong (length net.movements)) _ (stage_known net ok.network (j - 1) s)) in let m = k i d lt in (m.0, omega (arith, m))

pub are_quiet-requires-clause-known : goal.are_quiet-requires-clause-known
are_quiet-requires-clause-known c = known c.args.net.now c.shares.ensures.acceptable c.args.j c.args.s (length c.args.counts.now) _ c.stage.ensures c.requires.len
