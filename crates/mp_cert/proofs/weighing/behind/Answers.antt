use Rattle.std.proofs.Common.{◌≡◌, ◌∙◌, sym, ap, Option, None, ℕ}
use Rattle.mp_model.specs.Network.{out_of_target, to_of}
use Rattle.mp_num.specs.Passing.{stepped}
use Rattle.mp_num.specs.Operations.{summed}
use Rattle.mp_cert.specs.Weighing.{counted}
use Rattle.mp_cert.proofs.weighing.behind.Goals as goal

pub returns-in-None : goal.returns-in-None
unfolding summed stepped
returns-in-None c =
    let net = c.args.net.now in
    let outside : to_of net c.args.k ≡ None = sym c.target.ensures.value ∙ c.in-None.is in
    sym (ap (λ (to : Option ℕ). summed (counted net c.args.p.now) (out_of_target net to)) outside)
