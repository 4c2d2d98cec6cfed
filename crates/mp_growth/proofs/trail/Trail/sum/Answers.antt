use Rattle.std.proofs.Common.{◌≡◌, ◌∙◌, ap, ap₂, sym, Some, List, ℕ, ℤ, FitsSigned, to_z-of_z, rules}
use Rattle.std.specs.Int.{w128}
use Rattle.mp_model.specs.Network.{entry}
use Rattle.mp_cert.specs.Views.{vector_of}
use Rattle.mp_step.specs.Standing.{Standing}
use Rattle.mp_overload.specs.Forming.{queues_formed}
use Rattle.mp_overload.proofs.Forms.{forms}
use Rattle.mp_growth.proofs.Going.{trail_grown}
use Rattle.mp_growth.proofs.trail.Trail.sum.Goals as goal

pub returns-in-Some-clause-value : goal.returns-in-Some-clause-value
returns-in-Some-clause-value c =
    let net = c.args.net.now in
    let fits : FitsSigned w128 c.in-Some.sum = search rules in
    let queues = c.queues.ensures.value ∙ ap (λ (st : Standing). st.queues) c.self.view_is in
    let formed : queues_formed net c.args.against.now.p (entry c.args.self.now.queues) ≡ Some c.in-Some.sum =
    sym (ap₂ (λ (p : List ℤ) (q : List ℕ). queues_formed net p (entry q)) c.as_slice.ensures queues) ∙ sym c.weigh_queues.ensures ∙ c.in-Some.is in
    let is = (forms net c.args.against.now.p c.requires.signs).queues_are (entry c.args.self.now.queues) c.in-Some.sum formed in
    simp to_z-of_z is

pub returns-in-Some-clause-grown : goal.returns-in-Some-clause-grown
returns-in-Some-clause-grown c = trail_grown c.args.net.now c.args.self.now c.requires.on (entry (vector_of c.args.against.now))

pub returns-in-None-clause-grown : goal.returns-in-None-clause-grown
returns-in-None-clause-grown c = trail_grown c.args.net.now c.args.self.now c.requires.on (entry (vector_of c.args.against.now))
