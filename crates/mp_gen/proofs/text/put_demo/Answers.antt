use Rattle.std.proofs.Common.{◌≡◌, ℕ, ◌+◌, ◌-◌, List, ◌++◌, ◌∙◌, ap, subst, sum, arith, codes, decimal}
use Rattle.mp_edge.specs.Outside.{Tells, Puts}
use Rattle.mp_text.specs.Buffered.{Buffered}
use Rattle.mp_num.specs.Fraction.{numerator, denominator}
use Rattle.mp_press.specs.Queues.{naturals}
use Rattle.mp_round.specs.RoundView.{RoundView}
use Rattle.mp_step.specs.Standing.{Standing}
use Rattle.mp_model.specs.Load.{greatest as greatest_of}
use Rattle.mp_gen.proofs.Texts.{text_is, same_text, summary_is}
use Rattle.mp_gen.proofs.text.put_demo.Goals as goal

pub returns-clause-bytes : goal.returns-clause-bytes
returns-clause-bytes g c =
    let s = c.args.session.now in
    let at = c.state-state.ensures ∙ ap (λ (round : RoundView). round.standing) c.round.ensures.value in
    let e = c.excess_of.result in
    let d = c.denominator_of.result in
    let b = c.greatest_of.result in
    let i = c.total_in-total_in.result in
    let o = c.total_out-total_out.result in
    let none = ap (λ (text : Buffered). text.held) c.new-text.ensures in
    let h0 = c.push_text.ensures.held ∙ ap (λ (xs : List ℕ). xs ++ codes "demo ") none in
    let h1 = c.push_number.ensures.held ∙ ap (λ (xs : List ℕ). xs ++ decimal c.args.n) h0 in
    let h2 = c.push_text-2.ensures.held ∙ ap (λ (xs : List ℕ). xs ++ codes "\nslack ") h1 in
    let h3 = c.push_number-2.ensures.held ∙ ap (λ (xs : List ℕ). xs ++ decimal e) h2 in
    let h4 = c.push_text-3.ensures.held ∙ ap (λ (xs : List ℕ). xs ++ codes "/") h3 in
    let h5 = c.push_number-3.ensures.held ∙ ap (λ (xs : List ℕ). xs ++ decimal d) h4 in
    let h6 = c.push_text-4.ensures.held ∙ ap (λ (xs : List ℕ). xs ++ codes "\nbound ") h5 in
    let h7 = c.push_number-4.ensures.held ∙ ap (λ (xs : List ℕ). xs ++ decimal b) h6 in
    let h8 = c.push_text-5.ensures.held ∙ ap (λ (xs : List ℕ). xs ++ codes "\nperiods 1048576\nin ") h7 in
    let h9 = c.push_number-5.ensures.held ∙ ap (λ (xs : List ℕ). xs ++ decimal i) h8 in
    let h10 = c.push_text-6.ensures.held ∙ ap (λ (xs : List ℕ). xs ++ codes " out ") h9 in
    let h11 = c.push_number-6.ensures.held ∙ ap (λ (xs : List ℕ). xs ++ decimal o) h10 in
    let h12 = c.push_text-7.ensures.held ∙ ap (λ (xs : List ℕ). xs ++ codes " queued ") h11 in
    let h13 = c.push_number-7.ensures.held ∙ ap (λ (xs : List ℕ). xs ++ decimal (i - o)) h12 in
    let h14 = c.push_text-8.ensures.held ∙ ap (λ (xs : List ℕ). xs ++ codes "\ngreatest ") h13 in
    let h15 = c.push_number-8.ensures.held ∙ ap (λ (xs : List ℕ). xs ++ decimal c.args.greatest) h14 in
    let h16 = c.push_text-9.ensures.held ∙ ap (λ (xs : List ℕ). xs ++ codes "\n") h15 in
    let conserved = subst (λ (st : Standing). st.total_in ≡ st.total_out + sum st.queues) at c.total_in-total_in.ensures.conserved in
    let total_in = c.total_in-total_in.ensures.value ∙ ap (λ (st : Standing). st.total_in) at in
    let total_out = c.total_out-total_out.ensures.value ∙ ap (λ (st : Standing). st.total_out) at in
    let rest : i - o ≡ sum s.round.standing.queues = omega (arith, conserved, total_in, total_out) in
    let same = same_text c.args.n e (numerator s.slack) d (denominator s.slack) b (greatest_of (naturals s.bounds)) i s.round.standing.total_in o s.round.standing.total_out (i - o) (sum s.round.standing.queues) c.args.greatest c.excess_of.ensures c.denominator_of.ensures (c.greatest_of.ensures ∙ ap (λ zs. greatest_of (naturals zs)) c.bounds.ensures) total_in total_out rest in
    subst (λ (bytes : List ℕ). Tells (g.Out.Sink.held c.args.out.now) (g.Out.Sink.held c.put.new.self) (Puts c.put.result bytes))
    (c.bytes.ensures.value ∙ h16 ∙ text_is c.args.n e d b i o (i - o) c.args.greatest ∙ same) c.put.ensures.bytes

pub returns-clause-summary : goal.returns-clause-summary
returns-clause-summary g c = λ shown.
    let s = c.args.session.now in
    subst (λ (bytes : List ℕ). Tells (g.Out.Sink.held c.args.out.now) (g.Out.Sink.held c.put.new.self) (Puts c.put.result bytes))
    (summary_is c.args.n s.net (numerator s.slack) (denominator s.slack) (naturals s.bounds) s.round.standing c.args.greatest c.round.ensures.kept.on.on shown) (returns-clause-bytes g c)
