use Rattle.std.proofs.Common.{slice_index, ℕ, ℤ, arith, rules, ◌∙◌}
use Rattle.mp_model.specs.Split.{credit_of}
use Rattle.mp_feed.proofs.Rounds.{takes, keeps, beats_key, keeps_key}
use Rattle.mp_feed.proofs.splitter.next_place.Goals as goal
use Rattle.mp_feed.proofs.splitter.next_place.Goals.{then-beats, else-beats}

pub loop-i-preserved : goal.loop-i-preserved
loop-i-preserved c =
    let w = slice_index c.args.shares.now in
    let s = slice_index c.args.counts.now in
    let W = c.args.total in
    let n = c.args.n in
    let i = c.loop-i.i in
    let b = c.loop-i.best in
    let key : ℕ → ℤ = λ i. credit_of W (w i) n (s i) in
    elim c.if-beats.branch [
      | then-beats w' ↦ record { within = omega arith; greatest = w'.best-is ∙ takes key i b (omega arith) c.loop-i.invariant.greatest (beats_key W n (w i) (w b) (s i) (s b) (search rules)) }
      | else-beats w' ↦ record { within = omega arith; greatest = w'.best-is ∙ keeps key i b (omega arith) c.loop-i.invariant.greatest (keeps_key W n (w i) (w b) (s i) (s b) (search rules)) }
    ]
