use Rattle.std.proofs.Common.{◌+◌, ◌/◌, ◌%◌, slice_index, length, ap, ◌∙◌}
use Rattle.std.proofs.lemmas.List.FromFn.{fill_by_all}
use Rattle.mp_feed.specs.Counts.{gained}
use Rattle.mp_feed.proofs.Rounds.{gain_within, gain_is}
use Rattle.mp_feed.proofs.splitter.gain.Goals as goal

pub put_gains-requires-clause-within : goal.put_gains-requires-clause-within
put_gains-requires-clause-within c = λ i h. gain_within c.args.shares.now c.args.joined.now c.args.total c.args.phase c.args.n c.rounds_of-rounds.result.whole c.rounds_of-rounds.result.rest c.requires.table c.requires.phase
    (c.rounds_of-rounds.ensures.whole ∙ ap (λ p. (p + c.args.n) / c.args.total) c.from.ensures) (c.rounds_of-rounds.ensures.rest ∙ ap (λ p. (p + c.args.n) % c.args.total) c.from.ensures)
    i (slice_index c.row-earlier.result.now i) (slice_index c.row-later.result.now i) h (c.row-earlier.ensures.each i h) (c.row-later.ensures.each i h)

pub returns-clause-got : goal.returns-clause-got
returns-clause-got c = fill_by_all (gained c.args.shares.now c.args.phase c.args.n) c.put_gains.new.got (length c.args.shares.now) 0 c.put_gains.ensures.len
    (λ i h. gain_is c.args.shares.now c.args.joined.now c.args.total c.args.phase c.args.n c.rounds_of-rounds.result.whole c.rounds_of-rounds.result.rest c.requires.table c.requires.phase
    (c.rounds_of-rounds.ensures.whole ∙ ap (λ p. (p + c.args.n) / c.args.total) c.from.ensures) (c.rounds_of-rounds.ensures.rest ∙ ap (λ p. (p + c.args.n) % c.args.total) c.from.ensures)
    i (slice_index c.put_gains.new.got i) (slice_index c.row-earlier.result.now i) (slice_index c.row-later.result.now i) h (c.row-earlier.ensures.each i h) (c.row-later.ensures.each i h) (c.put_gains.ensures.gains i h))
