use Rattle.std.proofs.Common.{◌∙◌, arith}
use Rattle.mp_press.proofs.Known.{from_known, share_few}
use Rattle.mp_press.proofs.cache.add_count.Goals as goal

pub overflow_sub-at : goal.overflow_sub-at
overflow_sub-at c =
    let l = from_known c.args.net.now c.requires.acceptable.network c.args.k c.requires.known in
    omega (arith, l, c.from-at.ensures ∙ c.turn-turn.ensures.from)

pub bounds-queued-at : goal.bounds-queued-at
bounds-queued-at c =
    let l = from_known c.args.net.now c.requires.acceptable.network c.args.k c.requires.known in
    omega (arith, l, c.from-at.ensures ∙ c.turn-turn.ensures.from, c.requires.len)

pub share_times-requires : goal.share_times-requires
share_times-requires c =
    let share = share_few c.args.net.now c.requires.acceptable.network c.args.k c.requires.known in
    (omega (arith, share, c.turn-turn.ensures.share, c.requires.acceptable.range.shares), c.requires.fits.1)

pub share_times-requires-2 : goal.share_times-requires-2
share_times-requires-2 c =
    let share = share_few c.args.net.now c.requires.acceptable.network c.args.k c.requires.known in
    (omega (arith, share, c.turn-turn.ensures.share, c.requires.acceptable.range.shares), c.requires.fits.0)

pub bounds-queued-at-2 : goal.bounds-queued-at-2
bounds-queued-at-2 c =
    let l = from_known c.args.net.now c.requires.acceptable.network c.args.k c.requires.known in
    omega (arith, l, c.from-at.ensures ∙ c.turn-turn.ensures.from, c.requires.len)
