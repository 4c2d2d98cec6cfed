use Rattle.std.proofs.Common.{◌≡◌, ◌*◌, ◌∙◌, sym, ap, ap₂, arith, slice_index, length, true, sum}
use Rattle.std.proofs.lemmas.List.{length-map}
use Rattle.mp_cert.proofs.PlaceLemmas.{from_known, in_list}
use Rattle.mp_model.specs.Network.{from_of, out_of, share_of, has, movement_numbers}
use Rattle.mp_model.specs.Step.{joined}
use Rattle.mp_step.proofs.Moves.{sum_shares}
use Rattle.mp_guard.proofs.SurplusLemmas.{got_is, got_length, count_small, share_small}
use Rattle.mp_guard.proofs.surplus.credit.Goals as goal

pub take_from-requires-clause-phase : goal.take_from-requires-clause-phase
take_from-requires-clause-phase c =
    let net = c.args.net.now in
    let known = from_known net c.requires.acceptable.network c.args.k c.requires.movement.0 c.requires.movement.1 in
    omega (arith, ap sum c.requires.splitter, sum_shares net c.requires.acceptable.network (from_of net c.args.k) known, c.requires.round)

pub take_from-requires-clause-len : goal.take_from-requires-clause-len
take_from-requires-clause-len c = c.requires.len ∙ sym (ap length c.requires.splitter ∙ length-map (out_of c.args.net.now (from_of c.args.net.now c.args.k)) (share_of c.args.net.now))

pub credit_of-requires-clause-small : goal.credit_of-requires-clause-small
credit_of-requires-clause-small c =
    let net = c.args.net.now in
    let in' : has (movement_numbers net) c.args.k ≡ true = in_list (length net.movements) c.args.k c.requires.movement.0 c.requires.movement.1 in
    let share = share_small net c.requires.acceptable.network c.args.k in' in
    let shares = c.requires.acceptable.range.shares in
    (omega arith, omega arith, omega arith)

pub credit_of-requires-clause-count : goal.credit_of-requires-clause-count
credit_of-requires-clause-count c =
    let net = c.args.net.now in
    let ok = c.requires.acceptable.network in
    let known = from_known net ok c.args.k c.requires.movement.0 c.requires.movement.1 in
    let in' : has (movement_numbers net) c.args.k ≡ true = in_list (length net.movements) c.args.k c.requires.movement.0 c.requires.movement.1 in
    let got : slice_index c.take_from.new.got c.args.place ≡ joined net (from_of net c.args.k) c.args.n c.args.k = got_is net ok (from_of net c.args.k) known c.args.splitter.now.shares c.take_from.new.got c.from.result c.args.n c.args.place c.args.k c.requires.splitter c.take_from.ensures.got c.from.ensures c.requires.place.0 c.requires.place.1 in
    let total : c.from-2.result ≡ net.shares = omega arith in
    let share : c.from-share.result ≡ share_of net c.args.k = c.from-share.ensures ∙ c.movement.ensures.share in
    let round : c.from-3.result ≡ c.args.n = c.from-3.ensures in
    let counts = ap₂ (λ a b. a * b) total got in
    let turns = ap₂ (λ a b. a * b) share round in
    omega (arith, count_small net ok c.args.k in' c.args.n, counts, turns, total)

pub returns-clause-credit : goal.returns-clause-credit
returns-clause-credit c =
    let net = c.args.net.now in
    let ok = c.requires.acceptable.network in
    let known = from_known net ok c.args.k c.requires.movement.0 c.requires.movement.1 in
    let got : slice_index c.take_from.new.got c.args.place ≡ joined net (from_of net c.args.k) c.args.n c.args.k = got_is net ok (from_of net c.args.k) known c.args.splitter.now.shares c.take_from.new.got c.from.result c.args.n c.args.place c.args.k c.requires.splitter c.take_from.ensures.got c.from.ensures c.requires.place.0 c.requires.place.1 in
    let total : c.from-2.result ≡ net.shares = omega arith in
    let share : c.from-share.result ≡ share_of net c.args.k = c.from-share.ensures ∙ c.movement.ensures.share in
    let round : c.from-3.result ≡ c.args.n = c.from-3.ensures in
    let counts = ap₂ (λ a b. a * b) total got in
    let turns = ap₂ (λ a b. a * b) share round in
    omega (arith, c.credit_of.ensures, counts, turns, total)

pub returns-clause-len : goal.returns-clause-len
returns-clause-len c =
    let net = c.args.net.now in
    let ok = c.requires.acceptable.network in
    got_length net ok (from_of net c.args.k) (from_known net ok c.args.k c.requires.movement.0 c.requires.movement.1) c.args.splitter.now.shares c.take_from.new.got c.from.result c.requires.splitter c.take_from.ensures.got
