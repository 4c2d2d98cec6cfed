use Rattle.std.proofs.Common.{◌≡◌, ◌<◌, ◌∙◌, true, length, slice_index, sym, ap, subst, rules}
use Rattle.mp_cert.proofs.PlaceLemmas.{in_list}
use Rattle.mp_model.specs.Network.{has, from_of, out_of}
use Rattle.mp_guard.proofs.SurplusLemmas.{own_out, has_left}
use Rattle.mp_guard.proofs.surplus.place_of.Goals as goal

pub loop-place-init : goal.loop-place-init
loop-place-init c =
    let outs : c.out_of-outs.result.now ≡ out_of c.args.net.now (from_of c.args.net.now c.args.k) = c.out_of-outs.ensures ∙ ap (out_of c.args.net.now) c.from.ensures.value in
    subst (λ xs. has xs c.args.k ≡ true) (sym outs) (own_out c.args.net.now c.args.k (in_list (length c.args.net.now.movements) c.args.k c.requires.movement.0 c.requires.movement.1))

pub returns : goal.returns
returns c =
    let outs : c.out_of-outs.result.now ≡ out_of c.args.net.now (from_of c.args.net.now c.args.k) = c.out_of-outs.ensures ∙ ap (out_of c.args.net.now) c.from.ensures.value in
    subst (λ xs. (c.loop-place.place < length xs) × (slice_index xs c.loop-place.place ≡ c.args.k)) outs (has_left c.out_of-outs.result.now c.loop-place.place c.args.k c.loop-place.invariant, search rules)
