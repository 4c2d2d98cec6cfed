use Rattle.std.proofs.Common.{◌+◌, ◌∙◌, ap, ap₂, arith, sum, sym, map, [], ◌∷◌, ◌++◌}
use Rattle.std.proofs.lemmas.List.{map-append}
use Rattle.std.proofs.lemmas.List.FromFn.{map-range_with_len_more}
use Rattle.mp_step.specs.Standing.{shares_in}
use Rattle.mp_step.proofs.Moves.{sum_shares, shares_some, shares_each}
use Rattle.mp_step.proofs.state.make_splits.Goals as goal

pub new-requires-clause-some : goal.new-requires-clause-some
new-requires-clause-some c = rw (c.deref.ensures.value, c.in_ok-shares.ensures) (shares_some c.args.net.now c.shares.ensures.acceptable.network (c.loop-i.i + 1) (omega arith, omega arith))

pub new-requires-clause-each : goal.new-requires-clause-each
new-requires-clause-each c = rw (c.deref.ensures.value, c.in_ok-shares.ensures) (shares_each c.args.net.now c.shares.ensures.acceptable.network (c.loop-i.i + 1) (omega arith, omega arith))

pub new-requires-clause-few : goal.new-requires-clause-few
new-requires-clause-few c =
    omega (arith, ap sum (c.deref.ensures.value ∙ c.in_ok-shares.ensures), sum_shares c.args.net.now c.shares.ensures.acceptable.network (c.loop-i.i + 1) (omega arith, omega arith), c.shares.ensures.acceptable.range.shares)

pub loop-i-preserved : goal.loop-i-preserved
loop-i-preserved c =
    let net = c.args.net.now in
    let i = c.loop-i.i in
    ap (λ xs. map (λ split. split.shares) xs) c.in_ok-add_split.ensures
    ∙ map-append (λ split. split.shares) c.loop-i.splits.items (c.in_ok-new.field-0 ∷ [])
    ∙ ap₂ (λ xs x. xs ++ x ∷ []) c.loop-i.invariant (ap (λ s. s.shares) c.in_ok-new.ensures ∙ c.deref.ensures.value ∙ c.in_ok-shares.ensures)
    ∙ sym (map-range_with_len_more (shares_in net) 1 i (i + 1) (omega arith))
