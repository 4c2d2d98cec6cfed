use Rattle.std.proofs.Common.{◌≡◌, ◌+◌, ◌∙◌, ℕ, [], ◌∷◌, ◌++◌, None, ap, ap₂, arith, map, subst, sym}
use Rattle.std.proofs.lemmas.List.FromFn.{map-range_with_len_more}
use Rattle.mp_model.specs.Guard.{greens_at}
use Rattle.mp_model.specs.GuardedRun.{Account}
use Rattle.mp_model.specs.Network.{junction_numbers, numbers_to}
use Rattle.mp_guard_run.specs.Accounts.{AreInOrder}
use Rattle.mp_guard_run.proofs.Places.{few_greens, opening_order, small_greens}
use Rattle.mp_guard_run.proofs.Settled.{before_of}
use Rattle.mp_guard_run.proofs.owed.Owed.new.Goals as goal

pub new-requires-clause-few : goal.new-requires-clause-few
new-requires-clause-few c = few_greens c.args.net.now c.shares.ensures.acceptable c.args.guard.now c.requires (c.loop-i.i + 1) (omega arith) (omega arith) _ c.greens.ensures

pub new-requires-clause-small : goal.new-requires-clause-small
new-requires-clause-small c = small_greens c.args.net.now c.args.guard.now c.requires (c.loop-i.i + 1) (omega arith) (omega arith) _ c.greens.ensures

pub loop-i-preserved : goal.loop-i-preserved
loop-i-preserved c =
    let i = c.loop-i.i in
    let f : ℕ → Account = λ j. record { owed = greens_at c.args.guard.now j; before = None } in
    let here : c.new.result ≡ f (i + 1) = c.new.ensures ∙ ap (λ greens. record { owed = greens; before = None }) c.greens.ensures in
    c.in_ok-push.ensures.items ∙ ap₂ (λ xs (a : Account). xs ++ a ∷ []) c.loop-i.invariant here ∙ sym (map-range_with_len_more f 1 i (i + 1) (omega arith))

pub returns-clause-order : goal.returns-clause-order
returns-clause-order c =
    let net = c.args.net.now in
    let f : ℕ → Account = λ j. record { owed = greens_at c.args.guard.now j; before = None } in
    let value : c.loop-i.accounts.items ≡ map f (junction_numbers net) = c.loop-i.invariant ∙ ap (λ n. map f (numbers_to n)) (omega arith) in
    subst (AreInOrder net c.args.guard.now 0) (sym value) (opening_order net c.args.guard.now c.requires)

pub returns-clause-before : goal.returns-clause-before
returns-clause-before c = before_of c.args.net.now c.args.guard.now 0 _ (returns-clause-order c)
