use Rattle.std.proofs.Common.{◌≡◌, ◌+◌, ◌∙◌, ℕ, [], ◌∷◌, ◌++◌, List, ap, ap₂, arith, length, map, subst, sym}
use Rattle.std.proofs.lemmas.List.{length_push}
use Rattle.std.proofs.lemmas.List.FromFn.{map-range_with_len_more}
use Rattle.mp_laws.proofs.Lists.{each_in, in_numbers, numbered}
use Rattle.mp_model.specs.GuardedChoice.{guarded_stage}
use Rattle.mp_model.specs.GuardedRun.{Account, IsCandidate}
use Rattle.mp_model.specs.Network.{junction_at, junction_numbers, numbers_to, entry}
use Rattle.mp_press.specs.Queues.{naturals}
use Rattle.mp_press.proofs.Known.{some_stage}
use Rattle.mp_guard_run.specs.Accounts.{IsInOrder, account_among}
use Rattle.mp_guard_run.proofs.Orders.{takes_candidate}
use Rattle.mp_guard_run.proofs.Places.{account_read, order_at}
use Rattle.mp_guard_run.proofs.Settled.{known_of}
use Rattle.mp_guard_run.proofs.owed.Owed.choose.Goals as goal

pub stage_of-requires-clause-order : goal.stage_of-requires-clause-order
stage_of-requires-clause-order c =
    let net = c.args.net.now in
    let i = c.loop-i.i in
    let account : c.index-account.result.now ≡ account_among c.self.inside.accounts.items (i + 1) = account_read c.self.inside.accounts.items i c.from.result c.index-account.result.now c.index-account.ensures c.from.ensures (omega (arith, ap length c.self.view_is, c.requires.order.size)) in
    subst (IsInOrder c.args.guard.now (junction_at net (i + 1)) c.args.period) (sym (account ∙ ap (λ (xs : List Account). account_among xs (i + 1)) c.self.view_is))
    (order_at net c.args.guard.now c.args.period c.args.self.now c.requires.order (i + 1) (omega arith) (omega arith))

pub loop-i-preserved : goal.loop-i-preserved
loop-i-preserved c =
    let net = c.args.net.now in
    let i = c.loop-i.i in
    let q : ℕ → ℕ = entry (naturals c.args.counts.now) in
    let account : c.index-account.result.now ≡ account_among c.self.inside.accounts.items (i + 1) = account_read c.self.inside.accounts.items i c.from.result c.index-account.result.now c.index-account.ensures c.from.ensures (omega (arith, ap length c.self.view_is, c.requires.order.size)) in
    let stage : c.stage_of.result ≡ guarded_stage net c.args.guard.now (junction_at net (i + 1)) q c.args.period (account_among c.args.self.now (i + 1)) =
    c.stage_of.ensures.value ∙ ap (guarded_stage net c.args.guard.now (junction_at net (i + 1)) q c.args.period) (account ∙ ap (λ (xs : List Account). account_among xs (i + 1)) c.self.view_is) in
    record {
      value = c.push.ensures.items ∙ ap₂ (λ xs s. xs ++ s ∷ []) c.loop-i.invariant.value stage
          ∙ sym (map-range_with_len_more (λ j. guarded_stage net c.args.guard.now (junction_at net j) q c.args.period (account_among c.args.self.now j)) 1 i (i + 1) (omega arith));
      size = ap length c.push.ensures.items ∙ length_push c.loop-i.into.items c.stage_of.result ∙ omega (arith, c.loop-i.invariant.size);
    }

pub returns-clause-candidates : goal.returns-clause-candidates
returns-clause-candidates c =
    let net = c.args.net.now in
    let guard = c.args.guard.now in
    let q : ℕ → ℕ = entry (naturals c.args.counts.now) in
    let f : ℕ → ℕ = λ j. guarded_stage net guard (junction_at net j) q c.args.period (account_among c.args.self.now j) in
    let value : c.loop-i.into.items ≡ map f (junction_numbers net) = c.loop-i.invariant.value ∙ ap (λ n. map f (numbers_to n)) (omega arith) in
    each_in (λ j. IsCandidate guard (junction_at net j) q c.args.period (account_among c.args.self.now j) (entry c.loop-i.into.items j)) (junction_numbers net) (λ j h.
    let i = in_numbers (length net.junctions) j h in
    subst (IsCandidate guard (junction_at net j) q c.args.period (account_among c.args.self.now j)) (sym (ap (λ xs. entry xs j) value ∙ numbered f (length net.junctions) j h))
    (takes_candidate guard c.requires.guards.cycle.0 (junction_at net j) c.args.period (account_among c.args.self.now j) (order_at net guard c.args.period c.args.self.now c.requires.order j i.0 (omega (arith, i.1))) net q
    (some_stage net c.shares.ensures.acceptable.network j i.0 (omega (arith, i.1)))))

pub returns-clause-known : goal.returns-clause-known
returns-clause-known c = known_of c.args.net.now c.args.guard.now (entry (naturals c.args.counts.now)) c.args.period c.args.self.now c.loop-i.into.items (returns-clause-candidates c)
