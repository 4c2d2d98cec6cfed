use Rattle.std.proofs.Common.{◌≡◌, ◌≤◌, ◌<◌, ◌++◌, ◌∷◌, [], ◌∙◌, ap, sym, arith, rules, length, pos, get_or, ℕ, subst, ℤ, FitsSigned, to_z-of_z}
use Rattle.std.specs.Int.{w128}
use Rattle.std.proofs.lemmas.Grind.{common_steps}
use Rattle.mp_model.specs.Network.{from_of, has, junction_at, targets}
use Rattle.mp_press.proofs.Known.{all_known, few_kept}
use Rattle.mp_press.specs.Queues.{AreCounts}
use Rattle.mp_press.specs.Written.{IsAmong}
use Rattle.mp_round.specs.Deciding.{seen_in}
use Rattle.mp_round.proofs.Counting.{counts_push, map_more}
use Rattle.mp_round.proofs.choosing.seen_next.Goals as goal

pub seen-requires-clause-movement : goal.seen-requires-clause-movement
seen-requires-clause-movement c =
    let net = c.args.net.now in
    let known : (i d : ℕ) → i < length c.next-k-items.result.now → IsAmong (length net.movements) (get_or c.next-k-items.result.now i d) = rw c.next-k-items.ensures (all_known (λ k. has (targets net (junction_at net c.args.j)) (from_of net k)) (length net.movements)) in
    known c.loop-k.k-index 0 c.loop-k-test.true

pub push-requires : goal.push-requires
push-requires c =
    let net = c.args.net.now in
    let size : length c.next-k-items.result.now ≤ length net.movements = rw c.next-k-items.ensures (few_kept (λ k. has (targets net (junction_at net c.args.j)) (from_of net k)) (length net.movements)) in
    let few : length c.next-k-items.result.now ≤ 512 = omega (arith, c.shares.ensures.acceptable.range.movements) in
    grind (arith, common_steps)

pub loop-k-preserved : goal.loop-k-preserved
loop-k-preserved c =
    let r = seen_in c.args.net.now c.args.copies.now c.args.j in
    let f : ℕ → ℤ = λ k. pos (r k) in
    let ks = c.next-k-items.result.now in
    let i = c.loop-k.k-index in
    let zs = c.loop-k.counts.items in
    let fits : FitsSigned w128 c.seen.result = search rules in
    let pushed : c.push.new.self.items ≡ zs ++ c.seen.result ∷ [] = simp to_z-of_z at c.push.ensures.items in
    let more : c.push.new.self.items ≡ zs ++ f (get_or ks i 0) ∷ [] = pushed ∙ ap (λ z. zs ++ z ∷ []) c.seen.ensures.value in
    record {
      items = more ∙ ap (λ xs. xs ++ f (get_or ks i 0) ∷ []) c.loop-k.invariant.items ∙ sym (map_more f ks i 0 c.loop-k-test.true);
      counts = subst AreCounts (sym more) (counts_push zs (r (get_or ks i 0)) c.loop-k.invariant.counts c.seen.ensures.few);
    }

pub returns-clause-items : goal.returns-clause-items
returns-clause-items c = grind (arith, common_steps)
