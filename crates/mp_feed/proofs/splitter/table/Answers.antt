use Rattle.std.proofs.Common.{◌≡◌, ◌<◌, ◌+◌, get_or, arith, ◌∙◌, sym, ap, subst, ◌++◌, length}
use Rattle.std.proofs.lemmas.List.{length-set}
use Rattle.std.proofs.lemmas.List.{get_or_default}
use Rattle.mp_feed.specs.Counts.{joins, AreJoined}
use Rattle.mp_feed.proofs.Rounds.{joins_from, counts_set, few_set, rows_more}
use Rattle.mp_feed.proofs.splitter.table.Goals as goal

pub loop-n-preserved : goal.loop-n-preserved
loop-n-preserved c =
    let shares = c.args.shares.now in
    let cs = c.loop-n.counts.items in
    let n = c.loop-n.n in
    let place = c.next_place-place.result in
    let v = c.index_mut.result.now in
    let inv = c.loop-n.invariant in
    let is : place ≡ joins shares n = rw c.deref-in-loop-n.ensures.value at c.next_place-place.ensures.greatest ∙ joins_from shares cs c.args.total n c.requires.total inv.counted in
    let read : v ≡ get_or cs place 0 = let within : place < length cs = omega (arith, inv.size, c.next_place-place.ensures.within) in c.index_mut.ensures.value ∙ get_or_default cs place v 0 within in
    record {
      size = length-set cs place (v + 1) ∙ inv.size;
      counted = counts_set shares cs n place v inv.size c.next_place-place.ensures.within is read inv.counted;
      few = few_set cs n (length shares) place v inv.size read c.next_place-place.ensures.within inv.few;
      rows = subst (AreJoined shares (n + 1)) (sym (c.in_ok-extend_from_slice.ensures.items ∙ ap (λ xs. c.loop-n.joined.items ++ xs) c.deref.ensures.value)) (rows_more shares c.loop-n.joined.items cs n inv.rows inv.size inv.counted);
    }
