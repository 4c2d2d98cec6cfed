use Rattle.std.proofs.Common.{◌≡◌, ◌≤◌, arith, rules, sym, subst, sum}
use Rattle.std.proofs.lemmas.List.Elements.{recursion_from_All}
use Rattle.mp_feed.specs.Counts.{IsTable}
use Rattle.mp_feed.proofs.Rounds.{length-le-sum, each_few}
use Rattle.mp_feed.proofs.splitter.Splitter.new.Goals as goal

pub table-requires-clause-few : goal.table-requires-clause-few
table-requires-clause-few c = omega (arith, length-le-sum c.args.shares.now (recursion_from_All (λ w. 1 ≤ w) c.args.shares.now c.requires.each))

pub invariant_of-result : goal.invariant_of-result
invariant_of-result c =
    let shares = c.args.shares.now in
    let items : c.in_ok-shares.shares.items ≡ shares = search rules in
    let some : 1 ≤ sum shares = omega (arith, length-le-sum shares (recursion_from_All (λ w. 1 ≤ w) shares c.requires.each), c.requires.some) in
    record {
      table = subst (λ xs. IsTable xs c.total_of-total.result c.in_ok-joined.joined.items) (sym items) (record {
        sums = sym c.total_of-total.ensures;
        some = omega (arith, c.total_of-total.ensures);
        most = omega (arith, c.total_of-total.ensures);
        few = omega (arith, length-le-sum shares (recursion_from_All (λ w. 1 ≤ w) shares c.requires.each));
        each = each_few shares c.requires.few;
        table = c.in_ok-joined.ensures;
      });
      phase = omega (arith, c.total_of-total.ensures);
    }
