use Rattle.std.proofs.Common.{◌≡◌, [], ◌∷◌, pos, Some, length, arith, sym, ◌∙◌, ap, inl, inr, rules}
use Rattle.std.proofs.lemmas.List.{length-append, length-map}
use Rattle.std.specs.Prelude.{unsigned_abs}
use Rattle.mp_press.specs.Queues.{naturals}
use Rattle.mp_log.proofs.CountLemmas.{place_within, read_more, part_fails, last_more, last_fails, too_many, none_read}
use Rattle.mp_control.proofs.RowLemmas.{naturals_more, small_more, row_read, row_unread}
use Rattle.mp_control.proofs.input.read_row.Goals as goal

pub returns-then-not-push_count-clause-none : goal.returns-then-not-push_count-clause-none
returns-then-not-push_count-clause-none c = λ _. (
    elim (c.if-not-push_count.ensures.refused (search rules)) [
      | inl full ↦ too_many (naturals c.loop-at.into.items) c.loop-at.rest.now c.args.line.now c.args.n c.loop-at.invariant.so_far (let size : length c.loop-at.into.items ≡ c.args.n = search rules in length-map c.loop-at.into.items unsigned_abs ∙ size)
      | inr none ↦ none_read c.args.line.now c.args.n (part_fails (naturals c.loop-at.into.items) c.loop-at.rest.now _ c.in-Some.at c.loop-at.invariant.so_far (search rules) none)
    ]
    )

pub loop-at-preserved : goal.loop-at-preserved
loop-at-preserved c =
    let p = c.if-not-push_count.ensures.pushed (search rules) in
    let items = c.loop-at.into.items in
    record {
      few = omega (arith, ap length p.1.2, length-append items (pos p.1.0 ∷ []));
      small = rw p.1.2 (small_more items p.1.0 c.loop-at.invariant.small p.1.3);
      so_far = rw (p.1.2, naturals_more items p.1.0) (read_more (naturals items) c.loop-at.rest.now c.behind-rest.result.now _ c.in-Some.at p.1.0 c.loop-at.invariant.so_far (search rules) p.1.1 c.behind-rest.ensures);
    }

pub returns-then-not-push_count-2-clause-none : goal.returns-then-not-push_count-2-clause-none
returns-then-not-push_count-2-clause-none c = λ _. (
    elim (c.if-not-push_count-2.ensures.refused (search rules)) [
      | inl full ↦ too_many (naturals c.loop-at.into.items) c.loop-at.rest.now c.args.line.now c.args.n c.loop-at.invariant.so_far (let size : length c.loop-at.into.items ≡ c.args.n = search rules in length-map c.loop-at.into.items unsigned_abs ∙ size)
      | inr none ↦ none_read c.args.line.now c.args.n (last_fails (naturals c.loop-at.into.items) c.loop-at.rest.now _ c.loop-at.invariant.so_far (search rules) none)
    ]
    )

pub returns-clause-some : goal.returns-clause-some
returns-clause-some c =
    let p = c.if-not-push_count-2.ensures.pushed (search rules) in
    let read = ap (λ zs. Some (naturals zs)) p.1.2 ∙ ap (λ xs. Some xs) (naturals_more c.loop-at.into.items p.1.0) ∙ last_more (naturals c.loop-at.into.items) c.loop-at.rest.now _ p.1.0 c.loop-at.invariant.so_far (search rules) p.1.1 in
    λ is. row_read c.args.line.now c.push_count-2.new.into.items c.args.n c.len.result read (sym c.len.ensures.value) is

pub returns-clause-small : goal.returns-clause-small
returns-clause-small c =
    let p = c.if-not-push_count-2.ensures.pushed (search rules) in
    λ _. rw p.1.2 (small_more c.loop-at.into.items p.1.0 c.loop-at.invariant.small p.1.3)

pub returns-clause-none : goal.returns-clause-none
returns-clause-none c =
    let p = c.if-not-push_count-2.ensures.pushed (search rules) in
    let read = ap (λ zs. Some (naturals zs)) p.1.2 ∙ ap (λ xs. Some xs) (naturals_more c.loop-at.into.items p.1.0) ∙ last_more (naturals c.loop-at.into.items) c.loop-at.rest.now _ p.1.0 c.loop-at.invariant.so_far (search rules) p.1.1 in
    λ is. row_unread c.args.line.now c.push_count-2.new.into.items c.args.n c.len.result read (sym c.len.ensures.value) is

pub behind-rest-requires : goal.behind-rest-requires
behind-rest-requires c = place_within 44 c.loop-at.rest.now c.in-Some.at (search rules)
