use Rattle.std.proofs.Common.{◌^◌, ℤ, pos, ◌≤ℤ◌, List, sym, ◌∙◌, subst}
use Rattle.std.specs.List.{All}
use Rattle.mp_num.specs.Fraction.{numerator, denominator}
use Rattle.mp_drift.proofs.Finding.{room_there, all_have_room, root_few}
use Rattle.mp_frame.proofs.Bounding.{listed}
use Rattle.mp_frame.proofs.bounds.frame_bounds.Goals as goal

pub bound_list-requires-clause-root : goal.bound_list-requires-clause-root
bound_list-requires-clause-root c = root_few c.isqrt.result c.in-Some.found.vmax c.isqrt.ensures.square_le c.in-Some.ensures.fits.1

pub returns-then-not-has_room-clause-calculation : goal.returns-then-not-has_room-clause-calculation
returns-then-not-has_room-clause-calculation c =
    let found = c.in-Some.ensures.found in
    let l = listed c.args.net.now c.args.f (numerator c.args.slack.now) (denominator c.args.slack.now) c.in-Some.found.vmax c.isqrt.result c.in-Ok-bound_list.bound.items c.in-Ok-bound_list.ensures found.vmax_is c.isqrt.ensures.square_le c.isqrt.ensures.next_square_gt in
    record {
      found = found.stated;
      bounds = l.bounds;
      are = l.are;
      no_room = λ h. absurd (cc (c.has_room.ensures.1 (subst (λ (zs : List ℤ). All (λ b. b ≤ℤ pos (2 ^ 62)) zs) (sym (c.deref.ensures.value ∙ l.listed)) (all_have_room l.bounds h)), c.if-not-has_room.true));
    }

pub returns-clause-bounds : goal.returns-clause-bounds
returns-clause-bounds c =
    let found = c.in-Some.ensures.found in
    let l = listed c.args.net.now c.args.f (numerator c.args.slack.now) (denominator c.args.slack.now) c.in-Some.found.vmax c.isqrt.result c.in-Ok-bound_list.bound.items c.in-Ok-bound_list.ensures found.vmax_is c.isqrt.ensures.square_le c.isqrt.ensures.next_square_gt in
    record {
      bounds = l.bounds;
      listed = c.new.ensures ∙ l.listed;
      are = l.are;
      room = room_there l.bounds (subst (λ (zs : List ℤ). All (λ b. b ≤ℤ pos (2 ^ 62)) zs) (c.deref.ensures.value ∙ l.listed) (c.has_room.ensures.0 c.if-not-has_room.false));
    }
