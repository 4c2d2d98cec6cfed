use Rattle.std.proofs.Common.{refl, sym, ◌∙◌, inl, inr}
use Rattle.mp_model.specs.Load.{IsVector}
use Rattle.mp_cert.specs.TextMeaning.{vector_meaning}
use Rattle.mp_netfile.specs.Meaning.{file_meaning}
use Rattle.mp_press.specs.Queues.{naturals}
use Rattle.mp_cli.proofs.OpeningLemmas.{reads_more, reads_before, text_before}
use Rattle.mp_cli.proofs.VectorLemmas.{is_vector, is_zeros, not_zero, is_weak, refuting}
use Rattle.mp_cli.proofs.refuting.refute.Goals as goal

pub returns-in-Err-clause-means : goal.returns-in-Err-clause-means
returns-in-Err-clause-means g c = λ left. inl (c.in-Err.ensures.refused, record { input = refl; output = refl })

pub returns-in-Err-open_vector-clause-means : goal.returns-in-Err-open_vector-clause-means
returns-in-Err-open_vector-clause-means g c = λ left. inr (reads_more file_meaning _ _ c.in-Ok.net _ c.in-Ok.ensures.net (c.in-Ok.ensures.acceptable, inl (text_before _ _ (vector_meaning c.in-Ok.net) _ _ _ c.in-Ok.ensures.same c.in-Err-open_vector.ensures.refused, record { input = refl; output = refl })))

pub returns-then-is_zero-clause-means : goal.returns-then-is_zero-clause-means
returns-then-is_zero-clause-means g c = λ left. inr (reads_more file_meaning _ _ c.in-Ok.net _ c.in-Ok.ensures.net (c.in-Ok.ensures.acceptable, inr (reads_before (vector_meaning c.in-Ok.net) _ _ _ _ c.in-Ok.ensures.same (reads_more (vector_meaning c.in-Ok.net) _ _ c.in-Ok-open_vector.against.p _ c.in-Ok-open_vector.ensures.ok (inl (is_zeros c.is_zero.result c.in-Ok-open_vector.against.p c.as_slice.result.now c.if-is_zero.true c.is_zero.ensures c.as_slice.ensures, record { input = refl; output = refl }))))))

pub returns-in_default-clause-means : goal.returns-in_default-clause-means
returns-in_default-clause-means g c = λ left.
    let net = c.in-Ok.net in
    let p = c.in-Ok-open_vector.against.p in
    let some = not_zero c.is_zero.result p c.as_slice.result.now c.if-is_zero.false c.is_zero.ensures c.as_slice.ensures in
    let vector : IsVector net (naturals p) = is_vector net p c.in-Ok-open_vector.ensures.lengths some in
    inr (reads_more file_meaning _ _ c.in-Ok.net _ c.in-Ok.ensures.net (c.in-Ok.ensures.acceptable, inr (reads_before (vector_meaning c.in-Ok.net) _ _ _ _ c.in-Ok.ensures.same (reads_more (vector_meaning c.in-Ok.net) _ _ c.in-Ok-open_vector.against.p _ c.in-Ok-open_vector.ensures.ok (inl ((some, c.in_default.ensures.calculation), record { input = refl; output = refl }))))))

pub returns-then-is_weak-clause-means : goal.returns-then-is_weak-clause-means
returns-then-is_weak-clause-means g c = λ left.
    let net = c.in-Ok.net in
    let p = c.in-Ok-open_vector.against.p in
    let some = not_zero c.is_zero.result p c.as_slice.result.now c.if-is_zero.false c.is_zero.ensures c.as_slice.ensures in
    let vector : IsVector net (naturals p) = is_vector net p c.in-Ok-open_vector.ensures.lengths some in
    inr (reads_more file_meaning _ _ c.in-Ok.net _ c.in-Ok.ensures.net (c.in-Ok.ensures.acceptable, inr (reads_before (vector_meaning c.in-Ok.net) _ _ _ _ c.in-Ok.ensures.same (reads_more (vector_meaning c.in-Ok.net) _ _ c.in-Ok-open_vector.against.p _ c.in-Ok-open_vector.ensures.ok (inl (((c.in-Ok-weigh.sums, c.in-Ok-weigh.ensures.calculation), is_weak net p c.in-Ok-weigh.sums vector c.in-Ok-weigh.ensures.load c.in-Ok-weigh.ensures.served (sym c.is_weak.ensures ∙ c.if-is_weak.true)), record { input = refl; output = refl }))))))

pub returns-in-Ok-put_verdict-clause-means : goal.returns-in-Ok-put_verdict-clause-means
returns-in-Ok-put_verdict-clause-means g c = λ left.
    let net = c.in-Ok.net in
    let p = c.in-Ok-open_vector.against.p in
    let some = not_zero c.is_zero.result p c.as_slice.result.now c.if-is_zero.false c.is_zero.ensures c.as_slice.ensures in
    let vector : IsVector net (naturals p) = is_vector net p c.in-Ok-open_vector.ensures.lengths some in
    inr (reads_more file_meaning _ _ c.in-Ok.net _ c.in-Ok.ensures.net (c.in-Ok.ensures.acceptable, inr (reads_before (vector_meaning c.in-Ok.net) _ _ _ _ c.in-Ok.ensures.same (reads_more (vector_meaning c.in-Ok.net) _ _ c.in-Ok-open_vector.against.p _ c.in-Ok-open_vector.ensures.ok (inr ((c.in-Ok-weigh.sums, c.in-Ok-weigh.ensures.calculation), refuting net p c.in-Ok-weigh.sums _ _ c.shares.ensures.acceptable.network vector c.in-Ok-weigh.ensures.load c.in-Ok-weigh.ensures.served (sym c.is_weak.ensures ∙ c.if-is_weak.false) (refl, c.in-Ok-put_verdict.ensures.bytes)))))))

pub returns-clause-means : goal.returns-clause-means
returns-clause-means g c = λ left.
    let net = c.in-Ok.net in
    let p = c.in-Ok-open_vector.against.p in
    let some = not_zero c.is_zero.result p c.as_slice.result.now c.if-is_zero.false c.is_zero.ensures c.as_slice.ensures in
    let vector : IsVector net (naturals p) = is_vector net p c.in-Ok-open_vector.ensures.lengths some in
    inr (reads_more file_meaning _ _ c.in-Ok.net _ c.in-Ok.ensures.net (c.in-Ok.ensures.acceptable, inr (reads_before (vector_meaning c.in-Ok.net) _ _ _ _ c.in-Ok.ensures.same (reads_more (vector_meaning c.in-Ok.net) _ _ c.in-Ok-open_vector.against.p _ c.in-Ok-open_vector.ensures.ok (inr ((c.in-Ok-weigh.sums, c.in-Ok-weigh.ensures.calculation), refuting net p c.in-Ok-weigh.sums _ _ c.shares.ensures.acceptable.network vector c.in-Ok-weigh.ensures.load c.in-Ok-weigh.ensures.served (sym c.is_weak.ensures ∙ c.if-is_weak.false) (refl, c.in-Err-put_verdict.ensures.bytes)))))))
