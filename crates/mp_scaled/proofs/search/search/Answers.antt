use Rattle.std.proofs.Common.{◌∙◌}
use Rattle.mp_scaled.proofs.Searching.{scaled_found, scaled_none, scaled_fault, found_fault}
use Rattle.mp_scaled.proofs.search.search.Goals as goal

pub returns-in-Ok : goal.returns-in-Ok
returns-in-Ok c =
    scaled_found c.args.net.now c.args.d c.too_great-limit.result c.in-Ok-Some.first c.too_great-limit.ensures.value (rw c.in-Ok-Some.field-0-is at c.in-Ok-Some.ensures) ∙ c.in-Ok.ensures

pub returns-in-Err-halve : goal.returns-in-Err-halve
returns-in-Err-halve c =
    found_fault c.in-Err-halve.fault _ _
    (scaled_found c.args.net.now c.args.d c.too_great-limit.result c.in-Ok-Some.first c.too_great-limit.ensures.value (rw c.in-Ok-Some.field-0-is at c.in-Ok-Some.ensures)) c.in-Err-halve.ensures

pub returns-in-Ok-None : goal.returns-in-Ok-None
returns-in-Ok-None c = scaled_none c.args.net.now c.args.d (rw c.in-Ok-None.field-0-is at c.in-Ok-None.ensures)

pub returns-in-Err : goal.returns-in-Err
returns-in-Err c = scaled_fault c.args.net.now c.args.d c.in-Err.fault c.in-Err.ensures
