use Rattle.std.proofs.Common.{◌≡◌, ◌++◌, refl}
use Rattle.std.proofs.lemmas.Result.{err_from_is_err_and}
use Rattle.mp_edge.specs.Outside.{Puts}
use Rattle.mp_edge.proofs.Told.{Tells-weaker, Tells-then}
use Rattle.mp_edge.proofs.Gains.{GainsPrefix-longer}
use Rattle.mp_cli.specs.Overloading.{growth_line, periods_line}
use Rattle.mp_cli.proofs.MessageLemmas.{puts_behind, cause_within}
use Rattle.mp_cli.proofs.overloading.put_lines.Goals as goal

pub returns-in_err-put_growth : goal.returns-in_err-put_growth
returns-in_err-put_growth g c =
    let p = err_from_is_err_and c.from_residual.result c.from_residual.ensures.1 in
    let first = growth_line c.args.told.rate.per c.args.told.rate.lost in
    let more = periods_line c.args.told.sum c.args.told.least in
    rw p.1 (record {
      bytes = Tells-weaker _ _ _ _ (λ before after gain. GainsPrefix-longer first (first ++ more) before after (more, refl) gain) c.in_err-put_growth.ensures.bytes;
      cause = record { later = c.in_err-put_growth.ensures.cause.later; failed = c.in_err-put_growth.ensures.cause.failed };
    })

pub returns : goal.returns
returns g c =
    let first = growth_line c.args.told.rate.per c.args.told.rate.lost in
    let more = periods_line c.args.told.sum c.args.told.least in
    record {
      bytes = Tells-then (g.Out.Sink.held c.args.out.now) (g.Out.Sink.held c.put_growth.new.out) (g.Out.Sink.held c.put_run.new.out) (λ x y. y ≡ x ++ first) (Puts c.put_run.result more) (Puts c.put_run.result (first ++ more))
          (λ x y z before then. puts_behind c.put_run.result first more x y z before then)
          c.in_ok-put_growth.ensures.bytes c.put_run.ensures.bytes;
      cause = cause_within c.put_run.result (g.Out.Sink.faults c.args.out.now) (g.Out.Sink.faults c.put_growth.new.out) (g.Out.Sink.faults c.put_run.new.out) c.in_ok-put_growth.ensures.cause.later c.put_run.ensures.cause;
    }
