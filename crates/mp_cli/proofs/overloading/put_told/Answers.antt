use Rattle.std.proofs.Common.{◌≡◌, ◌++◌, refl}
use Rattle.std.proofs.lemmas.Result.{err_from_is_err_and}
use Rattle.mp_cert.specs.Texts.{vector_text}
use Rattle.mp_edge.specs.Outside.{Puts}
use Rattle.mp_edge.proofs.Told.{Tells-weaker, Tells-then}
use Rattle.mp_edge.proofs.Gains.{GainsPrefix-longer}
use Rattle.mp_cli.specs.Overloading.{growth_line, periods_line}
use Rattle.mp_cli.proofs.MessageLemmas.{puts_behind, cause_within}
use Rattle.mp_cli.proofs.overloading.put_told.Goals as goal

pub returns-in_err-put_lines : goal.returns-in_err-put_lines
returns-in_err-put_lines g c =
    let p = err_from_is_err_and c.from_residual.result c.from_residual.ensures.1 in
    let first = growth_line c.args.told.rate.per c.args.told.rate.lost ++ periods_line c.args.told.sum c.args.told.least in
    let more = vector_text c.args.against.now.p in
    rw p.1 (record {
      bytes = Tells-weaker _ _ _ _ (λ before after gain. GainsPrefix-longer first (first ++ more) before after (more, refl) gain) c.in_err-put_lines.ensures.bytes;
      cause = record { later = c.in_err-put_lines.ensures.cause.later; failed = c.in_err-put_lines.ensures.cause.failed };
    })

pub returns : goal.returns
returns g c =
    let first = growth_line c.args.told.rate.per c.args.told.rate.lost ++ periods_line c.args.told.sum c.args.told.least in
    let more = vector_text c.args.against.now.p in
    record {
      bytes = Tells-then (g.Out.Sink.held c.args.out.now) (g.Out.Sink.held c.put_lines.new.out) (g.Out.Sink.held c.print_against.new.out) (λ x y. y ≡ x ++ first) (Puts c.print_against.result more) (Puts c.print_against.result (first ++ more))
          (λ x y z before then. puts_behind c.print_against.result first more x y z before then)
          c.in_ok-put_lines.ensures.bytes c.print_against.ensures.bytes;
      cause = cause_within c.print_against.result (g.Out.Sink.faults c.args.out.now) (g.Out.Sink.faults c.put_lines.new.out) (g.Out.Sink.faults c.print_against.new.out) c.in_ok-put_lines.ensures.cause.later c.print_against.ensures.cause;
    }
