-- A report of the counts of a link, as a copy of the event core.
use Rattle.mp_model.specs.EventCore.{Copy}
use Rattle.mp_press.specs.Queues.{naturals, AreCounts}
use Rattle.mp_round.specs.declared.report.Report.TheInside.{Inside}

-- This is the copy that a report is.
abbrev pub report_of : Inside → Copy
report_of report = record { period = report.period; counts = naturals report.counts.items }

-- The counts of a report can be weighed.
abbrev pub HasReport : Inside → Type 0
HasReport report = AreCounts report.counts.items
