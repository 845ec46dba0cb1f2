-- What is left to show of `outcome`.
use Rattle.std.proofs.Common.{refl}
use Rattle.kernel.proofs.report.Report.outcome.Goals as goal

pub returns-in-Ready-clause-text : goal.returns-in-Ready-clause-text
returns-in-Ready-clause-text c = rw (
  c.in-Ready.is,
  c.put-in-Ready-3.ensures.text,
  c.put_number-in-Ready-2.ensures.text,
  c.put-in-Ready-2.ensures.text,
  c.put_number-in-Ready.ensures.text,
  c.put-in-Ready.ensures.text,
  c.put_number.ensures.text,
  c.put.ensures.text,
  c.ending_in-line.ensures.text,
) refl
