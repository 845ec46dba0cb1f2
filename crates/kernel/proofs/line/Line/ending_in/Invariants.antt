-- What the loop of `ending_in` keeps.
use Rattle.std.proofs.Common.{◌≡◌, ◌+◌, ◌-◌, length, drop}
use Rattle.kernel.specs.ReportText.{address_text}
use Rattle.kernel.proofs.Printed.{last_digits}
use Rattle.kernel.proofs.line.Line.ending_in.Given as goal

abbrev pub invariant-digits : goal.invariant-digits
invariant-digits l = (l.start + l.counter ≡ 160) × (length l.bytes ≡ 160) × (last_digits (8 - l.counter) l.rest (drop l.start l.bytes) ≡ address_text l.fn.address)
