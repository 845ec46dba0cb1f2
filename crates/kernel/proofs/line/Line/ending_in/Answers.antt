-- What is left to show of `ending_in`.
use Rattle.std.proofs.Common.{◌≡◌, suc, ◌+◌, ◌-◌, refl, ◌∙◌, arith, length-set}
use Rattle.std.proofs.lemmas.List.{drop-set}
use Rattle.kernel.proofs.Printed.{last_eight}
use Rattle.kernel.proofs.line.Line.ending_in.Goals as goal

pub digits-init : goal.digits-init
digits-init c = (omega arith, refl, last_eight c.args.address c.ranges.address.fits)

pub digits-preserved : goal.digits-preserved
digits-preserved c =
    let l = c.digits in
    let more : 8 - l.counter ≡ suc (8 - (l.counter + 1)) = omega arith in
    let next : l.start - 1 + 1 ≡ l.start = omega arith in (
      omega arith,
      length-set l.bytes _ _ ∙ l.invariant.1,
      rw (drop-set l.bytes (l.start - 1) c.hexadecimal_digit.result (omega (arith, l.invariant)), next, c.hexadecimal_digit.ensures) (rw more at l.invariant.2),
    )

pub returns-clause-text : goal.returns-clause-text
returns-clause-text c = let none : 8 - c.digits.counter ≡ 0 = omega arith in rw none at c.digits.invariant.2
