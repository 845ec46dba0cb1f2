-- What is left to show of `new`.
use Rattle.std.proofs.Common.{refl}
use Rattle.conformance.proofs.machine.Machine.new.Goals as goal

pub returns : goal.returns
returns c = rw (c.new-2.ensures, c.new.ensures, c.add_page-2.ensures, c.add_page.ensures, c.lay_out.ensures) refl
