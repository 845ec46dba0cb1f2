-- What is left to show of `start`.
use Rattle.std.proofs.Common.{◌≡◌, ap, subst, sym}
use Rattle.separation.specs.Calls.{Starts, ready}
use Rattle.separation.proofs.Calling.{starts}
use Rattle.separation.proofs.session.Session.start.Goals as goal

pub returns : goal.returns
returns c =
    let a = c.args.accepted in
    let value : record { accepted = a; machine = c.load.result } ≡ ready a = ap (λ m. record { accepted = a; machine = m }) c.load.ensures in
    record { value = value; promises = subst (Starts a) (sym value) (starts a) }
