-- What is left to show of `run_with`.
use Rattle.std.proofs.Common.{◌≡◌, length, subst, sym, ◌∙◌, arith}
use Rattle.separation.specs.Calls.{Runs}
use Rattle.std.specs.Vec.{with_items}
use Rattle.std.proofs.lemmas.List.{with_items_is}
use Rattle.admission.specs.Admitted.{OpenedSo, OpensWith}
use Rattle.whole_run.proofs.Files.{ran}
use Rattle.whole_run.proofs.run_with.Goals as goal

pub returns-in-Ok : goal.returns-in-Ok
returns-in-Ok c =
    let lent = c.args.words.items in
    let opened : OpenedSo c.args.plan.now lent c.args.image.now c.in-Ok.opened = subst (OpensWith c.args.plan.now lent c.args.image.now) c.in-Ok.is c.open_with.ensures in
    let vec = c.in-Ok.opened.words in
    let as_many : length c.run-finished.new.words ≡ vec.len = grind (arith, c.run-finished.auto, c.deref_mut.ensures, c.in-Ok.opened.words.ok) in
    let is = with_items_is vec c.run-finished.new.words as_many in
    ran c.args.plan.now lent c.args.image.now c.deref_mut.result.now c.args.count c.in-Ok.opened
    (record { finished = c.run-finished.result; words = with_items vec c.run-finished.new.words }) opened
    c.deref_mut.ensures.value c.run-finished.ensures.value (is ∙ c.run-finished.ensures.words)
    (subst (λ ws. Runs c.in-Ok.opened.accepted c.deref_mut.result.now c.args.count ws c.run-finished.result) (sym is) c.run-finished.ensures.promises)
