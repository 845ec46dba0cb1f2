-- What is left to show of `run_slot`.
use Rattle.std.proofs.Common.{refl}
use Rattle.kernel.specs.Machine.{after_slot, system}
use Rattle.separation.proofs.Calling.{slot_keeps, slot_unseen, system_is}
use Rattle.separation.proofs.session.Session.run_slot.Goals as goal

pub returns : goal.returns
returns c =
    let a = c.args.self.now.accepted in
    let s = system c.args.self.now.machine c.args.words.now in
    let t = system c.run_slot.new.self c.run_slot.new.words in
    let e = system_is c.run_slot.new.self c.run_slot.new.words (after_slot a s) c.run_slot.ensures.machine c.run_slot.ensures.words in
    record { value = c.run_slot.ensures.value; accepted = refl; system = e; promises = slot_keeps a s t e; unseen = slot_unseen a s t e }
