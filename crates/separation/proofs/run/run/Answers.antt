-- What is left to show of `run`.
use Rattle.std.proofs.Common.{◌≡◌, ap, ◌∙◌, arith}
use Rattle.checker.specs.declared.Accepted.{Accepted}
use Rattle.kernel.specs.Machine.{after_slot}
use Rattle.kernel.specs.Reports.{slot_report}
use Rattle.separation.specs.declared.session.Session.{Session}
use Rattle.separation.specs.Calls.{first, in_words}
use Rattle.separation.proofs.Calling.{finished_promises, finished_value, last_more, last_none, slots_more, slots_none, system_then}
use Rattle.separation.proofs.run.run.Goals as goal

pub loop-turn-init : goal.loop-turn-init
loop-turn-init c =
    let e = c.start-session.ensures.value in
    record { accepted = ap (λ (v : Session). v.accepted) e; system = ap (λ (v : Session). in_words v c.args.words.now) e ∙ slots_none _ _; last = last_none _ _ }

pub loop-turn-preserved : goal.loop-turn-preserved
loop-turn-preserved c =
    let a = c.args.accepted in
    let now = in_words c.loop-turn.session c.loop-turn.words in
    let start = first a c.args.words.now in
    let e = c.run_slot-last.ensures in
    let inv = c.loop-turn.invariant in
    record {
      accepted = e.accepted ∙ inv.accepted;
      system = slots_more a c.loop-turn._turn start now _ inv.system (e.system ∙ ap (λ (a : Accepted). after_slot a now) inv.accepted);
      last = last_more a c.loop-turn._turn start now _ inv.system (e.value ∙ ap (λ (a : Accepted). slot_report a.plan now) inv.accepted);
    }

pub returns : goal.returns
returns c =
    let l = c.loop-turn in
    let i = l.invariant in
    let all : c.loop-turn._turn ≡ c.args.count = omega arith in
    record {
      value = finished_value c.args.accepted c.args.words.now l.words l.session c.args.count l._turn l.last all i.accepted i.system i.last;
      words = ap (λ z. z.words) (system_then c.args.accepted c.args.words.now l.words l.session c.args.count l._turn l.last all i.accepted i.system i.last);
      promises = finished_promises c.args.accepted c.args.words.now l.words l.session c.args.count l._turn l.last all i.accepted i.system i.last (omega arith);
    }
