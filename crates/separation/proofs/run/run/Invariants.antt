-- What the loop of `run` keeps.
use Rattle.std.proofs.Common.{◌≡◌}
use Rattle.kernel.specs.Machine.{after_slots}
use Rattle.separation.specs.Calls.{first, in_words, last_report}
use Rattle.separation.proofs.run.run.Given as goal

abbrev pub invariant-loop-turn : goal.invariant-loop-turn
invariant-loop-turn l = record {
  accepted : l.session.accepted ≡ l.fn.accepted;
  system : in_words l.session l.words ≡ after_slots l.fn.accepted l._turn (first l.fn.accepted l.initial.words);
  last : l.last ≡ last_report l.fn.accepted l._turn (first l.fn.accepted l.initial.words);
}
