-- What is left to show of `laws`.
use Rattle.tables.proofs.Lines.{access_costs, comes_in, frame_is_tag, frames_conflict}
use Rattle.tables.proofs.Pages.{remembers_pages}
use Rattle.tables.proofs.Sums.{charges}
use Rattle.tables.proofs.Told.{remembers, write_backs}
use Rattle.tables.proofs.Truth.{coherence, look_ups}
use Rattle.tables.proofs.Turns.{counters_stay, counts, loops_left, loops_predicted}
use Rattle.tables.proofs.Worked.{worked}
use Rattle.tables.proofs.laws.laws.Goals as goal

pub returns : goal.returns
returns c = record {
  costs = access_costs;
  tags = frame_is_tag;
  hits = comes_in;
  rows = remembers;
  charges = charges;
  writebacks = write_backs;
  conflicts = frames_conflict;
  loops = loops_predicted;
  exits = loops_left;
  counts = counts;
  counters = counters_stay;
  lookups = look_ups;
  pages = remembers_pages;
  coherence = coherence;
  example = worked;
}
