-- The text of a line so far. It is written from its end towards its beginning, so it is what stands from `start` on.
use Rattle.std.specs.Prelude.{ℕ, List, drop}
use Rattle.kernel.specs.declared.line.Line.{Line}

abbrev pub line_text : Line → List ℕ
line_text l = drop l.start l.bytes
