-- For how many slots a program is asked to run.
use Rattle.std.specs.Prelude.{◌≡◌, ◌≢◌, ℕ, ◌+◌, ◌≤◌, ◌⊎◌, ◌-◌, ◌^◌, List, length, true, false, string_bytes, codes, String, Result, Ok, Err, IfErr}
use Rattle.std.specs.Str.Parse.{ParsesUnsigned}
use Rattle.std.specs.declared.alloc.Global.{Global}
use Rattle.console.specs.Line.{IsNoCount, IsNoNumber, IsOptionAt, IsWordAt, is_option}
use Rattle.console.specs.declared.problem.Problem.{Problem}
use Rattle.console.specs.declared.problem.Problem.TheVariants.{MissingArgument, UnexpectedOption, NoMemory}
use Rattle.console.specs.declared.slots.Slots.{Slots}
use Rattle.console.specs.declared.slots.Slots.TheVariants.{File, Number}

-- the file or the number that stands at a place, or the word that is missing there, or the option that is no file's name, or that no memory is left to
-- tell of it
abbrev pub IsNamed : List (String Global) → ℕ → Result Slots Problem → Type 0
IsNamed line at (Ok (File path)) = IsWordAt line at path.now × (is_option path.now ≡ false)
IsNamed line at (Ok (Number text)) = IsWordAt line at (codes "--slots") × IsWordAt line (at + 1) text.now
IsNamed line at (Err (MissingArgument name)) =
    ((length line ≤ at) × (name.now ≡ codes "SLOTS")) ⊎ ((length line ≡ at + 1) × IsWordAt line at (codes "--slots") × (name.now ≡ codes "N"))
IsNamed line at (Err (UnexpectedOption text)) = IsWordAt line at (string_bytes text) × (string_bytes text ≢ codes "--slots") × (is_option (string_bytes text) ≡ true)
IsNamed line at (Err (NoMemory e)) = IsOptionAt line at × (IsWordAt line at (codes "--slots") → ⊥)
IsNamed line at (Err _) = ⊥

-- the words that name it
abbrev pub width : Slots → ℕ
width (File path) = 1
width (Number text) = 2

-- the number that the text says in decimal, where it says one; of what a file holds nothing can be said, but a problem names it
abbrev pub Counts : Slots → Result ℕ Problem → Type 0
Counts (File path) r = IfErr r (IsNoCount path.now)
Counts (Number text) r = ParsesUnsigned 32 10 text.now r × IfErr r (IsNoNumber (codes "--slots") (2 ^ 32 - 1) text.now)
