-- The words of a command line.
use Rattle.std.specs.Prelude.{◌≡◌, ℕ, ◌<◌, ◌≤◌, ◌⊎◌, Bool, true, false, eqb, List, length, string_bytes, codes, Decides, String, HoldsAt, Result, Ok, Err}
use Rattle.std.specs.Borrow.{Bor}
use Rattle.std.specs.List.{starts_with}
use Rattle.std.specs.declared.alloc.Global.{Global}
use Rattle.console.specs.declared.problem.Problem.{Problem}
use Rattle.console.specs.declared.problem.Problem.TheVariants.{CommandLine, MissingArgument, SurplusArgument, UnexpectedOption, NotNumber, Unreadable, SlotsLength, NoMemory}

-- the word at a place has these bytes
abbrev pub IsWordAt : List (String Global) → ℕ → List ℕ → Type 0
IsWordAt line at bytes = (at < length line) × HoldsAt (λ word. string_bytes word ≡ bytes) line at

-- whether the first word asks the program to tell of itself
abbrev pub AsksOfItself : List (String Global) → Bool → Type 0
AsksOfItself line r = Decides r (IsWordAt line 0 (codes "--help") ⊎ IsWordAt line 0 (codes "--version"))

-- it tells that the words cannot be read, or that no memory is left for them
abbrev pub IsUnheard : Problem → Type 0
IsUnheard (CommandLine e) = Unit {0}
IsUnheard (NoMemory e) = Unit {0}
IsUnheard _ = ⊥

-- a word is an option if it begins with a hyphen
abbrev pub is_option : List ℕ → Bool
is_option word = starts_with eqb word (codes "-")

-- the word at a place is an option
abbrev pub IsOptionAt : List (String Global) → ℕ → Type 0
IsOptionAt line at = (at < length line) × HoldsAt (λ word. is_option (string_bytes word) ≡ true) line at

-- the word at a place if it is there and no option; else the problem tells which of the two it is, or that no memory is left to tell of the option
abbrev pub NamesFile : List (String Global) → ℕ → List ℕ → Result (Bor (List ℕ)) Problem → Type 0
NamesFile line at name (Ok text) = IsWordAt line at text.now × (is_option text.now ≡ false)
NamesFile line at name (Err (MissingArgument missing)) = (length line ≤ at) × (missing.now ≡ name)
NamesFile line at name (Err (UnexpectedOption text)) = IsWordAt line at (string_bytes text) × (is_option (string_bytes text) ≡ true)
NamesFile line at name (Err (NoMemory e)) = IsOptionAt line at
NamesFile line at name (Err _) = ⊥

-- it tells that this word is no number from 0 to the most, or that no memory is left to tell
abbrev pub IsNoNumber : List ℕ → ℕ → List ℕ → Problem → Type 0
IsNoNumber name most word (NotNumber n m text) = (n.now ≡ name) × (m ≡ most) × (string_bytes text ≡ word)
IsNoNumber name most word (NoMemory e) = Unit {0}
IsNoNumber name most word _ = ⊥

-- it tells of the word at this place, or that no memory is left to tell
abbrev pub IsSurplus : List (String Global) → ℕ → Problem → Type 0
IsSurplus line at (SurplusArgument text) = HoldsAt (λ word. string_bytes word ≡ string_bytes text) line at
IsSurplus line at (NoMemory e) = Unit {0}
IsSurplus line at _ = ⊥

-- it tells that the file of this name cannot be read, or that no memory is left to tell
abbrev pub IsUnreadable : List ℕ → Problem → Type 0
IsUnreadable path (Unreadable name e) = string_bytes name ≡ path
IsUnreadable path (NoMemory e) = Unit {0}
IsUnreadable path _ = ⊥

-- the same, or that the file of this name has other than four bytes
abbrev pub IsNoCount : List ℕ → Problem → Type 0
IsNoCount path (SlotsLength name) = string_bytes name ≡ path
IsNoCount path problem = IsUnreadable path problem

-- whether a problem is of how the program was called: its message tells the usage too
abbrev pub is_of_usage : Problem → Bool
is_of_usage (MissingArgument name) = true
is_of_usage (SurplusArgument text) = true
is_of_usage (UnexpectedOption text) = true
is_of_usage (NotNumber name most text) = true
is_of_usage _ = false
