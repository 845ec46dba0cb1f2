-- The line that is printed of a slot: clocks and counts in decimal, addresses in eight hexadecimal digits.
use Rattle.std.specs.Prelude.{◌≡◌, ℕ, ◌-◌, ◌^◌, ◌<◌, false, List, ◌++◌, length, replicate, codes, decimal}
use Rattle.std.specs.Fmt.{digits}
use Rattle.hart.specs.Causes.{cause_number}
use Rattle.hart.specs.declared.context.State.{State}
use Rattle.hart.specs.declared.context.State.TheVariants.{Ready, Stopped}
use Rattle.kernel.specs.declared.report.Report.{Report}

-- the hexadecimal digits of an address, with zeros before them up to eight
abbrev pub address_text : ℕ → List ℕ
address_text n = replicate (8 - length (digits 16 false n)) 48 ++ digits 16 false n

-- an address has eight of them
abbrev pub EightDigits : Type 0
EightDigits = (n : ℕ) → n < 2 ^ 32 → length (address_text n) ≡ 8

-- a program that is ready: when its slot began and ended, and how far it came; one that stopped: why and where
abbrev pub outcome_text : Report → State → List ℕ
outcome_text r Ready =
    codes "from " ++ (decimal r.begin ++ (codes " ended " ++ (decimal r.end ++ (codes " instructions " ++ (decimal r.instructions ++ (codes " pc " ++ address_text r.pc))))))
outcome_text r (Stopped cause pc) = codes "stopped " ++ (decimal (cause_number cause) ++ (codes " at " ++ address_text pc))

abbrev pub report_text : Report → List ℕ
report_text r = codes "slot " ++ (decimal r.slot ++ (codes " partition " ++ (decimal r.partition ++ (codes " " ++ outcome_text r r.state))))
