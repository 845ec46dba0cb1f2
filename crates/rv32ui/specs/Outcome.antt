-- What a row of an operation puts into registers, runs, and reads.
use Rattle.std.specs.Prelude.{ℕ, ◌+◌, ◌-◌, ◌%◌, ◌^◌, List, [], ◌∷◌, cond, ◌==◌, Option, Some, None}
use Rattle.rv32ui.specs.declared.operation.Form.{Form}
use Rattle.rv32ui.specs.declared.operation.Form.TheVariants.{Registers, Constant, Branch, Upper, Relative}
use Rattle.rv32ui.specs.declared.operation.Operation.{Operation}
use Rattle.rv32ui.specs.declared.row.Row.{Row}
use Rattle.rv32ui.specs.Roles.{roles_of}
use Rattle.rv32ui.specs.Words.{operand_format, branch_format, upper_format}

-- after a restart the operands are put into their registers, and then a value into register 0
pub record Prepared {S : Type 0} (restarts : S → S → Type 0) (gives : S → ℕ → ℕ → S → Type 0) (row : Row) (core now : S) : Type 0 where
  pub fresh : S
  pub with_first : S
  pub with_both : S
  pub restarted : restarts core fresh
  pub first : gives fresh (roles_of row.0).first row.2 with_first
  pub second : gives with_first (roles_of row.0).second row.3 with_both
  pub last : gives with_both 0 (2 ^ 32 - 1) now

-- the words, where the second of two is SRAI or ADDI
abbrev pub words_by : Form → ℕ → Row → List ℕ
words_by Registers fixed row = let roles = roles_of row.0 in operand_format fixed roles.target roles.first roles.second ∷ []
words_by Constant fixed row = let roles = roles_of row.0 in operand_format fixed roles.target roles.first row.3 ∷ []
words_by Branch fixed row = let roles = roles_of row.0 in branch_format fixed roles.first roles.second ∷ []
words_by Upper fixed row =
    let roles = roles_of row.0 in upper_format fixed roles.target row.2 ∷ operand_format 0x40005013 roles.target roles.target row.3 ∷ []
words_by Relative fixed row =
    let roles = roles_of row.0 in upper_format fixed roles.target row.2 ∷ operand_format 0x13 roles.target roles.target row.3 ∷ []

abbrev pub words_of : Operation → Row → List ℕ
words_of operation row = words_by operation.form operation.fixed row

-- what is read after them: what the target holds; of a branch 1 where the counter is 16 bytes past `start`, where it was, and else 0;
-- of AUIPC how far what the target holds is past start + 12, where the suite's third instruction ends
abbrev pub reading : Form → ℕ → ℕ → ℕ → ℕ
reading Registers start counter held = held
reading Constant start counter held = held
reading Branch start counter held = cond (counter == (start + 16) % 2 ^ 32) 1 0
reading Upper start counter held = held
reading Relative start counter held = (held + (2 ^ 32 - (start + 12) % 2 ^ 32)) % 2 ^ 32

-- none where the words did not run
abbrev pub told : Option Unit → ℕ → Option ℕ
told None value = None
told (Some _) value = Some value
