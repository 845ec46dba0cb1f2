-- What becomes of a program's registers and counter. Memory and tables do not enter here.
use Rattle.std.specs.Prelude.{ℕ, ◌+◌, ◌%◌, ◌^◌, Bool, true, false, cond, not, ◌&&◌, ◌==◌}
use Rattle.isa.specs.declared.register.Register.{Register}
use Rattle.isa.specs.Registers.{blank, written}
use Rattle.hart.specs.declared.cause.Cause.{Cause}
use Rattle.hart.specs.declared.cause.Cause.TheVariants.{FetchMisaligned}
use Rattle.hart.specs.declared.context.State.{State}
use Rattle.hart.specs.declared.context.State.TheVariants.{Ready, Stopped}
use Rattle.hart.specs.declared.context.Context.{Context}

-- a program before its first instruction: registers 0, the counter at an address
abbrev pub fresh : ℕ → Context
fresh start = record { registers = blank; pc = start; state = Ready }

-- a program when its slot begins: as its last slot left it
abbrev pub begun : Context → Context
begun x = x

abbrev pub is_ready : State → Bool
is_ready Ready = true
is_ready (Stopped cause pc) = false

abbrev pub next_pc : Context → ℕ
next_pc x = (x.pc + 4) % 2 ^ 32

-- a program stops where it is, with its registers as they are
abbrev pub stopped : Context → Cause → Context
stopped x cause = record x { state = Stopped cause x.pc }

abbrev pub goes_on : Context → ℕ → Context
goes_on x pc = record x { pc = pc }

abbrev pub register_set : Context → Register → ℕ → Context
register_set x rd value = record x { registers = written x.registers rd value; pc = next_pc x }

-- a target that is no multiple of 4 stops the jump itself, and nothing is written
abbrev pub jumped : Context → Register → ℕ → Context
jumped x rd target = cond (target % 4 == 0) (record x { registers = written x.registers rd (next_pc x); pc = target }) (stopped x FetchMisaligned)

-- a taken branch to a target that is no multiple of 4 stops
abbrev pub misses_target : Bool → ℕ → Bool
misses_target taken target = taken && not (target % 4 == 0)

abbrev pub branch_context : Context → Bool → ℕ → Context
branch_context x taken target = cond (misses_target taken target) (stopped x FetchMisaligned) (goes_on x (cond taken target (next_pc x)))
