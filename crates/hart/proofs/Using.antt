-- Which tables a step uses.
use Rattle.std.proofs.Common.{◌≡◌, ℕ, ◌+◌, ◌/◌, ◌%◌, false, List, Some, None, Option, refl, arith}
use Rattle.std.proofs.lemmas.Bool.{true≢false}
use Rattle.costs.specs.Costs.{instruction}
use Rattle.costs.specs.Cycles.{cycles, plain, walk_cycles}
use Rattle.words.specs.Frames.{word}
use Rattle.isa.specs.declared.instruction.Instruction.{Instruction}
use Rattle.isa.specs.declared.instruction.Instruction.TheVariants.{Lui, Auipc, Jal, Jalr, Branch, Load, Store, RegisterImmediate, RegisterRegister, ReadCsr}
use Rattle.isa.specs.Decoding.{decoded}
use Rattle.paging.specs.declared.access.Access.{Access}
use Rattle.paging.specs.declared.access.Access.TheVariants.{Fetch}
use Rattle.paging.specs.declared.physical.PhysicalAddress.{PhysicalAddress}
use Rattle.hart.specs.declared.context.State.TheVariants.{Ready}
use Rattle.hart.specs.declared.context.Context.{Context}
use Rattle.hart.specs.declared.step.Core.{Core}
use Rattle.hart.specs.Architecture.{Outcome}
use Rattle.hart.specs.Core.{Step, after_lookup, data_access, executed, instruction_step, leads_to, looked_up, program_step, stepped}
use Rattle.hart.specs.Steps.{UsesTables, fetched, uses_cache, uses_predictor}
use Rattle.hart.proofs.Cases.{access_cases, by_state, fetch_cases}
use Rattle.hart.proofs.Stepping.{apart}

-- what becomes of the tables by what was decoded, and what is used by what needs none
record Leaves (core : Core) (o : Option Instruction) (s : Step) : Type 0 where
  cache : uses_cache o ≡ false → s.core.tables.cache ≡ core.tables.cache
  predictor : uses_predictor o ≡ false → s.core.tables.predictor ≡ core.tables.predictor
  plain : uses_cache o ≡ false → uses_predictor o ≡ false → s.used ≡ plain

module _ (core : Core) (ws : List ℕ) where
  access_predictor : (access : Access) (bytes address : ℕ) (at : PhysicalAddress → Outcome) → (data_access core ws access bytes address at).core.tables.predictor ≡ core.tables.predictor
  access_predictor access bytes address at =
      access_cases (λ s. s.core.tables.predictor ≡ core.tables.predictor) core ws access bytes address at (λ _ _ _. refl) (λ _ _. refl) (λ _. refl)

  -- what uses no table
  none_used : (o : Option Instruction) (y : Context) → Leaves core o (leads_to core ws y)
  none_used o y = record { cache = λ _. refl; predictor = λ _. refl; plain = λ _ _. refl }

  leaves : (o : Option Instruction) → Leaves core o (instruction_step core ws o)
  unfolding executed
  leaves None = none_used None _
  leaves (Some (Lui rd value)) = none_used (Some (Lui rd value)) _
  leaves (Some (Auipc rd value)) = none_used (Some (Auipc rd value)) _
  leaves (Some (Jal rd offset)) = none_used (Some (Jal rd offset)) _
  leaves (Some (Jalr rd base offset)) = none_used (Some (Jalr rd base offset)) _
  leaves (Some (RegisterImmediate operation rd source value)) = none_used (Some (RegisterImmediate operation rd source value)) _
  leaves (Some (RegisterRegister operation rd left right)) = none_used (Some (RegisterRegister operation rd left right)) _
  leaves (Some (ReadCsr rd csr)) = none_used (Some (ReadCsr rd csr)) _
  leaves (Some (Branch condition left right offset)) = record { cache = λ _. refl; predictor = λ u. absurd (true≢false u); plain = λ _ u. absurd (true≢false u) }
  leaves (Some (Load width rd base offset)) = record { cache = λ u. absurd (true≢false u); predictor = λ _. access_predictor _ _ _ _; plain = λ u _. absurd (true≢false u) }
  leaves (Some (Store width base source offset)) = record { cache = λ u. absurd (true≢false u); predictor = λ _. access_predictor _ _ _ _; plain = λ u _. absurd (true≢false u) }

module _ (core : Core) (ws : List ℕ) where
  -- the same of a step, where a ready program has used the look-up of its page too
  record StepLeaves (o : Option Instruction) (s : Step) : Type 0 where
    cache : uses_cache o ≡ false → s.core.tables.cache ≡ core.tables.cache
    predictor : uses_predictor o ≡ false → s.core.tables.predictor ≡ core.tables.predictor
    plain : core.context.state ≡ Ready → uses_cache o ≡ false → uses_predictor o ≡ false →
        cycles s.used ≡ instruction + walk_cycles (looked_up core ws core.context.pc Fetch).walked

  program_leaves : StepLeaves (decoded (fetched core ws)) (program_step core.context.state core ws)
  program_leaves = by_state (StepLeaves (decoded (fetched core ws))) core ws core.context.state
      (λ _. fetch_cases (StepLeaves (decoded (fetched core ws))) core ws
      (λ _. record { cache = λ _. refl; predictor = λ _. refl; plain = λ _ _ _. omega arith })
      (λ frame e.
      let rest = leaves (after_lookup core ws core.context.pc Fetch) ws (decoded (word ws frame (core.context.pc % 4096 / 4))) in
      rw e (record { cache = rest.cache; predictor = rest.predictor; plain = λ _ u v. rw (rest.plain u v) (omega arith) })))
      (λ cause pc e. record { cache = λ _. refl; predictor = λ _. refl; plain = λ ready. absurd (apart core.context.state cause pc ready e) })

pub uses_tables : UsesTables
unfolding stepped
uses_tables core ws = let s = program_leaves core ws in record { cache = s.cache; predictor = s.predictor; plain = s.plain }
