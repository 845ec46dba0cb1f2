-- The core does what the architecture does.
use Rattle.std.proofs.Common.{◌≡◌, ℕ, ◌/◌, ◌%◌, List, Some, None, Ok, Err, Option, sym, refl, ap, ◌∙◌}
use Rattle.isa.specs.declared.instruction.Instruction.{Instruction}
use Rattle.isa.specs.Decoding.{decoded}
use Rattle.isa.specs.Effects.{Effect, sets, jumps, branches, loads, stores, effect_of}
use Rattle.paging.specs.declared.access.Access.{Access}
use Rattle.paging.specs.declared.access.Access.TheVariants.{Fetch}
use Rattle.paging.specs.declared.physical.PhysicalAddress.{PhysicalAddress}
use Rattle.paging.specs.Accesses.{page_fault, physical_in}
use Rattle.paging.specs.Mapping.{Reaches}
use Rattle.paging.specs.Walks.{translated}
use Rattle.paging.proofs.Reached.{translates}
use Rattle.tables.specs.declared.Tables.{Tables}
use Rattle.tables.specs.Coherent.{Coherent, reached, reached_in}
use Rattle.tables.proofs.Truth.{coherence}
use Rattle.words.specs.Frames.{word}
use Rattle.hart.specs.declared.context.State.{State}
use Rattle.hart.specs.declared.context.State.TheVariants.{Ready, Stopped}
use Rattle.hart.specs.declared.step.Core.{Core}
use Rattle.hart.specs.Core.{Step, after_lookup, data_access, executed, fetch_step, instruction_step, looked_up, program_step, stepped}
use Rattle.hart.specs.Architecture.{Outcome, access_does, architecture, does, fetch_does, instruction_does, program_does}
use Rattle.hart.specs.Laws.{Agreement}
use Rattle.hart.proofs.Cases.{access_cases, fetch_cases}

-- what a step leaves of program and memory
record Same (s : Step) (o : Outcome) : Type 0 where
  context : s.core.context ≡ o.context
  words : s.words ≡ o.words

-- a core with other tables, whose TLB answers as a walk would: the architecture asks for none of them
module _ (core : Core) (ws : List ℕ) (t : Tables) (h : Coherent t.tlb ws core.root) where
  abbrev with_tables : Core
  with_tables = record core { tables = t }

  truth : (address : ℕ) (access : Access) → reached (looked_up with_tables ws address access) address access ≡ translated ws core.root address access
  truth address access = (coherence.find t.tlb ws core.root (address / 4096) access h).translates address refl

  -- where the look-up finds a frame, translation gives its place, and else the fault
  granted : (address : ℕ) (access : Access) (frame : ℕ) → (looked_up with_tables ws address access).frame ≡ Some frame →
      translated ws core.root address access ≡ Ok (physical_in frame address)
  granted address access frame e = sym (truth address access) ∙ ap (λ o. reached_in o address access) e

  -- that place lies in a frame that a page of the root maps to
  pub found_reaches : (address : ℕ) (access : Access) (frame : ℕ) → (looked_up with_tables ws address access).frame ≡ Some frame →
      Reaches ws core.root address access (physical_in frame address)
  found_reaches address access frame e =
      (translates ws core.root address access (translated ws core.root address access) refl).reaches (physical_in frame address) (granted address access frame e)

  denied : (address : ℕ) (access : Access) → (looked_up with_tables ws address access).frame ≡ None → translated ws core.root address access ≡ Err (page_fault access)
  denied address access e = sym (truth address access) ∙ ap (λ o. reached_in o address access) e

  access_same : (access : Access) (bytes address : ℕ) (at : PhysicalAddress → Outcome) →
      Same (data_access with_tables ws access bytes address at) (access_does core ws access bytes address at)
  access_same access bytes address at =
      access_cases (λ s. Same s (access_does core ws access bytes address at)) with_tables ws access bytes address at
      (λ frame a e. rw (a, granted address access frame e) (record { context = refl; words = refl }))
      (λ a e. rw (a, denied address access e) (record { context = refl; words = refl }))
      (λ a. rw a (record { context = refl; words = refl }))

  executed_same : (d : Effect) → Same (executed with_tables ws d) (does core ws d)
  unfolding executed
  executed_same (sets rd value) = record { context = refl; words = refl }
  executed_same (jumps rd target) = record { context = refl; words = refl }
  executed_same (branches taken target) = record { context = refl; words = refl }
  executed_same (loads width rd address) = access_same _ _ _ _
  executed_same (stores width address value) = access_same _ _ _ _

  instruction_same : (o : Option Instruction) → Same (instruction_step with_tables ws o) (instruction_does core ws o)
  instruction_same None = record { context = refl; words = refl }
  instruction_same (Some i) = executed_same (effect_of i core.context.registers core.context.pc core.clock)

module _ (core : Core) (ws : List ℕ) (h : Coherent core.tables.tlb ws core.root) where
  fetch_same : Same (fetch_step core ws) (fetch_does core ws (translated ws core.root core.context.pc Fetch))
  fetch_same = fetch_cases (λ s. Same s (fetch_does core ws (translated ws core.root core.context.pc Fetch))) core ws
      (λ e. rw (denied core ws core.tables h core.context.pc Fetch e) (record { context = refl; words = refl }))
      (λ frame e.
      let later = (coherence.find core.tables.tlb ws core.root (core.context.pc / 4096) Fetch h).still in
      let rest = instruction_same core ws (after_lookup core ws core.context.pc Fetch).tables later (decoded (word ws frame (core.context.pc % 4096 / 4))) in
      rw (granted core ws core.tables h core.context.pc Fetch frame e) (record { context = rest.context; words = rest.words }))

  program_same : (s : State) → Same (program_step s core ws) (program_does s core ws)
  program_same Ready = fetch_same
  program_same (Stopped cause pc) = record { context = refl; words = refl }

pub agreement : Agreement
unfolding stepped architecture
agreement core ws h = let s = program_same core ws h core.context.state in record { context = s.context; words = s.words }
