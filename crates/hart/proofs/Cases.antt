-- A step by its cases.
use Rattle.std.proofs.Common.{◌≡◌, ℕ, ◌/◌, ◌%◌, Bool, true, false, cond, List, Some, None, Option, refl}
use Rattle.words.specs.Frames.{word}
use Rattle.isa.specs.Decoding.{decoded}
use Rattle.paging.specs.declared.access.Access.{Access}
use Rattle.paging.specs.declared.access.Access.TheVariants.{Fetch}
use Rattle.paging.specs.declared.physical.PhysicalAddress.{PhysicalAddress}
use Rattle.hart.specs.declared.cause.Cause.{Cause}
use Rattle.hart.specs.declared.context.State.{State}
use Rattle.hart.specs.declared.context.State.TheVariants.{Ready, Stopped}
use Rattle.hart.specs.declared.step.Core.{Core}
use Rattle.hart.specs.Architecture.{Outcome}
use Rattle.hart.specs.Causes.{fault_cause, misaligned_cause}
use Rattle.hart.specs.Execution.{stopped}
use Rattle.isa.specs.Memory.{is_aligned}
use Rattle.hart.specs.Core.{Step, access_found, after_lookup, data_access, fetch_found, fetch_step, instruction_step, leads_to, looked_up, program_step, with_fetch, word_step}

by_aligned : (P : Step → Type 0) (aligned : Bool) (o : Option ℕ) (found : Option ℕ → Step) (misaligned : Step) →
    ((frame : ℕ) → aligned ≡ true → o ≡ Some frame → P (found (Some frame))) → (aligned ≡ true → o ≡ None → P (found None)) → (aligned ≡ false → P misaligned) →
    P (cond aligned (found o) misaligned)
by_aligned P true (Some frame) found misaligned some none other = some frame refl refl
by_aligned P true None found misaligned some none other = none refl refl
by_aligned P false o found misaligned some none other = other refl

module _ (P : Step → Type 0) (core : Core) (ws : List ℕ) where
  -- an access: its address is aligned and a frame is found, or none is; or its address is misaligned
  pub access_cases : (access : Access) (bytes address : ℕ) (at : PhysicalAddress → Outcome) →
      ((frame : ℕ) → is_aligned bytes address ≡ true → (looked_up core ws address access).frame ≡ Some frame →
      P (access_found (after_lookup core ws address access) ws access address at (looked_up core ws address access).walked (Some frame))) →
      (is_aligned bytes address ≡ true → (looked_up core ws address access).frame ≡ None →
      P (access_found (after_lookup core ws address access) ws access address at (looked_up core ws address access).walked None)) →
      (is_aligned bytes address ≡ false → P (leads_to core ws (stopped core.context (misaligned_cause access)))) → P (data_access core ws access bytes address at)
  unfolding data_access
  access_cases access bytes address at some none misaligned =
      by_aligned P (is_aligned bytes address) (looked_up core ws address access).frame
      (access_found (after_lookup core ws address access) ws access address at (looked_up core ws address access).walked)
      (leads_to core ws (stopped core.context (misaligned_cause access))) some none misaligned

  by_frame : (o : Option ℕ) (found : Option ℕ → Step) → (o ≡ None → P (found None)) → ((frame : ℕ) → o ≡ Some frame → P (found (Some frame))) → P (found o)
  by_frame None found none some = none refl
  by_frame (Some frame) found none some = some frame refl

  -- a ready program: its page has no frame, or its word is run
  pub fetch_cases : ((looked_up core ws core.context.pc Fetch).frame ≡ None →
      P (with_fetch (looked_up core ws core.context.pc Fetch).walked (leads_to (after_lookup core ws core.context.pc Fetch) ws (stopped core.context (fault_cause Fetch))))) →
      ((frame : ℕ) → (looked_up core ws core.context.pc Fetch).frame ≡ Some frame →
      P (with_fetch (looked_up core ws core.context.pc Fetch).walked
      (instruction_step (after_lookup core ws core.context.pc Fetch) ws (decoded (word ws frame (core.context.pc % 4096 / 4)))))) →
      P (fetch_step core ws)
  unfolding fetch_step word_step
  fetch_cases none some =
      by_frame (looked_up core ws core.context.pc Fetch).frame (fetch_found (after_lookup core ws core.context.pc Fetch) ws (looked_up core ws core.context.pc Fetch).walked) none some

  -- any program
  pub by_state : (s : State) → (s ≡ Ready → P (fetch_step core ws)) → ((cause : Cause) (pc : ℕ) → s ≡ Stopped cause pc → P (leads_to core ws core.context)) →
      P (program_step s core ws)
  by_state Ready ready rests = ready refl
  by_state (Stopped cause pc) ready rests = rests cause pc refl
