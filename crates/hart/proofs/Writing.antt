-- A step writes at most one word, and that in a frame of its own root.
use Rattle.std.proofs.Common.{◌≡◌, ℕ, ◌+◌, ◌*◌, ◌/◌, ◌<◌, ◌⊎◌, List, Some, None, Ok, Err, Option, Result, sym, refl, ap, ◌∙◌, subst, inl, inr, arith}
use Rattle.std.proofs.lemmas.List.{get_or-set_other}
use Rattle.std.proofs.lemmas.Bool.{cases_Bool}
use Rattle.words.specs.Frames.{word, written}
use Rattle.isa.specs.declared.instruction.Instruction.{Instruction}
use Rattle.isa.specs.Decoding.{decoded}
use Rattle.isa.specs.Effects.{Effect, sets, jumps, branches, loads, stores, effect_of}
use Rattle.paging.specs.declared.access.Access.{Access}
use Rattle.paging.specs.Mapping.{Reaches}
use Rattle.paging.specs.declared.access.Access.TheVariants.{Fetch, Load, Store}
use Rattle.paging.specs.Accesses.{PageFault}
use Rattle.paging.specs.declared.physical.PhysicalAddress.{PhysicalAddress}
use Rattle.paging.specs.Tables.{References}
use Rattle.paging.specs.Walks.{translated}
use Rattle.paging.proofs.Agree.{leaves_named}
use Rattle.paging.proofs.Reached.{translates}
use Rattle.hart.specs.declared.context.State.{State}
use Rattle.hart.specs.declared.context.State.TheVariants.{Ready, Stopped}
use Rattle.hart.specs.declared.step.Core.{Core}
use Rattle.isa.specs.Memory.{is_aligned}
use Rattle.isa.specs.Stores.{stored}
use Rattle.hart.specs.Core.{stepped}
use Rattle.hart.specs.Architecture.{Outcome, access_does, architecture, does, fetch_does, instruction_does, load_at, physical_does, program_does, store_at, word_at}
use Rattle.hart.specs.Laws.{StoredOwn, WritesOwn}
use Rattle.hart.proofs.Agreeing.{agreement}

-- a write to a frame that the tables name changes no word elsewhere
pub stored_elsewhere : (ws vs : List ℕ) (root : ℕ) → StoredOwn ws vs root → (frame k : ℕ) → (References ws root frame → ⊥) → k < 1024 → word vs frame k ≡ word ws frame k
stored_elsewhere ws vs root s frame k foreign l =
    let other : frame ≡ s.leaf.frame → ⊥ = λ e. foreign (subst (References ws root) (sym e) (leaves_named ws root s.page s.leaf s.maps)) in
    let apart : frame * 1024 + k ≡ s.leaf.frame * 1024 + s.offset → ⊥ = λ e. other (omega (arith, s.inside)) in
    ap (λ us. word us frame k) s.stored ∙ get_or-set_other ws (s.leaf.frame * 1024 + s.offset) (frame * 1024 + k) s.value 0 apart

abbrev Few : List ℕ → ℕ → List ℕ → Type 0
Few ws root vs = (vs ≡ ws) ⊎ StoredOwn ws vs root

module _ (core : Core) (ws : List ℕ) where
  -- an access, whose place a page of the root leads to
  place_few : (access : Access) (address : ℕ) (at : PhysicalAddress → Outcome) → ((physical : PhysicalAddress) → Reaches ws core.root address access physical → Few ws core.root (at physical).words) →
      (found : Result PhysicalAddress PageFault) → found ≡ translated ws core.root address access → Few ws core.root (physical_does core.context ws access at found).words
  place_few access address at few (Ok physical) e = few physical ((translates ws core.root address access (Ok physical) e).reaches physical refl)
  place_few access address at few (Err fault) e = inl refl

  access_few : (access : Access) (bytes address : ℕ) (at : PhysicalAddress → Outcome) → ((physical : PhysicalAddress) → Reaches ws core.root address access physical → Few ws core.root (at physical).words) →
      Few ws core.root (access_does core ws access bytes address at).words
  access_few access bytes address at few = elim (cases_Bool (is_aligned bytes address)) [
    | inl a ↦ rw a (place_few access address at few (translated ws core.root address access) refl)
    | inr a ↦ rw a (inl refl)
  ]

  does_few : (d : Effect) → Few ws core.root (does core ws d).words
  does_few (sets rd value) = inl refl
  does_few (jumps rd target) = inl refl
  does_few (branches taken target) = inl refl
  does_few (loads width rd address) = access_few Load _ address (load_at core.context ws width rd address) (λ physical r. inl refl)
  does_few (stores width address value) = access_few Store _ address (store_at core.context ws width address value) (λ physical r. inr (record {
    page = r.page;
    leaf = r.leaf;
    offset = physical.offset / 4;
    value = stored width (word_at ws physical) address value;
    maps = r.maps;
    readable = r.allows.0;
    writable = r.allows.1;
    inside = omega (arith, r.inside);
    stored = ap (λ frame. written ws frame (physical.offset / 4) (stored width (word_at ws physical) address value)) r.frame;
  }))

  instruction_few : (o : Option Instruction) → Few ws core.root (instruction_does core ws o).words
  instruction_few None = inl refl
  instruction_few (Some i) = does_few (effect_of i core.context.registers core.context.pc core.clock)

  fetch_few : (found : Result PhysicalAddress PageFault) → Few ws core.root (fetch_does core ws found).words
  fetch_few (Ok physical) = instruction_few (decoded (word_at ws physical))
  fetch_few (Err fault) = inl refl

  program_few : (s : State) → Few ws core.root (program_does s core ws).words
  program_few Ready = fetch_few (translated ws core.root core.context.pc Fetch)
  program_few (Stopped cause pc) = inl refl

  architecture_few : Few ws core.root (architecture core ws).words
  unfolding architecture
  architecture_few = program_few core.context.state

pub writes_own : WritesOwn
writes_own core ws h =
    let few : Few ws core.root (stepped core ws).words = rw (agreement core ws h).words (architecture_few core ws) in
    record {
      one_word = few;
      others = λ frame k foreign l. elim few [ inl e ↦ ap (λ us. word us frame k) e | inr s ↦ stored_elsewhere ws _ core.root s frame k foreign l ];
    }
