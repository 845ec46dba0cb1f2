-- What a program does depends on no other memory than that of its root.
use Rattle.std.proofs.Common.{◌≡◌, ℕ, ◌+◌, ◌*◌, ◌/◌, ◌%◌, ◌<◌, true, List, length, Some, None, Option, sym, refl, ◌∙◌, inl, inr, arith}
use Rattle.std.proofs.lemmas.List.{get_or-set_other, get_or-set_same}
use Rattle.std.proofs.lemmas.Bool.{cases_eq, lt-ltb}
use Rattle.words.specs.Frames.{lent, word, written}
use Rattle.words.proofs.Frame.{lent_room}
use Rattle.isa.specs.declared.instruction.Instruction.{Instruction}
use Rattle.isa.specs.Decoding.{decoded}
use Rattle.isa.specs.Effects.{Effect, sets, jumps, branches, loads, stores, effect_of}
use Rattle.paging.specs.declared.access.Access.{Access}
use Rattle.paging.specs.declared.access.Access.TheVariants.{Fetch, Load, Store}
use Rattle.paging.specs.declared.leaf.Leaf.{Leaf}
use Rattle.paging.specs.declared.physical.PhysicalAddress.{PhysicalAddress}
use Rattle.paging.specs.Accesses.{physical_in}
use Rattle.paging.specs.Mapping.{Maps, Reaches}
use Rattle.paging.specs.Walks.{walked}
use Rattle.paging.proofs.Agree.{leaves_named, tables_decide}
use Rattle.tables.specs.Coherent.{Coherent}
use Rattle.tables.proofs.Truth.{coherence}
use Rattle.hart.specs.declared.context.State.{State}
use Rattle.hart.specs.declared.context.State.TheVariants.{Ready, Stopped}
use Rattle.hart.specs.declared.step.Core.{Core}
use Rattle.hart.specs.Architecture.{Outcome, load_at, store_at}
use Rattle.hart.specs.Core.{Step, after_lookup, data_access, executed, fetch_step, instruction_step, program_step, stepped, word_step}
use Rattle.hart.specs.Laws.{SameOwn, SeesOwn}
use Rattle.hart.proofs.Agreeing.{found_reaches}
use Rattle.hart.proofs.Cases.{access_cases, fetch_cases}

module _ (ws vs : List ℕ) where
  -- words of one memory are those of the other wherever they were
  abbrev AlikeWords : List ℕ → List ℕ → Type 0
  AlikeWords us ts = (frame k : ℕ) → word vs frame k ≡ word ws frame k → word us frame k ≡ word ts frame k

  -- what two runs of a step have in common
  record Alike (r s : Step) : Type 0 where
    core : r.core ≡ s.core
    used : r.used ≡ s.used
    words : AlikeWords r.words s.words

  -- where nothing is written
  same_words : AlikeWords vs ws
  same_words frame k e = e

  record AlikeOutcome (r s : Outcome) : Type 0 where
    context : r.context ≡ s.context
    words : AlikeWords r.words s.words

module _ (ws vs : List ℕ) (core : Core) (own : SameOwn ws vs core.root) where
  walks : (page : ℕ) → walked vs core.root page ≡ walked ws core.root page
  walks = (tables_decide ws vs core.root own.tables).walks own.lent

  -- the word at an address that an access reaches
  same_reached : (address : ℕ) (access : Access) (physical : PhysicalAddress) → Reaches ws core.root address access physical →
      word vs physical.frame (address % 4096 / 4) ≡ word ws physical.frame (address % 4096 / 4)
  same_reached address access physical r = rw r.frame (own.mapped r.page (address % 4096 / 4) r.leaf r.maps (omega arith))

  -- the same write to a frame that a page maps to
  same_written : (page offset value : ℕ) (leaf : Leaf) → Maps ws core.root page leaf → offset < 1024 →
      AlikeWords ws vs (written vs leaf.frame offset value) (written ws leaf.frame offset value)
  same_written page offset value leaf m inside frame k e =
      let at = leaf.frame in
      let here = m.frame_there.lent in
      let lent_here : lent ws at ≡ true = lt-ltb at (length ws / 1024) (omega arith) in
      let there = lent_room vs at (own.lent at (inr (leaves_named ws core.root page leaf m)) ∙ lent_here) in
      elim (cases_eq (frame * 1024 + k) (at * 1024 + offset)) [
        | inl i ↦ rw i (get_or-set_same vs (at * 1024 + offset) value 0 (omega arith) ∙ sym (get_or-set_same ws (at * 1024 + offset) value 0 (omega arith)))
        | inr ne ↦ get_or-set_other vs (at * 1024 + offset) (frame * 1024 + k) value 0 ne ∙ e ∙ sym (get_or-set_other ws (at * 1024 + offset) (frame * 1024 + k) value 0 ne)
      ]

  module _ (h : Coherent core.tables.tlb ws core.root) where
    -- an access that comes to the same at each place that it reaches
    access_alike : (access : Access) (bytes address : ℕ) (there here : PhysicalAddress → Outcome) →
        ((frame : ℕ) → Reaches ws core.root address access (physical_in frame address) →
        AlikeOutcome ws vs (there (physical_in frame address)) (here (physical_in frame address))) →
        Alike ws vs (data_access core vs access bytes address there) (data_access core ws access bytes address here)
    unfolding data_access
    access_alike access bytes address there here same =
        access_cases (Alike ws vs (data_access core vs access bytes address there)) core ws access bytes address here
        (λ frame a e.
        let o = same frame (found_reaches core ws core.tables h address access frame e) in
        rw (walks (address / 4096), a, e, o.context) (record { core = refl; used = refl; words = o.words }))
        (λ a e. rw (walks (address / 4096), a, e) (record { core = refl; used = refl; words = same_words ws vs }))
        (λ a. rw a (record { core = refl; used = refl; words = same_words ws vs }))

    executed_alike : (d : Effect) → Alike ws vs (executed core vs d) (executed core ws d)
    unfolding executed
    executed_alike (sets rd value) = record { core = refl; used = refl; words = same_words ws vs }
    executed_alike (jumps rd target) = record { core = refl; used = refl; words = same_words ws vs }
    executed_alike (branches taken target) = record { core = refl; used = refl; words = same_words ws vs }
    executed_alike (loads width rd address) =
        access_alike Load _ address (load_at core.context vs width rd address) (load_at core.context ws width rd address)
        (λ frame r. rw (same_reached address Load _ r) (record { context = refl; words = same_words ws vs }))
    executed_alike (stores width address value) =
        access_alike Store _ address (store_at core.context vs width address value) (store_at core.context ws width address value)
        (λ frame r. rw (same_reached address Store _ r)
        (record { context = refl; words = rw r.frame (same_written r.page (address % 4096 / 4) _ r.leaf r.maps (omega arith)) }))

    instruction_alike : (o : Option Instruction) → Alike ws vs (instruction_step core vs o) (instruction_step core ws o)
    instruction_alike None = record { core = refl; used = refl; words = same_words ws vs }
    instruction_alike (Some i) = executed_alike (effect_of i core.context.registers core.context.pc core.clock)

module _ (ws vs : List ℕ) (core : Core) (own : SameOwn ws vs core.root) (h : Coherent core.tables.tlb ws core.root) where
  fetch_alike : Alike ws vs (fetch_step core vs) (fetch_step core ws)
  unfolding fetch_step word_step
  fetch_alike = fetch_cases (Alike ws vs (fetch_step core vs)) core ws
      (λ e. rw (walks ws vs core own (core.context.pc / 4096), e) (record { core = refl; used = refl; words = same_words ws vs }))
      (λ frame e.
      let r = found_reaches core ws core.tables h core.context.pc Fetch frame e in
      let later = (coherence.find core.tables.tlb ws core.root (core.context.pc / 4096) Fetch h).still in
      let rest = instruction_alike ws vs (after_lookup core ws core.context.pc Fetch) own later (decoded (word ws frame (core.context.pc % 4096 / 4))) in
      rw (walks ws vs core own (core.context.pc / 4096), e, same_reached ws vs core own core.context.pc Fetch _ r)
      (record { core = rest.core; used = rw rest.used refl; words = rest.words }))

  program_alike : (s : State) → Alike ws vs (program_step s core vs) (program_step s core ws)
  program_alike Ready = fetch_alike
  program_alike (Stopped cause pc) = record { core = refl; used = refl; words = same_words ws vs }

pub sees_own : SeesOwn
unfolding stepped
sees_own core ws vs h own =
    let s = program_alike ws vs core own h core.context.state in
    record { core = rw (s.core, s.used) refl; used = s.used; words = s.words }
