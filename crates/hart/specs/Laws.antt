-- What one step comes to.
use Rattle.std.specs.Prelude.{◌≡◌, ℕ, ◌+◌, ◌*◌, ◌^◌, ◌<◌, true, ◌⊎◌, List}
use Rattle.words.specs.Frames.{word, written}
use Rattle.isa.specs.declared.instruction.Csr.TheVariants.{Cycle, Time, CycleHigh}
use Rattle.isa.specs.Csrs.{csr_value}
use Rattle.tables.specs.Coherent.{Coherent}
use Rattle.paging.specs.declared.leaf.Leaf.{Leaf}
use Rattle.paging.specs.Mapping.{Maps}
use Rattle.paging.specs.Tables.{PageTableFrame, References, SameLent, SameTables}
use Rattle.hart.specs.declared.step.Core.{Core}
use Rattle.hart.specs.Architecture.{architecture}
use Rattle.hart.specs.Core.{stepped}

-- the core does to registers, counter, state and words what the architecture does
pub record Agrees (core : Core) (ws : List ℕ) : Type 0 where
  pub context : (stepped core ws).core.context ≡ (architecture core ws).context
  pub words : (stepped core ws).words ≡ (architecture core ws).words

-- for every word, every context, every memory, every clock, and any tables whose TLB answers as a walk would
abbrev pub Agreement : Type 0
Agreement = (core : Core) (ws : List ℕ) → Coherent core.tables.tlb ws core.root → Agrees core ws

-- no frame that the tables of a root reference is one of its tables, or the root itself
abbrev pub TablesApart : List ℕ → ℕ → Type 0
TablesApart ws root = (frame : ℕ) → References ws root frame → PageTableFrame ws root frame → ⊥

-- after a step the TLB answers as a walk would
abbrev pub CoherentAfter : Core → List ℕ → Type 0
CoherentAfter core ws = Coherent (stepped core ws).core.tables.tlb (stepped core ws).words core.root

-- a step that leaves the root and its tables as they are keeps a TLB that answers as a walk would
abbrev pub KeepsCoherent : Type 0
KeepsCoherent = (core : Core) (ws : List ℕ) → SameTables ws (stepped core ws).words core.root → Coherent core.tables.tlb ws core.root → CoherentAfter core ws

-- and so does every step of a root whose tables reference none of them
abbrev pub StaysCoherent : Type 0
StaysCoherent = (core : Core) (ws : List ℕ) → TablesApart ws core.root → Coherent core.tables.tlb ws core.root → CoherentAfter core ws

-- two memories are the same as far as the programs of a root reach: the same tables, the same of the frames concerned lent,
-- and the same words in every frame that a page maps to
pub record SameOwn (ws vs : List ℕ) (root : ℕ) : Type 0 where
  pub tables : SameTables ws vs root
  pub lent : SameLent ws vs root
  pub mapped : (page k : ℕ) (leaf : Leaf) → Maps ws root page leaf → k < 1024 → word vs leaf.frame k ≡ word ws leaf.frame k

-- a step in either gives the same core with the same uses and so the same cycles, and where they held the same word they do so again
pub record SameStep (before : Core) (ws vs : List ℕ) : Type 0 where
  pub core : (stepped before vs).core ≡ (stepped before ws).core
  pub used : (stepped before vs).used ≡ (stepped before ws).used
  pub words : (frame k : ℕ) → word vs frame k ≡ word ws frame k → word (stepped before vs).words frame k ≡ word (stepped before ws).words frame k

-- what a program does depends on no other memory
abbrev pub SeesOwn : Type 0
SeesOwn = (core : Core) (ws vs : List ℕ) → Coherent core.tables.tlb ws core.root → SameOwn ws vs core.root → SameStep core ws vs

-- one word changed, in a frame that a page of the root maps to with R and W
pub record StoredOwn (ws vs : List ℕ) (root : ℕ) : Type 0 where
  pub page : ℕ
  pub leaf : Leaf
  pub offset : ℕ
  pub value : ℕ
  pub maps : Maps ws root page leaf
  pub readable : leaf.readable ≡ true
  pub writable : leaf.writable ≡ true
  pub inside : offset < 1024
  pub stored : vs ≡ written ws leaf.frame offset value

-- at most that one word changes, and so none in a frame that the tables of the root do not reference
pub record Writes (core : Core) (ws : List ℕ) : Type 0 where
  pub one_word : ((stepped core ws).words ≡ ws) ⊎ StoredOwn ws (stepped core ws).words core.root
  pub others : (frame k : ℕ) → (References ws core.root frame → ⊥) → k < 1024 → word (stepped core ws).words frame k ≡ word ws frame k

abbrev pub WritesOwn : Type 0
WritesOwn = (core : Core) (ws : List ℕ) → Coherent core.tables.tlb ws core.root → Writes core ws

-- where no frame that the tables reference is one of the tables, a step leaves the tables as they are,
-- and so two memories that are the same as far as the programs of a root reach are so again
pub record OwnAgain (core : Core) (ws : List ℕ) : Type 0 where
  pub tables : SameTables ws (stepped core ws).words core.root
  pub apart : TablesApart (stepped core ws).words core.root
  pub own : (vs : List ℕ) → SameOwn ws vs core.root → SameOwn (stepped core ws).words (stepped core vs).words core.root

abbrev pub StaysOwn : Type 0
StaysOwn = (core : Core) (ws : List ℕ) → TablesApart ws core.root → Coherent core.tables.tlb ws core.root → OwnAgain core ws

-- rdcycle and rdcycleh read the two halves of the clock, and rdtime what rdcycle does; while the clock has 64 bits each half has 32
pub record ClockHalves : Type 0 where
  pub joined : (clock : ℕ) → csr_value Cycle clock + 2 ^ 32 * csr_value CycleHigh clock ≡ clock
  pub time : (clock : ℕ) → csr_value Time clock ≡ csr_value Cycle clock
  pub low : (clock : ℕ) → csr_value Cycle clock < 2 ^ 32
  pub high : (clock : ℕ) → clock < 2 ^ 64 → csr_value CycleHigh clock < 2 ^ 32
