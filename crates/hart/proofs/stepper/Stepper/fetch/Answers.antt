-- What is left to show of `fetch`: a page that the TLB has needs no look-up. It would find the same frame and leave the core as it is.
use Rattle.std.proofs.Common.{◌≡◌, ℕ, ◌/◌, List, Some, None, sym, ap, ◌∙◌}
use Rattle.paging.specs.declared.access.Access.TheVariants.{Fetch}
use Rattle.paging.specs.Walks.{walked}
use Rattle.tables.specs.Tlb.{found, hit}
use Rattle.tables.proofs.Truth.{known_hit}
use Rattle.hart.specs.declared.step.Core.{Core}
use Rattle.hart.specs.Core.{looked_up}
use Rattle.hart.specs.Scaffold.{faulted, opened}
use Rattle.hart.proofs.stepper.Stepper.fetch.Goals as goal

at_hand_found : (core : Core) (ws : List ℕ) (page frame : ℕ) → page ≡ core.context.pc / 4096 → found core.tables.tlb page Fetch None ≡ hit frame →
    (hit frame ≡ looked_up core ws core.context.pc Fetch) × (core ≡ faulted core ws core.context.pc Fetch (Some frame))
at_hand_found core ws page frame e h =
    let k = known_hit core.tables.tlb (core.context.pc / 4096) Fetch frame (walked ws core.root (core.context.pc / 4096)) (rw e at h) in
    (sym k.0, ap (λ tlb. record core { tables = record core.tables { tlb = tlb } }) (sym k.1))

pub returns-in-Some-clause-found : goal.returns-in-Some-clause-found
returns-in-Some-clause-found c =
    c.by.ensures ∙ ap opened (at_hand_found c.args.self.now.core c.args.words.now c.in-Some.window.page c.in-Some.window.frame c.if-window-page.true (c.args.self.now.at_hand c.in-Some.window c.in-Some.is)).0

pub returns-in-Some-clause-core : goal.returns-in-Some-clause-core
returns-in-Some-clause-core c =
    rw (c.by.ensures) (at_hand_found c.args.self.now.core c.args.words.now c.in-Some.window.page c.in-Some.window.frame c.if-window-page.true (c.args.self.now.at_hand c.in-Some.window c.in-Some.is)).1
