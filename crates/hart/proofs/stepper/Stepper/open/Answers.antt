-- What is left to show of `open`: a page that was found is found again.
use Rattle.std.proofs.Common.{◌≡◌, ℕ, ◌/◌, Some, None, Option, option_map, sym, ap, ◌∙◌}
use Rattle.std.proofs.lemmas.Option.{none-some, same_Some}
use Rattle.hart.specs.declared.stepper.Window.{Window}
use Rattle.hart.proofs.stepper.Stepper.open.Goals as goal

windowed : (page : ℕ) (o : Option ℕ) (x : Window) → option_map (λ frame. record { page = page; frame = frame }) o ≡ Some x → (o ≡ Some x.frame) × (x.page ≡ page)
windowed page None x e = absurd (none-some x e)
windowed page (Some f) x e =
    let g = same_Some (record { page = page; frame = f }) x e in
    (ap (λ (w : Window). Some w.frame) g, sym (ap (λ (w : Window). w.page) g))

pub invariant_of-self : goal.invariant_of-self
invariant_of-self c = record {
  at_hand = λ x e.
      let w = windowed (c.args.self.now.core.context.pc / 4096) c.look_up-found.result.frame x (sym c.after-self.ensures ∙ e) in
      rw w.1 (c.look_up-found.ensures.again x.frame w.0);
}
