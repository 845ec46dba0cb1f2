-- One message more.
use Rattle.std.proofs.Common.{◌≡◌, ℕ, suc, ◌+◌, cond, List, sym, inl, inr, refl, add-one}
use Rattle.std.proofs.lemmas.Bool.{cases_Bool}
use Rattle.std.proofs.lemmas.List.Sums.{fold-append}
use Rattle.plan.specs.Places.{leaves}
use Rattle.plan.specs.Switch.{message, messages}
use Rattle.checker.specs.declared.Accepted.{Accepted}
use Rattle.kernel.specs.Switch.{carried, delivered}

pub delivered_more : (a : Accepted) (who n : ℕ) (ws : List ℕ) →
    delivered a (messages a.plan who (suc n)) ws ≡ cond (leaves a.plan who n) (carried a (delivered a (messages a.plan who n) ws) (message a.plan n)) (delivered a (messages a.plan who n) ws)
unfolding messages
delivered_more a who n ws = elim (cases_Bool (leaves a.plan who n)) [
  | inl e ↦ rw e (fold-append (carried a) ws (messages a.plan who n) _)
  | inr e ↦ rw e refl
]

-- a turn of the loop
pub delivered_next : (a : Accepted) (who n : ℕ) (ws vs us : List ℕ) → vs ≡ delivered a (messages a.plan who n) ws → us ≡ cond (leaves a.plan who n) (carried a vs (message a.plan n)) vs →
    us ≡ delivered a (messages a.plan who (n + 1)) ws
delivered_next a who n ws vs us e d = rw (add-one, d, e) (sym (delivered_more a who n ws))
