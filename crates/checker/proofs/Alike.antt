-- What is found first leads to one refusal.
use Rattle.std.proofs.Common.{◌≡◌, ℕ, List, sym, refl, ap, ◌∙◌, subst, arith}
use Rattle.plan.specs.declared.refusal.Refusal.{Refusal}
use Rattle.plan.specs.declared.refusal.Refusal.TheVariants.{ChannelPage, TableMalformed}
use Rattle.plan.specs.Refused.{number_of, place_of, refusal}
use Rattle.plan.proofs.Decides.{at_number, refusal_named, same_number}
use Rattle.checker.specs.Found.{Finding, Found, OneFirst, found_at, refusal_of, rule_of}
use Rattle.checker.specs.Found.Finding.{broken, pages_unread, tables_unread}
use Rattle.checker.proofs.Judged.{ranked}

module _ (bytes words : List ℕ) where
  -- a rule is not both broken at a place and stopped there
  not_pages : (e : Refusal) (k : ℕ) → Found bytes words (broken e) → Found bytes words (pages_unread k) → number_of e ≡ 5 → place_of e ≡ k → ⊥
  unfolding Found
  not_pages e k b u r s =
      let z = subst (λ d. Found bytes words (broken d)) (at_number e 5 r ∙ ap ChannelPage s) b in
      z.1 u.1

  not_tables : (e : Refusal) (k : ℕ) → Found bytes words (broken e) → Found bytes words (tables_unread k) → number_of e ≡ 7 → place_of e ≡ k → ⊥
  unfolding Found
  not_tables e k b u r s =
      let z = subst (λ d. Found bytes words (broken d)) (at_number e 7 r ∙ ap TableMalformed s) b in
      z.1 u.1

  alike : (a b : Finding) → Found bytes words a → Found bytes words b → rule_of a ≡ rule_of b → found_at a ≡ found_at b → refusal_of a ≡ refusal_of b
  alike (broken e) (broken d) x y r s = refusal_named e ∙ ap (λ n. refusal n (place_of e)) r ∙ ap (refusal (number_of d)) s ∙ sym (refusal_named d)
  alike (broken e) (pages_unread k) x y r s = absurd (not_pages e k x y r s)
  alike (broken e) (tables_unread k) x y r s = absurd (not_tables e k x y r s)
  alike (pages_unread k) (broken d) x y r s = absurd (not_pages d k y x (sym r) (sym s))
  alike (pages_unread k) (pages_unread j) x y r s = refl
  alike (pages_unread k) (tables_unread j) x y r s = refl
  alike (tables_unread k) (broken d) x y r s = absurd (not_tables d k y x (sym r) (sym s))
  alike (tables_unread k) (pages_unread j) x y r s = refl
  alike (tables_unread k) (tables_unread j) x y r s = refl

pub one_first : OneFirst
one_first bytes words e d f g =
    let a = f.first g.finding g.found in
    let b = g.first f.finding f.found in
    let rule = same_number (rule_of f.finding) (rule_of g.finding) (ranked f.finding) (ranked g.finding) (omega (arith, a, b)) in
    let place : found_at f.finding ≡ found_at g.finding = omega (arith, a, b) in
    sym f.leads_to ∙ alike bytes words f.finding g.finding f.found g.found rule place ∙ g.leads_to
