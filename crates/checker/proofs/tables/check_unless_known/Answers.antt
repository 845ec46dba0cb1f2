-- What is left to show of `check_unless_known`.
use Rattle.std.proofs.Common.{◌≡◌, None, ◌||◌, eqb, sym, ap, ◌∙◌, subst, inl, inr}
use Rattle.std.proofs.lemmas.Bool.{eqb-true, or_cases}
use Rattle.ranges.proofs.Questions.{unless_ok}
use Rattle.checker.specs.Marks.{references_in}
use Rattle.checker.specs.Tables.{table_fault}
use Rattle.checker.specs.Scaffold.{Shows, marked}
use Rattle.checker.proofs.Forms.{fault_none}
use Rattle.checker.proofs.Marked.{named_more}
use Rattle.checker.proofs.tables.check_unless_known.Goals as goal

pub returns-clause-gathered : goal.returns-clause-gathered
returns-clause-gathered c = λ _.
    let ws = c.args.words.now in
    let t = c.args.table in
    let was = c.args.claims.now.page_tables in
    let now = c.mark.new.self in
    let none : table_fault ws t ≡ None = unless_ok (table_fault ws t) tt c.in_ok-check_table.field-0 (sym c.check_table.ensures.value ∙ c.in_ok-check_table.was) in
    let shows : Shows now (λ f. marked was f || eqb t f) = c.mark.ensures in (
      (λ f l m. elim (or_cases (marked was f) (eqb t f) (sym (shows f l) ∙ m)) [
        | inl x ↦ c.requires.0 f l x
        | inr s ↦ subst (λ q. table_fault ws q ≡ None) (eqb-true t f s) none
      ]),
      λ f l.
          c.check_table.ensures.referenced c.in_ok-check_table.was f l ∙ ap (λ x. x || references_in ws t f) (c.requires.1 f l)
          ∙ sym (named_more ws f was now t (fault_none ws t none).0.below shows),
    )
