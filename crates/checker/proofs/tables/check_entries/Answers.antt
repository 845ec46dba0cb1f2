-- What is left to show of `check_entries`.
use Rattle.std.proofs.Common.{◌≡◌, false, ◌&&◌, ◌||◌, eqb, sym, ap, ◌∙◌, subst, arith}
use Rattle.std.proofs.lemmas.List.{get_or-replicate}
use Rattle.std.proofs.lemmas.Bool.{true≢false}
use Rattle.std.proofs.lemmas.Result.{err_from_is_err_and}
use Rattle.ranges.specs.Questions.{any}
use Rattle.ranges.proofs.Questions.{any_none, any_same, any_step, checked_more, checked_stops, first_none}
use Rattle.checker.specs.Marks.{is_page_table_frame, referenced_by, references, references_in, pointed, points}
use Rattle.checker.specs.Tables.{entry_fault_at}
use Rattle.checker.specs.Scaffold.{Shows, referenced_through}
use Rattle.checker.proofs.Marked.{named_none}
use Rattle.checker.proofs.tables.check_entries.Goals as goal

pub loop-k-init : goal.loop-k-init
loop-k-init c =
    let ws = c.args.words.now in (
      first_none (entry_fault_at ws c.args.root),
      ((λ f l e. absurd (true≢false (sym e ∙ get_or-replicate 256 f false false l))), λ f l. get_or-replicate 256 f false false l ∙ sym (named_none ws f)),
      λ f l. get_or-replicate 256 f false false l ∙ sym (any_none (points ws c.args.root f)),
    )

pub returns-in_err-check_entry-clause-value : goal.returns-in_err-check_entry-clause-value
returns-in_err-check_entry-clause-value c =
    let p = err_from_is_err_and c.from_residual.result c.from_residual.ensures.1 in
    rw (p.1, p.2) (sym (checked_stops (entry_fault_at c.args.words.now c.args.root) c.loop-k.k 1024 tt c.in_err-check_entry.field-0.0 c.loop-k-test.true c.loop-k.invariant.0 (sym c.check_entry.ensures.value ∙ c.in_err-check_entry.was)))

pub loop-k-preserved : goal.loop-k-preserved
loop-k-preserved c =
    let ws = c.args.words.now in
    let r = c.args.root in
    let k = c.loop-k.k in
    let ok = c.in_ok-check_entry.was in (
      checked_more (entry_fault_at ws r) k tt c.in_ok-check_entry.field-0 c.loop-k.invariant.0 (sym c.check_entry.ensures.value ∙ ok),
      c.check_entry.ensures.gathered ok,
      λ f l. c.check_entry.ensures.page_tables ok f l ∙ ap (λ x. x || points ws r f k) (c.loop-k.invariant.2 f l) ∙ sym (any_step (points ws r f) k),
    )

pub returns-clause-claims : goal.returns-clause-claims
unfolding references pointed is_page_table_frame
returns-clause-claims c =
    let ws = c.args.words.now in
    let r = c.args.root in
    let at : c.loop-k.k ≡ 1024 = omega arith in
    let tables : Shows c.loop-k.claims.page_tables (pointed ws r) = subst (λ n. Shows c.loop-k.claims.page_tables (λ f. any (points ws r f) n)) at c.loop-k.invariant.2 in (
      (λ f l. c.loop-k.invariant.1.1 f l ∙ any_same (referenced_through ws c.loop-k.claims.page_tables f) (referenced_by ws r f) 256 (λ t h. ap (λ x. x && references_in ws t f) (tables t h))),
      λ f l. c.mark.ensures f l ∙ ap (λ x. x || eqb r f) (tables f l),
    )
