-- What is left to show of `check_tables`.
use Rattle.std.proofs.Common.{sym, ap, ◌∙◌}
use Rattle.std.proofs.lemmas.Result.{err_from_is_err_and}
use Rattle.ranges.proofs.Questions.{checked_more, checked_stops, first_none}
use Rattle.checker.specs.Sharing.{page_tables_at, referenced_at, share_refusal}
use Rattle.checker.specs.Tables.{table_refusal}
use Rattle.checker.specs.Scaffold.{Shows, cleared}
use Rattle.checker.proofs.Shares.{first_after, joined_more, joined_none, shared_here}
use Rattle.checker.proofs.sharing.Naming.check_tables.Goals as goal

pub loop-k-init : goal.loop-k-init
loop-k-init c =
    let ws = c.args.words.now in
    let p = c.args.plan.now in
    (first_none (table_refusal ws p), sym (first_none (share_refusal ws p)), joined_none (referenced_at ws p), joined_none (page_tables_at ws p))

pub returns-in_err-own-clause-value : goal.returns-in_err-own-clause-value
returns-in_err-own-clause-value c =
    let ws = c.args.words.now in
    let p = c.args.plan.now in
    let q = err_from_is_err_and c.from_residual.result c.from_residual.ensures.1 in
    rw (q.1, q.2) (sym (checked_stops (table_refusal ws p) c.loop-k.k p.counts.partitions tt c.in_err-own.field-0.0 c.loop-k-test.true c.loop-k.invariant.0
    (sym c.check_tables_of.ensures.value ∙ ap cleared c.in_err-own.was)))

pub loop-k-preserved : goal.loop-k-preserved
unfolding referenced_at page_tables_at
loop-k-preserved c =
    let ws = c.args.words.now in
    let p = c.args.plan.now in
    let k = c.loop-k.k in
    let earlier = c.loop-k.earlier in
    let own = c.in_ok-own.own in
    let a : Shows own.referenced (λ f. referenced_at ws p f k) = c.in_ok-own.ensures.claims.0 in
    let b : Shows own.page_tables (λ f. page_tables_at ws p f k) = c.in_ok-own.ensures.claims.1 in
    let referenced = c.loop-k.invariant.2 in
    let page_tables = c.loop-k.invariant.3 in (
      checked_more (table_refusal ws p) k tt tt c.loop-k.invariant.0 (sym c.check_tables_of.ensures.value ∙ ap cleared c.in_ok-own.was),
      c.or-shared.ensures ∙ first_after (share_refusal ws p) k c.loop-k.shared c.shared_at.result c.loop-k.invariant.1 (c.shared_at.ensures ∙ shared_here ws p k own earlier a b referenced page_tables),
      joined_more (referenced_at ws p) earlier.referenced own.referenced _ k referenced a c.add.ensures.referenced,
      joined_more (page_tables_at ws p) earlier.page_tables own.page_tables _ k page_tables b c.add.ensures.page_tables,
    )
