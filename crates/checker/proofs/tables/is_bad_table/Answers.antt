-- What is left to show of `is_bad_table`.
use Rattle.std.proofs.Common.{◌≡◌, true, false, ◌&&◌, ◌||◌, eqb, sym, subst, arith, rules}
use Rattle.paging.specs.Entries.{frame_of, is_valid}
use Rattle.std.proofs.lemmas.Bool.{true≢false}
use Rattle.ranges.proofs.Questions.{any_here, any_more, any_none}
use Rattle.ranges.specs.Questions.{any}
use Rattle.checker.specs.Marks.{referencing_entry, references_in}
use Rattle.checker.specs.Tables.{bad_leaf_at, bad_table}
use Rattle.checker.specs.Scaffold.{Shows, marked}
use Rattle.checker.proofs.Marked.{marks_more, marks_none}
use Rattle.checker.proofs.tables.is_bad_table.Goals as goal

pub loop-k-init : goal.loop-k-init
loop-k-init c = (
  any_none (bad_leaf_at c.args.words.now c.args.table),
  λ f l. marks_none (marked c.args.referenced.now f) (referencing_entry c.args.words.now c.args.table f),
)

pub returns-then-is_bad : goal.returns-then-is_bad
unfolding bad_table
returns-then-is_bad c =
    let ws = c.args.words.now in
    let t = c.args.table in
    let bad : bad_leaf_at ws t c.loop-k.k ≡ true = (let e = c.is_bad.ensures in let r = c.read.ensures in let w = c.if-is_bad.true in search rules) in
    record { value = sym (any_here (bad_leaf_at ws t) 1024 c.loop-k.k c.loop-k-test.true bad); referenced = λ e. absurd (true≢false e) }

pub loop-k-preserved : goal.loop-k-preserved
loop-k-preserved c =
    let ws = c.args.words.now in
    let t = c.args.table in
    let k = c.loop-k.k in
    let good : bad_leaf_at ws t k ≡ false = (let e = c.is_bad.ensures in let r = c.read.ensures in let w = c.if-is_bad.false in search rules) in (
      any_more (bad_leaf_at ws t) k c.loop-k.invariant.0 good,
      λ f l. (let e = c.read.ensures in
          marks_more (marked c.args.referenced.now f) (marked c.loop-k.referenced f) (marked c.mark_referenced.new.self f) (referencing_entry ws t f) k (c.loop-k.invariant.1 f l)
          (subst (λ x. marked c.mark_referenced.new.self f ≡ (marked c.loop-k.referenced f || (is_valid x && eqb (frame_of x) f))) e (c.mark_referenced.ensures f l))),
    )

pub returns : goal.returns
unfolding bad_table references_in
returns c =
    let ws = c.args.words.now in
    let t = c.args.table in
    let at : c.loop-k.k ≡ 1024 = omega arith in
    record {
      value = sym (subst (λ n. any (bad_leaf_at ws t) n ≡ false) at c.loop-k.invariant.0);
      referenced = λ e. subst (λ n. Shows c.loop-k.referenced (λ f. marked c.args.referenced.now f || any (referencing_entry ws t f) n)) at c.loop-k.invariant.1;
    }
