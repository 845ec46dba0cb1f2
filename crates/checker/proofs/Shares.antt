-- Marks of the partitions so far decide the rules on referenced frames.
use Rattle.std.proofs.Common.{◌≡◌, ℕ, ◌+◌, Bool, false, not, ◌||◌, List, replicate, Some, None, Option, add-one, sym, refl, ap, ◌∙◌}
use Rattle.std.specs.Option.{option_or}
use Rattle.std.proofs.lemmas.List.{get_or-replicate}
use Rattle.ranges.specs.Questions.{any, first}
use Rattle.ranges.proofs.Questions.{any_none, any_step, any_same}
use Rattle.plan.specs.declared.model.Plan.{Plan}
use Rattle.plan.specs.declared.refusal.Refusal.TheVariants.{FrameShared, FramesMissing}
use Rattle.plan.specs.Rules.{broken_unless}
use Rattle.checker.specs.declared.claims.Claims.{Claims}
use Rattle.checker.specs.declared.marks.Marks.{Marks}
use Rattle.checker.specs.Sharing.{referenced_at, page_tables_at, clash_at, apart_kept, share_refusal, missing_at, lent_kept, lent_refusal}
use Rattle.checker.specs.Scaffold.{Joined, Shows, clash_claims, marked, missing_mark}

pub joined_none : (by : ℕ → ℕ → Bool) → Joined by (record { marks = replicate 256 false }) 0
joined_none by f l = get_or-replicate 256 f false false l ∙ sym (any_none (by f))

pub joined_more : (by : ℕ → ℕ → Bool) (marks mine after : Marks) (k : ℕ) → Joined by marks k → Shows mine (λ f. by f k) → Shows after (λ f. marked marks f || marked mine f) → Joined by after (k + 1)
joined_more by marks mine after k h m a f l = rw (a f l, h f l, m f l) (sym (any_step (by f) k))

module _ (ws : List ℕ) (p : Plan) (k : ℕ) (own earlier : Claims)
    (a : Shows own.referenced (λ f. referenced_at ws p f k)) (b : Shows own.page_tables (λ f. page_tables_at ws p f k))
    (c : Joined (referenced_at ws p) earlier.referenced k) (d : Joined (page_tables_at ws p) earlier.page_tables k) where
  same_clash : any (clash_claims own earlier) 256 ≡ any (clash_at ws p k) 256
  unfolding clash_at
  same_clash = any_same (clash_claims own earlier) (clash_at ws p k) 256 (λ f l. rw (a f l, b f l, c f l, d f l) refl)

  pub shared_here : broken_unless (not (any (clash_claims own earlier) 256)) (FrameShared k) ≡ share_refusal ws p k
  unfolding apart_kept
  shared_here = ap (λ b. broken_unless (not b) (FrameShared k)) same_clash

-- the first of all places, from one place on
pub first_after : {X : Type 0} (f : ℕ → Option X) (n : ℕ) (was more : Option X) → was ≡ first f n → more ≡ f n → option_or was more ≡ first f (n + 1)
unfolding first
first_after f n None more a b = rw (add-one, sym a) b
first_after f n (Some x) more a b = rw (add-one, sym a) refl

pub missing_here : (ws : List ℕ) (p : Plan) (marks : Marks) (b : Bool) → Joined (referenced_at ws p) marks p.counts.partitions → b ≡ any (missing_mark ws marks) 256 → lent_refusal ws p ≡ broken_unless (not b) FramesMissing
unfolding lent_kept missing_at
missing_here ws p marks b h e = ap (λ x. broken_unless (not x) FramesMissing) (sym (e ∙ any_same (missing_mark ws marks) (missing_at ws p) 256 (λ f l. rw (h f l) refl)))
