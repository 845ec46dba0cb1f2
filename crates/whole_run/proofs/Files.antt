-- What was opened is run: the promises of the run, in the words that were lent.
use Rattle.std.proofs.Common.{◌≡◌, ℕ, List, Ok, sym, ap, subst, ◌∙◌}
use Rattle.kernel.specs.Machine.{after_slots}
use Rattle.checker.specs.Checked.{checked}
use Rattle.admission.specs.declared.Opened.{Opened}
use Rattle.admission.specs.Admitted.{Admits, OpenedSo}
use Rattle.separation.specs.declared.run.Finished.{Finished}
use Rattle.separation.specs.Calls.{RanWhole, Runs, finished, first}
use Rattle.whole_run.specs.declared.Whole.{Whole}
use Rattle.whole_run.specs.Whole.{RanWith}

pub ran : (bytes words image here : List ℕ) (n : ℕ) (o : Opened) (w : Whole) → OpenedSo bytes words image o → here ≡ o.words.items →
    w.finished ≡ finished o.accepted here n → w.words.items ≡ (after_slots o.accepted n (first o.accepted here)).words →
    Runs o.accepted here n w.words.items w.finished → RanWith bytes words image n w
ran bytes words image here n o w opened is_here value after runs =
    let lent : here ≡ words = is_here ∙ opened.words in
    let is : w.finished ≡ finished o.accepted words n = value ∙ ap (λ ws. finished o.accepted ws n) lent in
    let who : o.accepted ≡ w.finished.session.accepted = sym (ap (λ (f : Finished). f.session.accepted) is) in
    let judges : checked bytes here ≡ Ok o.accepted = subst (λ ws. checked bytes ws ≡ Ok o.accepted) (sym is_here) opened.judged in
    record {
      judged = subst (λ a. checked bytes words ≡ Ok a) who (subst (λ ws. checked bytes ws ≡ Ok o.accepted) lent judges);
      admitted = subst (λ a. Admits bytes words image (Ok a)) who opened.admits;
      machine = is ∙ ap (λ a. finished a words n) who;
      words = after ∙ ap (λ ws. (after_slots o.accepted n (first o.accepted ws)).words) lent ∙ ap (λ a. (after_slots a n (first a words)).words) who;
      promises = subst (λ a. RanWhole bytes words n a w.words.items w.finished) who
          (subst (λ ws. RanWhole bytes ws n o.accepted w.words.items w.finished) lent (runs bytes judges));
    }
