use Rattle.std.proofs.Common.{[], ◌∷◌, ◌++◌, append_assoc, ap, sym, ◌∙◌}
use Rattle.ipa_journal.proofs.StartLemmas.{none_more}
use Rattle.ipa_journal.proofs.starts.journal_start.Goals as goal

pub loop-line-preserved : goal.loop-line-preserved
loop-line-preserved c =
    let none = rw c.if-branch.false at c.in_ok-begins_journal.ensures in
    record {
      none = none_more c.args.bytes.now c.loop-line.yielded c.in-Some.line c.loop-line.invariant.none none;
      left = append_assoc c.loop-line.yielded (c.in-Some.line ∷ []) c.next.new.self ∙ ap (λ rest. c.loop-line.yielded ++ rest) (sym c.in-Some.ensures.steps) ∙ c.loop-line.invariant.left;
    }
