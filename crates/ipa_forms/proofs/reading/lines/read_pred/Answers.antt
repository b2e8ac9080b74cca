use Rattle.ipa_forms.proofs.LineLemmas.{no_pred_head, no_pred_rule}
use Rattle.ipa_forms.proofs.reading.lines.read_pred.Goals as goal

pub returns-in_default : goal.returns-in_default
returns-in_default c =
    let none = rw c.in_default.is at c.in_ok-name.ensures in
    no_pred_head c.args.words.now none

pub returns-in_default-read_rule : goal.returns-in_default-read_rule
returns-in_default-read_rule c =
    let read = rw c.in-Some.is at c.in_ok-name.ensures in
    no_pred_rule c.args.words.now c.read_applied.new.words (c.in-Some.name, c.in-Some.sorts) read c.in_default-read_rule.ensures
