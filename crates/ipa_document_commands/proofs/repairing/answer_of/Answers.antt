use Rattle.std.proofs.Common.{ℕ, List, sym, subst}
use Rattle.ipa_command.specs.Statuses.{is_of_input}
use Rattle.ipa_command.specs.Steps.{IsInput}
use Rattle.ipa_command.specs.StepLaws.{answered-ended}
use Rattle.ipa_command.specs.Verdicts.{longest_document}
use Rattle.ipa_document_commands.specs.Repairs.{IsRepairJudged}
use Rattle.ipa_document_commands.proofs.repairing.answer_of.Goals as goal

pub returns : goal.returns
returns g c =
    let before = g.S.Source.left c.args.source.now in
    let after = g.S.Source.left c.read_input.new.source in
    let input = subst (λ (list : List ℕ). IsInput longest_document before after list) (sym c.deref.ensures.value) c.in_ok-bytes.ensures.input in
    answered-ended is_of_input longest_document IsRepairJudged before after (g.S.Source.faults c.args.source.now) (g.S.Source.faults c.read_input.new.source) c.deref.result.now input c.read_input.ensures.count c.judge.result c.judge.ensures
