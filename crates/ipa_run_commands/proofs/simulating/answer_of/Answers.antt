use Rattle.std.proofs.Common.{ℕ, List, sym, subst}
use Rattle.ipa_command.specs.Steps.{IsInput}
use Rattle.ipa_command.specs.Verdicts.{longest_document}
use Rattle.ipa_run_commands.proofs.VerdictLemmas.{judged-answered, judged-run, judged-given}
use Rattle.ipa_run_commands.specs.declared.telling.Telling.TheVariants.{Journal}
use Rattle.ipa_run_commands.proofs.simulating.answer_of.Goals as goal

pub returns-clause-answered : goal.returns-clause-answered
returns-clause-answered g c =
    let before = g.S.Source.left c.args.source.now in
    let after = g.S.Source.left c.read_input.new.source in
    let bytes = c.deref.result.now in
    let input = subst (λ (list : List ℕ). IsInput longest_document before after list) (sym c.deref.ensures.value) c.in_ok-bytes.ensures.input in
    judged-answered Journal c.args.number before after _ _ bytes input c.read_input.ensures.count c.judge.result c.judge.ensures.told c.judge.ensures.stop

pub returns-clause-run : goal.returns-clause-run
returns-clause-run g c = judged-run Journal c.args.number c.deref.result.now c.judge.result c.judge.ensures.told c.judge.ensures.stop

pub returns-clause-fates : goal.returns-clause-fates
returns-clause-fates g c = judged-given _ c.judge.result c.judge.ensures.fates
