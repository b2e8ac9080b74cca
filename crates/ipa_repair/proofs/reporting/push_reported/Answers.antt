use Rattle.std.proofs.lemmas.Result.{on_ok_weaker}
use Rattle.ipa_repair.specs.Candidates.{Clashes}
use Rattle.ipa_repair.proofs.ChosenLemmas.{gains-taken, gains-passed}
use Rattle.ipa_repair.proofs.reporting.push_reported.Goals as goal

pub returns-then-not-is_reported : goal.returns-then-not-is_reported
returns-then-not-is_reported c = gains-passed (Clashes c.args.spec.now c.args.left c.args.right) c.args.number c.args.reported.now c.if-not-is_reported.ensures

pub returns : goal.returns
returns c =
    on_ok_weaker c.push.result
    (λ grown. gains-taken (Clashes c.args.spec.now c.args.left c.args.right) c.args.number c.args.reported.now c.push.new.self c.if-not-is_reported.ensures grown) c.push.ensures.ok
