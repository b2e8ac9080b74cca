use Rattle.std.proofs.Common.{◌≤◌}
use Rattle.ipa_models.specs.Questions.{Adds}
use Rattle.ipa_models.proofs.QuestionLemmas.{AreDenied}
use Rattle.ipa_models.proofs.question.deny_from.Given as goal

abbrev pub invariant-loop-var : goal.invariant-loop-var
invariant-loop-var l = Adds (AreDenied l.count l.var) l.initial.formula l.formula × (l.count ≤ l.var) × (l.var ≤ 6)
