use Rattle.std.proofs.Common.{◌≡◌, take}
use Rattle.ipa_report.specs.Summaries.{answers_in, is_refused}
use Rattle.ipa_report.proofs.summaries.refused_in.Given as goal

abbrev pub invariant-loop-list : goal.invariant-loop-list
invariant-loop-list l = l.count ≡ answers_in is_refused (take l.list-index l.outcomes)
