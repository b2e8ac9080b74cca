use Rattle.std.proofs.Common.{◌≡◌, take}
use Rattle.ipa_report.specs.Summaries.{answers_in, is_shown}
use Rattle.ipa_report.proofs.summaries.shown_in.Given as goal

abbrev pub invariant-loop-list : goal.invariant-loop-list
invariant-loop-list l = l.count ≡ answers_in is_shown (take l.list-index l.outcomes)
