use Rattle.ipa_audit.specs.Journals.{requests_of}
use Rattle.ipa_audit.specs.GoodLines.IsIncomplete.{fewer}
use Rattle.ipa_audit.proofs.CommitLemmas.{complete_or}
use Rattle.ipa_audit.proofs.missing.is_complete.Goals as goal

pub returns-then-not-are_all_answered : goal.returns-then-not-are_all_answered
returns-then-not-are_all_answered c = fewer c.if-not-are_all_answered.ensures

pub returns : goal.returns
returns c = complete_or (requests_of c.args.sessions.now) c.args.entries.now c.args.outs.now c.in_ok-commits.commits.keys
    c.are_named.result c.in_ok-commits.ensures c.if-not-are_all_answered.ensures c.are_named.ensures
