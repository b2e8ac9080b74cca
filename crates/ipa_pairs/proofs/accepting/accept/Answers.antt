use Rattle.ipa_pairs.proofs.AcceptLemmas.{accepted-from_empty, rejected}
use Rattle.ipa_pairs.proofs.accepting.accept.Goals as goal

pub invariant_of-result : goal.invariant_of-result
invariant_of-result g c =
    accepted-from_empty c.args.spec c.in_ok-analysis.analysis c.in_ok-analysis.ensures.analysis c.if-is_clean.ensures.conflicts c.if-is_clean.ensures.unsafe_drops

pub returns-clause-fault : goal.returns-clause-fault
returns-clause-fault g c =
    rejected c.args.spec c.in_ok-analysis.analysis (c.conflicts_are_on_patterns.ensures.conflict c.args.spec) (c.unsafe_drops_are_on_patterns.ensures.breaks c.args.spec)
    c.in_ok-analysis.ensures.analysis c.if-is_clean.ensures
