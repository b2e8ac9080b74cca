use Rattle.std.proofs.Common.{subst}
use Rattle.ipa_pairs.specs.Width.{IsOfPair, triple_key}
use Rattle.ipa_pairs.specs.Examples.{IsReportedExample}
use Rattle.ipa_pairs.specs.Analyses.{triple_of, IsInConflict}
use Rattle.ipa_pairs.specs.Collecting.{ExtendsConflicts}
use Rattle.ipa_pairs.proofs.CollectLemmas.{collects-from_extends}
use Rattle.ipa_pairs.proofs.analysing.analyse_pair.Goals as goal

pub returns-clause-conflicts : goal.returns-clause-conflicts
returns-clause-conflicts c =
    let s = c.args.spec.now in
    let pair = IsOfPair s c.args.left c.args.right in
    record {
      narrow = c.in_default.ensures;
      conflicts = collects-from_extends triple_of (triple_key s) (IsReportedExample s) (IsInConflict s) pair c.push_conflicts_of_pair.new.conflicts
          (subst (λ old. ExtendsConflicts s pair old c.push_conflicts_of_pair.new.conflicts) c.new-conflicts.ensures c.in_ok-push_conflicts_of_pair.ensures.extends);
    }
