use Rattle.std.proofs.Common.{subst}
use Rattle.ipa_pairs.specs.Width.{IsDeclared, triple_key}
use Rattle.ipa_pairs.specs.Examples.{IsReportedExample}
use Rattle.ipa_pairs.specs.Analyses.{triple_of, IsInConflict}
use Rattle.ipa_pairs.specs.Collecting.{ExtendsConflicts}
use Rattle.ipa_pairs.proofs.CollectLemmas.{collects-from_extends}
use Rattle.ipa_pairs.proofs.collecting.conflicts_in_turn.Goals as goal

pub returns : goal.returns
returns c =
    let s = c.args.spec.now in
    collects-from_extends triple_of (triple_key s) (IsReportedExample s) (IsInConflict s) (IsDeclared s) c.push_conflicts.new.conflicts
    (subst (λ old. ExtendsConflicts s (IsDeclared s) old c.push_conflicts.new.conflicts) c.new-conflicts.ensures
    c.in_ok-push_conflicts.ensures.extends)
