use Rattle.std.proofs.Common.{get_or}
use Rattle.std.proofs.lemmas.Option.{MatchOption-at_some, MatchOption-at_none}
use Rattle.std.proofs.lemmas.List.Elements.{All-get_or}
use Rattle.ipa_spec.specs.declared.operations.Action.TheVariants.{Op}
use Rattle.ipa_repair.specs.Greedy.{PairConflicts, LessensNothing}
use Rattle.ipa_repair.specs.Stepping.{IsTaken}
use Rattle.ipa_repair.specs.declared.pairs.Pair.{Pair}
use Rattle.ipa_repair.proofs.GreedyLemmas.{all_conflict, first_taken_at, earlier_more_at, all_earlier}
use Rattle.ipa_repair.proofs.greedy.first_step.Goals as goal

pub step_of-requires-clause-conflicts : goal.step_of-requires-clause-conflicts
step_of-requires-clause-conflicts c =
    All-get_or (PairConflicts c.args.spec.now) c.args.pairs.now c.loop-pair.pair-index _ c.loop-pair-test.true
    (all_conflict c.args.spec.now c.args.pairs.now c.requires.pairs)

pub returns-in-Some : goal.returns-in-Some
returns-in-Some c =
    let d : Pair = record { left = Op 0; right = Op 0 } in
    let at = get_or c.args.pairs.now c.loop-pair.pair-index d in
    first_taken_at c.args.spec.now c.args.pairs.now c.loop-pair.pair-index d c.in-Some.taken c.loop-pair-test.true
    (MatchOption-at_some (LessensNothing c.args.spec.now at) (IsTaken c.args.spec.now c.args.pairs.now at) c.in-Some.taken c.in-Some.is c.in_ok-taken.ensures)
    c.loop-pair.invariant

pub loop-pair-preserved : goal.loop-pair-preserved
loop-pair-preserved c =
    let d : Pair = record { left = Op 0; right = Op 0 } in
    let at = get_or c.args.pairs.now c.loop-pair.pair-index d in
    earlier_more_at (LessensNothing c.args.spec.now) c.args.pairs.now c.loop-pair.pair-index d c.loop-pair-test.true c.loop-pair.invariant
    (MatchOption-at_none (LessensNothing c.args.spec.now at) (IsTaken c.args.spec.now c.args.pairs.now at) c.in_default.is c.in_ok-taken.ensures)

pub returns : goal.returns
returns c = all_earlier (LessensNothing c.args.spec.now) c.args.pairs.now c.loop-pair.pair-index c.loop-pair-test.false c.loop-pair.invariant
