use Rattle.std.proofs.Common.{refl}
use Rattle.std.specs.List.{All}
use Rattle.std.proofs.lemmas.Option.{MatchOption-at_some}
use Rattle.ipa_repair.specs.Greedy.{LessensNothing}
use Rattle.ipa_repair.specs.Stepping.{IsFirstTaken}
use Rattle.ipa_repair.proofs.GreedyLemmas.{going_on}
use Rattle.ipa_repair.proofs.greedy.+repaired_from.Goals as goal

pub returns-in_ok-grown-in-Some : goal.returns-in_ok-grown-in-Some
returns-in_ok-grown-in-Some g t c = λ start reached.
    let found =
    MatchOption-at_some (All (LessensNothing c.args.spec) c.as_slice-2.result.now) (IsFirstTaken c.args.spec c.as_slice-2.result.now)
    c.in-Some.field-0 c.in-Some.is c.in_ok-first_step.ensures in
    c.repaired_from.ensures start
    (going_on start c.args.spec c.args.pairs c.as_slice-2.result.now c.args.steps c.in_ok-grown-in-Some.grown c.in-Some.field-0 c.in-Some.field-0.step
    c.in-Some.field-0.lessened.next c.as_slice-2.ensures c.requires.pairs found refl refl c.in_ok-grown-in-Some.ensures reached)
