use Rattle.std.proofs.Common.{◌≡◌, arith}
use Rattle.ipa_pairs.specs.Width.{IsOfPair}
use Rattle.ipa_pairs.specs.Triples.{triple}
use Rattle.ipa_pairs.proofs.OrderLemmas.{IsOfPairBelow}
use Rattle.ipa_pairs.proofs.WidthLemmas.{first-part, first-one, part_pair}
use Rattle.ipa_pairs.proofs.width.first_wide_of_pair.Goals as goal

pub returns-in-Some : goal.returns-in-Some
returns-in-Some c =
    first-part c.args.spec.now (IsOfPairBelow c.args.left c.args.right c.loop-number.number) (λ t. t ≡ triple c.args.left c.args.right c.loop-number.number)
    (IsOfPair c.args.spec.now c.args.left c.args.right) (triple c.args.left c.args.right c.loop-number.number) c.in-Some.count
    (part_pair c.args.spec.now c.args.left c.args.right c.loop-number.number (omega (arith, c.clause_count-number-end.ensures, c.loop-number-test.true)))
    c.loop-number.invariant (first-one c.args.spec.now c.args.left c.args.right c.loop-number.number c.in-Some.count c.in-Some.ensures)
