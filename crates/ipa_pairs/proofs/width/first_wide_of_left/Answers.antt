use Rattle.ipa_pairs.specs.Width.{IsOfPair}
use Rattle.ipa_pairs.specs.Triples.{triple, IsOfLeft}
use Rattle.ipa_pairs.proofs.OrderLemmas.{IsOfLeftBelow}
use Rattle.ipa_pairs.proofs.WidthLemmas.{first-part, part_left}
use Rattle.ipa_pairs.proofs.width.first_wide_of_left.Goals as goal

pub returns-in-Some : goal.returns-in-Some
returns-in-Some c =
    first-part c.args.spec.now (IsOfLeftBelow c.args.spec.now c.args.left c.loop-place.place) (IsOfPair c.args.spec.now c.args.left c.action_at-right.result)
    (IsOfLeft c.args.spec.now c.args.left) (triple c.in-Some.wide.left c.in-Some.wide.right c.in-Some.wide.clause) c.in-Some.wide.count
    (part_left c.args.spec.now c.args.left c.action_at-right.result c.loop-place.place c.action_at-right.ensures.declared c.action_at-right.ensures.place)
    c.loop-place.invariant c.in-Some.ensures
