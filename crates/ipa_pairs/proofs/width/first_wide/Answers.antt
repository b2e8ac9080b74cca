use Rattle.ipa_pairs.specs.Width.{IsDeclared}
use Rattle.ipa_pairs.specs.Triples.{triple, IsOfLeft}
use Rattle.ipa_pairs.proofs.OrderLemmas.{IsBelow}
use Rattle.ipa_pairs.proofs.WidthLemmas.{first-part, part_all}
use Rattle.ipa_pairs.proofs.width.first_wide.Goals as goal

pub returns-in-Some : goal.returns-in-Some
returns-in-Some c =
    first-part c.args.spec.now (IsBelow c.args.spec.now c.loop-place.place) (IsOfLeft c.args.spec.now c.action_at.result)
    (IsDeclared c.args.spec.now) (triple c.in-Some.wide.left c.in-Some.wide.right c.in-Some.wide.clause) c.in-Some.wide.count
    (part_all c.args.spec.now c.action_at.result c.loop-place.place c.action_at.ensures.declared c.action_at.ensures.place)
    c.loop-place.invariant c.in-Some.ensures
