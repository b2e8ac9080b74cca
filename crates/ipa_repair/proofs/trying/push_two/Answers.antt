use Rattle.std.proofs.Common.{◌||◌}
use Rattle.std.proofs.lemmas.Result.{on_ok_weaker}
use Rattle.ipa_repair.proofs.ClearLemmas.{two_passed-alone, two_passed, two_taken}
use Rattle.ipa_repair.proofs.trying.push_two.Goals as goal

pub returns-then-first : goal.returns-then-first
returns-then-first c = two_passed-alone c.args.spec.now c.args.left c.args.right c.args.first c.args.second c.requires.first c.requires.second c.args.offers.now (λ i. c.if-first.true i || c.args.second.clears)

pub returns-then-second : goal.returns-then-second
returns-then-second c = two_passed-alone c.args.spec.now c.args.left c.args.right c.args.first c.args.second c.requires.first c.requires.second c.args.offers.now (λ i. c.if-first.false i || c.if-second.true i)

pub returns-then-not-branch : goal.returns-then-not-branch
returns-then-not-branch c =
    two_passed c.args.spec.now c.args.left c.args.right c.args.first c.args.second c.requires.first c.requires.second c.in_ok-parts.parts c.as_slice.result.now c.in_ok-clears.field-0 c.args.offers.now
    c.as_slice.ensures c.in_ok-parts.ensures c.if-not-branch.true c.in_ok-clears.ensures

pub returns : goal.returns
returns c =
    on_ok_weaker c.push.result
    (λ grown. two_taken c.args.spec.now c.args.left c.args.right c.args.first c.args.second c.requires.first c.requires.second c.in_ok-parts.parts c.as_slice.result.now c.in_ok-clears.field-0 c.args.offers.now c.push.new.self
    c.as_slice.ensures c.in_ok-parts.ensures c.if-not-branch.false c.in_ok-clears.ensures (λ i. c.if-first.false i || c.if-second.false i) grown)
    c.push.ensures.ok
