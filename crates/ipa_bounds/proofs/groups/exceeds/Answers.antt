use Rattle.std.proofs.Common.{arith, sym, ◌∙◌, refl}
use Rattle.ipa_bounds.proofs.GroupLemmas.{group-counted, member-counted, members-counted}
use Rattle.ipa_bounds.proofs.groups.exceeds.Goals as goal

pub loop-fact-init : goal.loop-fact-init
loop-fact-init g c = record { counted = group-counted c.args.bound.now c.args.key.now (g.V.View.facts c.args.view.now); few = omega arith }

pub returns-then-count-bound : goal.returns-then-count-bound
returns-then-count-bound g c =
    let more = member-counted c.args.bound.now c.args.key.now (g.V.View.facts c.args.view.now) c.loop-fact.last c.in-Some.fact c.in-Some.ensures.rising c.in-Some.ensures.value in
    (λ _. omega (arith, c.loop-fact.invariant.counted), λ _. refl)

pub loop-fact-preserved : goal.loop-fact-preserved
loop-fact-preserved g c =
    let more = member-counted c.args.bound.now c.args.key.now (g.V.View.facts c.args.view.now) c.loop-fact.last c.in-Some.fact c.in-Some.ensures.rising c.in-Some.ensures.value in
    record { counted = omega (arith, c.loop-fact.invariant.counted); few = omega (arith, c.loop-fact.invariant.few) }

pub returns : goal.returns
returns g c =
    let none = members-counted c.args.bound.now c.args.key.now (g.V.View.facts c.args.view.now) c.loop-fact.last (sym c.in_default.is ∙ c.next_member.ensures.value) in
    let few = c.loop-fact.invariant.few in
    (λ h. cc, λ h. absurd (omega (arith, c.loop-fact.invariant.counted)))
