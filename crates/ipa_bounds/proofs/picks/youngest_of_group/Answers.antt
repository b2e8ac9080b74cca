use Rattle.std.proofs.Common.{arith, sym, ◌∙◌}
use Rattle.ipa_bounds.specs.Picks.{pick_ages}
use Rattle.ipa_bounds.proofs.GroupLemmas.{member-counted}
use Rattle.ipa_bounds.proofs.PickLemmas.{walked-start, walked-next, walked-end, next-true}
use Rattle.ipa_bounds.proofs.picks.youngest_of_group.Goals as goal

pub loop-fact-init : goal.loop-fact-init
loop-fact-init g c = walked-start _ c.args.bound.now c.args.key.now (g.V.View.facts c.args.view.now)

pub age_to-age-requires : goal.age_to-age-requires
age_to-age-requires g c = next-true (g.V.AgedView.ages c.args.view.now) c.args.bound.now c.args.key.now (g.V.View.facts c.args.view.now) c.loop-fact.last c.in-Some.fact c.in-Some.ensures.rising c.in-Some.ensures.value

pub loop-fact-smaller : goal.loop-fact-smaller
loop-fact-smaller g c =
    let more = member-counted c.args.bound.now c.args.key.now (g.V.View.facts c.args.view.now) c.loop-fact.last c.in-Some.fact c.in-Some.ensures.rising c.in-Some.ensures.value in
    omega arith

pub loop-fact-preserved : goal.loop-fact-preserved
loop-fact-preserved g c = walked-next (pick_ages c.args.bound.now.pick (g.V.AgedView.ages c.args.view.now)) c.args.bound.now c.args.key.now (g.V.View.facts c.args.view.now)
    c.loop-fact.last c.loop-fact.best c.in-Some.fact _ _ c.in-Some.ensures.rising c.in-Some.ensures.value c.age_to-age.ensures c.loop-fact.invariant c.younger.ensures

pub returns : goal.returns
returns g c = walked-end (pick_ages c.args.bound.now.pick (g.V.AgedView.ages c.args.view.now)) c.args.bound.now c.args.key.now (g.V.View.facts c.args.view.now)
    c.loop-fact.last c.loop-fact.best c.next_member.ensures.rising (sym c.in_default.is ∙ c.next_member.ensures.value) c.loop-fact.invariant
