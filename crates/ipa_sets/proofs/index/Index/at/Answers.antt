use Rattle.ipa_sets.specs.AtCutLaws.{facts_at-state, age_shown-age}
use Rattle.ipa_sets.proofs.index.Index.at.Goals as goal

pub returns-clause-state : goal.returns-clause-state
returns-clause-state c s is = facts_at-state s c.args.self.now is c.args.base.now c.args.cut.now
    c.stands_in_order.ensures c.stands_in_order-2.ensures

pub returns-clause-ages : goal.returns-clause-ages
returns-clause-ages c s f is h = age_shown-age s c.args.self.now is c.args.base.now c.args.cut.now f
