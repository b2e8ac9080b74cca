use Rattle.std.proofs.Common.{◌∙◌, subst}
use Rattle.ipa_spec.specs.declared.specification.Specification.{Specification}
use Rattle.ipa_sets.specs.Indexes.{IsReadyFor}
use Rattle.ipa_gate.proofs.offers.prepare.Goals as goal

pub returns-clause-ready : goal.returns-clause-ready
returns-clause-ready c =
    subst (λ (s : Specification). IsReadyFor s c.args.tx.now c.prepare.new.self) (c.spec.ensures.spec ∙ c.accepted.ensures.spec)
    c.in_ok-prepare.ensures.ready
