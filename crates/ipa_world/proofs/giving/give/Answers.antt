use Rattle.std.proofs.Common.{sym, subst}
use Rattle.std.specs.Prelude.{Result, OnOk}
use Rattle.ipa_world.specs.Seats.{IsGivenTo}
use Rattle.ipa_world.specs.OfferLaws.{legal_given, fault_given, left_given}
use Rattle.ipa_world.specs.declared.steps.WorldFault.{WorldFault}
use Rattle.ipa_world.proofs.giving.give.Goals as goal

pub admit-requires : goal.admit-requires
admit-requires c = record { legal = legal_given c.args.log.now.setting c.args.log.now.entries c.args.tx c.requires }

pub left-requires : goal.left-requires
left-requires c =
    fault_given c.args.log.now.setting c.args.log.now.entries c.args.tx c.requires c.in-Err.fault c.in-Err.ensures.refused

pub returns-in-Err-clause-given : goal.returns-in-Err-clause-given
returns-in-Err-clause-given c =
    subst (λ (r : Result (Unit {0}) WorldFault). OnOk r (IsGivenTo c.args.log.now.entries c.args.tx c.admit.new.self.entries))
    (sym c.left.ensures)
    (left_given c.args.log.now.setting c.args.log.now.entries c.args.tx c.requires c.in-Err.fault c.in-Err.ensures.refused
    c.admit.new.self.entries c.in-Err.ensures.unchanged)
