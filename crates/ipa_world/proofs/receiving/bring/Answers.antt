use Rattle.std.proofs.Common.{sym, subst}
use Rattle.std.specs.Prelude.{Result, OnOk}
use Rattle.ipa_link.specs.declared.delivery.Delivered.TheVariants.{Taken, Refused}
use Rattle.ipa_world.specs.Seats.{IsGivenTo}
use Rattle.ipa_world.specs.OfferLaws.{taken_given, fault_given, left_given}
use Rattle.ipa_world.specs.declared.steps.WorldFault.{WorldFault}
use Rattle.ipa_world.proofs.ReceiveLemmas.{received, legal_read}
use Rattle.ipa_world.proofs.receiving.bring.Goals as goal

pub deliver_admitted-requires : goal.deliver_admitted-requires
deliver_admitted-requires c = record {
  legal = legal_read c.args.log.now.setting c.args.log.now.entries c.args.bytes.now c.one_frame.ensures c.requires.tx
      c.requires.frame c.requires.givable;
}

pub left-requires : goal.left-requires
left-requires c =
    let is = received c.args.log.now.setting c.args.log.now.entries c.args.bytes.now (Refused c.in-Refused.fault)
    c.deliver_admitted.new.log.entries c.written_is_received.ensures c.in-Refused.ensures.delivery c.requires.tx c.requires.frame in
    fault_given c.args.log.now.setting c.args.log.now.entries c.requires.tx c.requires.givable c.in-Refused.fault is.answered

pub returns-in-Taken-clause-given : goal.returns-in-Taken-clause-given
returns-in-Taken-clause-given c t frame givable =
    let is = received c.args.log.now.setting c.args.log.now.entries c.args.bytes.now (Taken c.in-Taken.field-0)
    c.deliver_admitted.new.log.entries c.written_is_received.ensures c.in-Taken.ensures.delivery t frame in
    taken_given c.args.log.now.setting c.args.log.now.entries t c.in-Taken.field-0 c.deliver_admitted.new.log.entries
    is.answered is.left

pub returns-in-Refused-clause-given : goal.returns-in-Refused-clause-given
returns-in-Refused-clause-given c t frame givable =
    let is = received c.args.log.now.setting c.args.log.now.entries c.args.bytes.now (Refused c.in-Refused.fault)
    c.deliver_admitted.new.log.entries c.written_is_received.ensures c.in-Refused.ensures.delivery t frame in
    subst (λ (r : Result (Unit {0}) WorldFault). OnOk r (IsGivenTo c.args.log.now.entries t c.deliver_admitted.new.log.entries))
    (sym c.left.ensures)
    (left_given c.args.log.now.setting c.args.log.now.entries t givable c.in-Refused.fault is.answered
    c.deliver_admitted.new.log.entries is.left)
