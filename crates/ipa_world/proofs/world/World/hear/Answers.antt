use Rattle.std.proofs.Common.{◌∙◌, subst}
use Rattle.ipa_clock.specs.declared.cut.Cut.{Cut}
use Rattle.ipa_gate.specs.Agreements.{IsCoveredTo}
use Rattle.ipa_world.proofs.PlaceLemmas.{sends_few, receives_few, sender_at, peer_at, heard-covered, covered-heard}
use Rattle.ipa_world.proofs.StepLemmas.{heard_here, standing_heard}
use Rattle.ipa_world.proofs.world.World.hear.Goals as goal

pub covered_to-requires : goal.covered_to-requires
covered_to-requires c =
    let link = c.requires.link in
    let log_there = sender_at c.self.inside.setting c.self.inside.logs.items c.self.inside.seats.items
    c.self.inside.senders.items c.args.self.now c.self.view_is c.self.invariant.standing c.args.from c.args.to link.sends
    link.receives c.index-log.result.now c.index-log.ensures in
    let known_there = peer_at c.self.inside.setting c.self.inside.logs.items c.self.inside.seats.items
    c.self.inside.senders.items c.args.self.now c.self.view_is c.self.invariant.standing c.args.from c.args.to link.sends
    link.receives c.index_mut-sender.result.now c.index_mut-sender.ensures.value in
    let few = receives_few c.self.inside.setting c.self.inside.logs.items c.self.inside.seats.items
    c.self.inside.senders.items c.args.self.now c.self.view_is c.self.invariant.standing c.args.from c.args.to link.sends
    link.receives in
    heard-covered c.index-log.result.now.entries c.index_mut-sender.result.now c.args.clock.now c.peer_has-known.result _
    (c.peer_has-known.ensures ∙ c.heard.ensures)
    (c.self.invariant.covered.each c.args.from c.args.to c.index-log.result.now c.index_mut-sender.result.now few
    log_there known_there)

pub invariant_of-self : goal.invariant_of-self
invariant_of-self c =
    let link = c.requires.link in
    let log_there = sender_at c.self.inside.setting c.self.inside.logs.items c.self.inside.seats.items
    c.self.inside.senders.items c.args.self.now c.self.view_is c.self.invariant.standing c.args.from c.args.to link.sends
    link.receives c.index-log.result.now c.index-log.ensures in
    let known_there = peer_at c.self.inside.setting c.self.inside.logs.items c.self.inside.seats.items
    c.self.inside.senders.items c.args.self.now c.self.view_is c.self.invariant.standing c.args.from c.args.to link.sends
    link.receives c.index_mut-sender.result.now c.index_mut-sender.ensures.value in
    let sends = sends_few c.self.inside.setting c.self.inside.logs.items c.self.inside.seats.items
    c.self.inside.senders.items c.args.self.now c.self.view_is c.self.invariant.standing c.args.from c.args.to link.sends
    link.receives in
    let few = receives_few c.self.inside.setting c.self.inside.logs.items c.self.inside.seats.items
    c.self.inside.senders.items c.args.self.now c.self.view_is c.self.invariant.standing c.args.from c.args.to link.sends
    link.receives in
    record {
      standing = standing_heard c.self.inside.setting c.self.inside.logs.items c.self.inside.seats.items
          c.self.inside.senders.items c.args.self.now c.self.view_is c.self.invariant.standing c.args.from c.args.to link
          c.index_mut-sender.result.now c.index_mut-sender.ensures.value c.args.clock.now c.heard.new.self
          c.heard.ensures;
      read = c.self.invariant.read;
      covered = covered-heard c.self.inside.logs.items c.self.inside.senders.items c.self.inside.covered
          c.self.invariant.covered c.args.from c.args.to sends few c.index-log.result.now log_there
          c.index_mut-sender.result.now c.heard.new.self known_there c.covered_to.result
          (subst (λ (k : Cut). IsCoveredTo c.index-log.result.now.entries k c.covered_to.result) c.peer_has-known.ensures
          c.covered_to.ensures.covered);
    }

pub returns-clause-stepped : goal.returns-clause-stepped
returns-clause-stepped c =
    heard_here c.self.inside.setting c.self.inside.logs.items c.self.inside.seats.items c.self.inside.senders.items
    c.args.self.now c.self.view_is c.self.invariant.standing c.args.from c.args.to c.requires.link c.index_mut-sender.result.now
    c.index_mut-sender.ensures.value c.args.clock.now c.heard.new.self c.heard.ensures
