use Rattle.ipa_world.proofs.SeatLemmas.{on_ok}
use Rattle.ipa_world.proofs.GiveLemmas.{delivered_full}
use Rattle.ipa_world.proofs.world.World.deliver.Goals as goal

pub give_to-requires-clause-entry : goal.give_to-requires-clause-entry
give_to-requires-clause-entry c = record {
  replica = c.args.from;
  log = c.log.result.now.entries;
  log_at = c.log.ensures.entries;
  member = record { place = c.args.place; at = c.entry_at-tx.ensures };
}

pub returns-clause-stepped : goal.returns-clause-stepped
returns-clause-stepped c = on_ok c.give_to.result c.give_to.ensures.given (λ is. record {
  log = c.log.result.now.entries;
  log_at = c.log.ensures.entries;
  tx = c.entry_at-tx.result;
  at = c.entry_at-tx.ensures;
  given = is;
})

pub returns-clause-full : goal.returns-clause-full
returns-clause-full c e = record {
  log = c.log.result.now.entries;
  log_at = c.log.ensures.entries;
  tx = c.entry_at-tx.result;
  at = c.entry_at-tx.ensures;
  full = c.give_to.ensures.full e;
}

pub returns-clause-room : goal.returns-clause-room
returns-clause-room c = on_ok c.give_to.result c.give_to.ensures.room
    (delivered_full c.args.self.now c.args.from c.args.to c.args.place c.log.result.now.entries c.entry_at-tx.result
    c.log.ensures.entries c.entry_at-tx.ensures)
