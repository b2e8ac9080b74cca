use Rattle.std.proofs.Common.{refl, arith}
use Rattle.ipa_gate.proofs.CutLemmas.{within_from, closed_from}
use Rattle.ipa_gate.proofs.offers.judged_fresh.Goals as goal

pub returns-in-Some-clause-refused : goal.returns-in-Some-clause-refused
returns-in-Some-clause-refused c =
    let gap = c.in-Some.ensures in
    record {
      fresh = c.requires.fresh;
      has = c.clock_of-clock.ensures c.in-Some.origin gap.origin;
      needs = refl;
      lacks = gap.lacks;
      least = λ o l.
          let low = gap.origin in
          let below = gap.least o l in
          let count = c.clock_of-clock.ensures o (omega (arith, l, low)) in
          omega (arith, below, count);
    }

pub open_member-requires-clause-within : goal.open_member-requires-clause-within
open_member-requires-clause-within c =
    within_from c.args.index.now.entries c.args.tx.now.cut c.clock_of-clock.result c.args.setting.now.sessions
    c.accepted-accepted.ensures.setting.few c.requires.fresh.shaped.others c.clock_of-clock.ensures c.in_default.ensures

pub returns-in-Some-open_member-clause-refused : goal.returns-in-Some-open_member-clause-refused
returns-in-Some-open_member-clause-refused c = record {
  fresh = c.requires.fresh;
  within = within_from c.args.index.now.entries c.args.tx.now.cut c.clock_of-clock.result c.args.setting.now.sessions
      c.accepted-accepted.ensures.setting.few c.requires.fresh.shaped.others c.clock_of-clock.ensures c.in_default.ensures;
  tx = c.in-Some-open_member.open.now;
  first = c.in-Some-open_member.ensures;
  named = refl;
}

pub judged_next-requires-clause-next : goal.judged_next-requires-clause-next
judged_next-requires-clause-next c = record {
  fresh = c.requires.fresh;
  closed = closed_from c.args.index.now.entries c.requires.log.legal.history c.args.tx.now.cut
      (within_from c.args.index.now.entries c.args.tx.now.cut c.clock_of-clock.result c.args.setting.now.sessions
      c.accepted-accepted.ensures.setting.few c.requires.fresh.shaped.others c.clock_of-clock.ensures c.in_default.ensures)
      c.in_default-open_member.ensures;
}
