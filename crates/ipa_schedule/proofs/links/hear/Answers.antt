use Rattle.std.proofs.Common.{◌≡◌, length, rules}
use Rattle.ipa_schedule.proofs.Receiving.{clock_whole}
use Rattle.ipa_schedule.proofs.Ways.{goes_whole}
use Rattle.ipa_schedule.proofs.links.hear.Goals as goal

pub returns-clause-went : goal.returns-clause-went
returns-clause-went c =
    let log = c.log.result.now.entries in
    let at = c.log.ensures.entries in
    let history = (c.law_world_is_lawful.ensures.lawful.logs.logs c.args.to log at).legal.history in
    let sized : length c.clock-clock.result.counts ≡ 16 = search rules in
    goes_whole c.take_step.result c.take_step.new.progress.full _ _ c.take_step.ensures.went (λ moved. record {
      log = log;
      log_at = at;
      clock = c.clock-clock.result;
      clock_is = clock_whole log history c.clock-clock.result sized c.clock-clock.ensures;
      heard = moved;
    })
