use Rattle.std.proofs.Common.{refl}
use Rattle.ipa_schedule.specs.Running.{run_of}
use Rattle.ipa_schedule.proofs.Ending.{end_settled}
use Rattle.ipa_schedule.proofs.runs.finish_of.Goals as goal

pub returns-clause-end : goal.returns-clause-end
returns-clause-end c =
    let run = run_of c.args.world.now c.args.progress in
    let after = run_of c.settle.new.world c.settle.new.progress in
    let settled = c.in_ok-settle.ensures.went in
    let is = c.in_ok-end_of.ensures.end after refl refl in
    record {
      after = after;
      settled = settled.0;
      going = settled.1;
      later = c.in_ok-settle.ensures.later;
      end_is = is;
      lawful = end_settled run after c.in_ok-end_of.field-0 c.law_world_is_lawful.ensures.lawful c.requires.done settled.0
          settled.1 is;
    }
