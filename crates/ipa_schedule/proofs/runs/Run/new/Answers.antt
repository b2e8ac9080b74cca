use Rattle.std.proofs.Common.{◌≡◌, ◌<◌, List, length, ap, sym, ◌∙◌, subst, arith}
use Rattle.std.proofs.lemmas.List.{length-replicate}
use Rattle.ipa_world.specs.Worlds.{WorldParts}
use Rattle.ipa_schedule.proofs.Beginning.{some_new}
use Rattle.ipa_schedule.proofs.runs.Run.new.Goals as goal

pub invariant_of-result : goal.invariant_of-result
invariant_of-result c = record {
  some = some_new c.args.world c.requires;
  way = c.in_ok-progress.ensures.way c.args.world;
  planned = record { begun = 0; at = c.in_ok-plan.ensures.at };
}

pub returns-clause-run : goal.returns-clause-run
returns-clause-run c = c.in_ok-progress.ensures.begun c.args.world
