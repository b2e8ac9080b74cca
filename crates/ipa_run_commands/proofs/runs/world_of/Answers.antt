use Rattle.ipa_run_commands.proofs.RunLemmas.{first-of, new-of}
use Rattle.ipa_run_commands.proofs.runs.world_of.Goals as goal

pub returns-clause-first : goal.returns-clause-first
returns-clause-first c = first-of c.args.document.now c.in_ok-setting.setting c.in_ok-setting.ensures c.new.result c.new.ensures

pub returns-clause-new : goal.returns-clause-new
returns-clause-new c = new-of c.args.document.now c.in_ok-setting.setting c.in_ok-setting.ensures (c.kept_by_type.ensures.setup c.args.document.now.setup).some_replica c.new.result c.new.ensures
