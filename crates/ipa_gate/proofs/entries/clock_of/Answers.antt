use Rattle.ipa_gate.proofs.entries.clock_of.Goals as goal

pub returns : goal.returns
returns c = c.clock.ensures c.args.setting.now.spec c.requires
