use Rattle.ipa_gate.proofs.entries.entry_named.Goals as goal

pub returns : goal.returns
returns c = c.find.ensures c.args.setting.now.spec c.requires
