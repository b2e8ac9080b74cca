use Rattle.std.proofs.Common.{◌≡◌, Some, sym, subst, slice_get, rules}
use Rattle.ipa_spec.specs.Actions.{effects_of}
use Rattle.ipa_sets.specs.Filings.{HasRoomFor, IsFiledAt}
use Rattle.ipa_sets.specs.declared.keys.Key.{Key}
use Rattle.ipa_sets.proofs.TakingLemmas.{files_at}
use Rattle.ipa_sets.proofs.taking.file_effect_at.Goals as goal

pub file-requires-clause-room : goal.file-requires-clause-room
file-requires-clause-room c =
    let at : slice_get (effects_of c.args.spec.now c.args.tx.now.action) c.args.place ≡ Some c.in-Some.effect = search rules in
    subst (λ (k : Key). HasRoomFor c.args.filed.now.lists k c.args.tx.now.dot.origin c.args.tx.now.dot.number) (sym c.key_of-key.ensures)
    (c.requires.rooms.each c.args.place c.in-Some.effect at)

pub returns-in-Some : goal.returns-in-Some
returns-in-Some c =
    let at : slice_get (effects_of c.args.spec.now c.args.tx.now.action) c.args.place ≡ Some c.in-Some.effect = search rules in
    files_at c.args.spec.now c.args.tx.now c.args.filed.now.lists c.file.new.self.lists c.args.place c.in-Some.effect at
    (subst (λ (k : Key). IsFiledAt k c.args.tx.now.dot.origin c.args.tx.now.dot.number c.args.filed.now.lists c.file.new.self.lists)
    c.key_of-key.ensures c.file.ensures)
