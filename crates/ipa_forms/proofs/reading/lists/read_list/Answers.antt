use Rattle.ipa_forms.specs.ListingLaws.{none_closed}
use Rattle.ipa_forms.proofs.reading.lists.read_list.Goals as goal

pub returns-then-not-take_sign-2 : goal.returns-then-not-take_sign-2
returns-then-not-take_sign-2 g c =
    let read = rw c.in-Some.is at c.in_ok-members.ensures in
    let lacks = c.if-take_sign.ensures in
    let joined = rw lacks.0 at read in
    let ended = c.if-not-take_sign-2.ensures in
    none_closed g.M.Member.said g.met.M.Member.unmixed c.args.words.now c.take_sign.new.words c.read_joined.new.words c.in-Some.members c.if-not-take_sign.ensures lacks.1 joined ended.1
