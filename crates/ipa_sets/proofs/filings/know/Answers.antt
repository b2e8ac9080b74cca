use Rattle.std.proofs.Common.{sym, ◌∙◌}
use Rattle.ipa_sets.proofs.FilingLemmas.{put_key, put_roomier, none_filed, no_room}
use Rattle.ipa_sets.proofs.filings.know.Goals as goal

pub returns-clause-roomier : goal.returns-clause-roomier
returns-clause-roomier c = put_roomier c.args.lists.now c.insert.new.self c.args.key c.reserve.new.self
    c.in_ok-insert.ensures.updates.0
    (λ o. c.reserve.ensures.same o ∙ (c.new-numbers.ensures o ∙ sym (none_filed c.args.lists.now c.args.key o c.requires.absent)))
    (λ o h. absurd (no_room c.args.lists.now c.args.key o c.requires.absent h))

pub returns-clause-keys : goal.returns-clause-keys
returns-clause-keys c = put_key c.args.lists.now c.insert.new.self c.args.key c.reserve.new.self
    c.in_ok-insert.ensures.updates.0
