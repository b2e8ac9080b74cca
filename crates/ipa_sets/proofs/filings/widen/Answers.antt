use Rattle.std.proofs.Common.{rules, ◌∙◌, ◌≡◌, Some}
use Rattle.std.specs.BTreeMap.{get}
use Rattle.ipa_sets.specs.Keys.{key_cmp}
use Rattle.ipa_sets.proofs.FilingLemmas.{put_key, put_roomier, some_filed, some_room}
use Rattle.ipa_sets.proofs.filings.widen.Goals as goal

pub returns-in_err-reserve-in-Some-clause-roomier : goal.returns-in_err-reserve-in-Some-clause-roomier
returns-in_err-reserve-in-Some-clause-roomier c =
    let found = c.in-Some.ensures.value in
    let was : get key_cmp c.args.lists.now c.args.key.now ≡ Some c.in-Some.numbers.now = search rules in
    put_roomier c.args.lists.now (c.get_mut.follows.lender c.reserve.new.self) c.args.key.now c.reserve.new.self
    (((c.get_mut.follows.holds c.reserve.new.self).3 (search rules)).0)
    (λ o. c.reserve.ensures.same o ∙ some_filed c.args.lists.now c.args.key.now o c.in-Some.numbers.now was)
    (λ o h. c.reserve.ensures.stay o (some_room c.args.lists.now c.args.key.now o c.in-Some.numbers.now was ∙ h))

pub returns-in_ok-reserve-in-Some-clause-roomier : goal.returns-in_ok-reserve-in-Some-clause-roomier
returns-in_ok-reserve-in-Some-clause-roomier c =
    let found = c.in-Some.ensures.value in
    let was : get key_cmp c.args.lists.now c.args.key.now ≡ Some c.in-Some.numbers.now = search rules in
    put_roomier c.args.lists.now (c.get_mut.follows.lender c.reserve.new.self) c.args.key.now c.reserve.new.self
    (((c.get_mut.follows.holds c.reserve.new.self).3 (search rules)).0)
    (λ o. c.reserve.ensures.same o ∙ some_filed c.args.lists.now c.args.key.now o c.in-Some.numbers.now was)
    (λ o h. c.reserve.ensures.stay o (some_room c.args.lists.now c.args.key.now o c.in-Some.numbers.now was ∙ h))

pub returns-in_err-reserve-in-Some-clause-keys : goal.returns-in_err-reserve-in-Some-clause-keys
returns-in_err-reserve-in-Some-clause-keys c = put_key c.args.lists.now (c.get_mut.follows.lender c.reserve.new.self)
    c.args.key.now c.reserve.new.self (((c.get_mut.follows.holds c.reserve.new.self).3 (search rules)).0)

pub returns-in_ok-reserve-in-Some-clause-keys : goal.returns-in_ok-reserve-in-Some-clause-keys
returns-in_ok-reserve-in-Some-clause-keys c = put_key c.args.lists.now (c.get_mut.follows.lender c.reserve.new.self)
    c.args.key.now c.reserve.new.self (((c.get_mut.follows.holds c.reserve.new.self).3 (search rules)).0)
