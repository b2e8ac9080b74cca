use Rattle.std.proofs.Common.{refl}
use Rattle.ipa_sets.proofs.FilingLemmas.{from_ok}
use Rattle.ipa_sets.proofs.IndexLemmas.{last_origin, rooms_for, place_low, rising_for, index_taken}
use Rattle.ipa_sets.proofs.index.Index.put.Goals as goal

pub push_within-requires-clause-empty : goal.push_within-requires-clause-empty
push_within-requires-clause-empty c = let is = c.requires.indexed in is.empty

pub push_within-requires-clause-wide : goal.push_within-requires-clause-wide
push_within-requires-clause-wide c = let ready = c.requires.ready in ready.wide

pub push-requires-clause-origin : goal.push-requires-clause-origin
push-requires-clause-origin c = last_origin c.args.self.now.entries c.args.tx.now c.requires.next

pub push-requires-clause-rising : goal.push-requires-clause-rising
push-requires-clause-rising c = place_low c.args.spec.now c.spec_is_fit.ensures.fit c.args.tx.now c.args.self.now c.requires.indexed
    c.requires.next c.len-place.result c.len-place.ensures

pub file_effects-requires-clause-origin : goal.file_effects-requires-clause-origin
file_effects-requires-clause-origin c = last_origin c.args.self.now.entries c.args.tx.now c.requires.next

pub file_effects-requires-clause-rising : goal.file_effects-requires-clause-rising
file_effects-requires-clause-rising c = rising_for c.args.spec.now c.spec_is_fit.ensures.fit c.args.tx.now c.args.self.now
    c.requires.indexed c.requires.next

pub file_effects-requires-clause-rooms : goal.file_effects-requires-clause-rooms
file_effects-requires-clause-rooms c = rooms_for c.args.spec.now c.spec_is_fit.ensures.fit c.args.tx.now c.args.self.now c.requires.ready

pub returns-clause-indexed : goal.returns-clause-indexed
returns-clause-indexed c =
    let ready = c.requires.ready in
    index_taken c.args.spec.now c.spec_is_fit.ensures.fit c.args.tx.now c.args.self.now c.requires.indexed c.requires.next _ ready
    c.len-place.result c.len-place.ensures c.push_within.ensures.room c.push_within.ensures.history
    (from_ok c.push.result (c.push.ensures.ready ready.place) c.push.ensures.ok)
    c.file_effects.ensures refl c.rules-rules.ensures
