use Rattle.std.proofs.Common.{◌≡◌, ℕ, ◌<◌, List, length, Some, slice_get, refl, sym, ◌∙◌, ap, arith}
use Rattle.std.specs.Prelude.{slice_set}
use Rattle.std.proofs.lemmas.List.{length-set, set-get_or}
use Rattle.std.proofs.lemmas.Option.{slice_get_read}
use Rattle.ipa_history.specs.PushLaws.{at_place}
use Rattle.ipa_weather.specs.Arrivals.{Frame}
use Rattle.ipa_schedule.proofs.Gone.{gone_link_as}
use Rattle.ipa_schedule.proofs.Passing.{held_same, held_set}
use Rattle.ipa_schedule.proofs.sending.pass_over.Goals as goal

pub returns-in_err-arrived-clause-held : goal.returns-in_err-arrived-clause-held
returns-in_err-arrived-clause-held g c =
    let items = c.args.progress.now.held.items in
    let now = c.index_mut.result.now in
    held_same c.args.progress.now _ c.args.link c.args.frames
    (ap (λ (x : List Frame). slice_set items c.args.link x) (c.in_err-arrived.ensures.held_stay ∙ c.index_mut.ensures.value)
    ∙ set-get_or items c.args.link now) refl refl

pub returns-in_err-note-clause-held : goal.returns-in_err-note-clause-held
returns-in_err-note-clause-held g c =
    let items = c.args.progress.now.held.items in
    held_set c.args.progress.now _ c.args.link c.args.frames c.in_ok-arrived.arrived.fates
    (ap (λ (x : List Frame). slice_set items c.args.link x) c.in_ok-arrived.ensures.held)
    (length-set items c.args.link c.pass_all.new.held) c.note.ensures.links refl

pub returns-clause-passed : goal.returns-clause-passed
returns-clause-passed g c =
    let items = c.args.progress.now.held.items in
    let now = c.index_mut.result.now in
    let size = c.requires.given in
    let low = c.requires.link in
    let one = at_place c.args.progress.now.fates c.args.link (omega (arith, size, low)) in
    record {
      held = now;
      held_at = slice_get_read items 64 c.args.link now (sym c.requires.held) c.requires.link c.index_mut.ensures.value;
      given = one.0;
      given_at = one.1;
      fates = c.in_ok-arrived.arrived.fates;
      each = c.in_ok-arrived.ensures.each;
      arrived_are = c.in_ok-arrived.ensures.frames;
      held_are = ap (λ (x : List Frame). slice_set items c.args.link x) c.in_ok-arrived.ensures.held;
      fates_are = c.in_ok-note.ensures.noted one.0 one.1;
    }

pub returns-clause-gone : goal.returns-clause-gone
returns-clause-gone g c =
    let were = c.args.weathers.now.items in
    let was = c.index_mut-weather.result.now in
    let size = c.requires.given in
    let low = c.requires.link in
    let one = at_place c.args.progress.now.fates c.args.link (omega (arith, size, low)) in
    let done = c.in_ok-arrived.ensures in
    gone_link_as _ _ were c.args.link was c.pass_all.new.weather c.args.progress.now.fates c.note.new.fates one.0
    c.in_ok-arrived.arrived.fates
    (slice_get_read were 64 c.args.link was (sym c.requires.weathers) c.requires.link c.index_mut-weather.ensures.value)
    one.1 (c.in_ok-note.ensures.noted one.0 one.1)
    (record { given = done.fates; moved = done.moved; counted = done.asked })

pub returns-clause-held : goal.returns-clause-held
returns-clause-held g c =
    let items = c.args.progress.now.held.items in
    held_set c.args.progress.now _ c.args.link c.args.frames c.in_ok-arrived.arrived.fates
    (ap (λ (x : List Frame). slice_set items c.args.link x) c.in_ok-arrived.ensures.held)
    (length-set items c.args.link c.pass_all.new.held) c.note.ensures.links refl
