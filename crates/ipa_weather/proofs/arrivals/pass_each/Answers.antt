use Rattle.std.proofs.Common.{ℕ}
use Rattle.ipa_history.specs.declared.outcomes.Fate.{Fate}
use Rattle.ipa_weather.proofs.Batches.{under_way-next}
use Rattle.ipa_weather.proofs.arrivals.pass_each.Goals as goal

pub loop-frame-preserved : goal.loop-frame-preserved
loop-frame-preserved g c =
    let entry = c.args.weather.now in
    let was = c.loop-frame.weather in
    let is = c.pass_one.new.weather in
    let first : ℕ → Fate = (goal.Weather-dyn g (entry.vtable, entry.value)).due entry.value in
    let now : ℕ → Fate = (goal.Weather-dyn g (was.vtable, was.value)).due was.value in
    let next : ℕ → Fate = (goal.Weather-dyn g (is.vtable, is.value)).due is.value in
    let before : ℕ = (goal.Weather-dyn g (entry.vtable, entry.value)).asked entry.value in
    let since : ℕ = (goal.Weather-dyn g (was.vtable, was.value)).asked was.value in
    let then_ : ℕ = (goal.Weather-dyn g (is.vtable, is.value)).asked is.value in
    let done = c.in_ok-pass_one.ensures in
    under_way-next first now next before since then_ c.loop-frame.yielded c.in-Some.frame c.loop-frame.arrived.fates c.pass_one.new.arrived.fates c.loop-frame.arrived.frames c.pass_one.new.arrived.frames c.loop-frame.kept c.pass_one.new.held c.loop-frame.invariant done.moved done.asked done.fate done.frames done.held
