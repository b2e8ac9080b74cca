use Rattle.std.proofs.Common.{ℕ}
use Rattle.ipa_history.specs.declared.outcomes.Fate.{Fate}
use Rattle.ipa_weather.proofs.Batches.{IsUnderWay}
use Rattle.ipa_weather.proofs.arrivals.pass_each.Given as goal

abbrev pub invariant-loop-frame : goal.invariant-loop-frame
invariant-loop-frame g l =
    let was = goal.Weather-dyn g (l.fn.weather.vtable, l.fn.weather.value) in
    let is = goal.Weather-dyn g (l.weather.vtable, l.weather.value) in
    let first : ℕ → Fate = was.due l.fn.weather.value in
    let now : ℕ → Fate = is.due l.weather.value in
    let before : ℕ = was.asked l.fn.weather.value in
    let since : ℕ = is.asked l.weather.value in
    IsUnderWay first now before since l.yielded l.arrived.fates l.arrived.frames l.kept
