-- Only a large setup has a world that is stuck.
--
--   lawful-room     a lawful world has room
--   stuck-large     the law
use Rattle.std.proofs.Common.{◌≡◌, ℕ, ◌<◌, ◌≤◌, List, length, map, sym, ◌∙◌, subst, arith}
use Rattle.std.proofs.lemmas.List.{length-map}
use Rattle.ipa_spec.specs.Fits.{IsFit}
use Rattle.ipa_logic.specs.declared.facts.Request.{Request}
use Rattle.ipa_reader.specs.declared.sessions.SessionWork.{SessionWork}
use Rattle.ipa_gate.specs.Settings.{SettingParts}
use Rattle.ipa_gate.specs.Logs.{most}
use Rattle.ipa_world.specs.Worlds.{WorldParts, start_of}
use Rattle.ipa_world.specs.Room.{HasRoom}
use Rattle.ipa_world.specs.Lawful.{IsLawful}
use Rattle.ipa_schedule.specs.Running.{requests_of}
use Rattle.ipa_full_laws.specs.Large.{do_count, most_entries}
use Rattle.ipa_full_laws.specs.Setups.{most_entries_of}
use Rattle.ipa_full_laws.proofs.Counted.{entries-few}
use Rattle.ipa_full_laws.proofs.Kept.{IsKept, first-requests}
use Rattle.ipa_full_laws.proofs.Overfull.{overfull-stuck}
use Rattle.ipa_full_laws.proofs.Stuck.{IsStuck}

-- a lawful world has room
pub lawful-room : (w : WorldParts) → IsLawful w → HasRoom w
lawful-room w is = record { each = λ r log at. (is.logs.logs r log at).few }

-- a setup with a world that is stuck is large
pub stuck-large : (s : SettingParts) → IsFit s.spec → (works : List SessionWork) (n : ℕ) (w : WorldParts) →
    IsKept (start_of s works n) w → IsLawful w → IsStuck w → most < most_entries_of s works
stuck-large s fit works n w kept is stuck =
    let over = overfull-stuck w is stuck in
    let few : length over.history
    ≤ most_entries (length (requests_of w)) (length w.setting.base) (do_count (requests_of w)) =
    entries-few w.setting.spec (subst (λ (p : SettingParts). IsFit p.spec) (sym kept.setting) fit) w.setting.universe
    w.setting.base (requests_of w) over.outcomes over.history over.legal over.asked in
    let asked : requests_of w ≡ map (λ (work : SessionWork). work.requests) works =
    kept.requests ∙ first-requests works in
    let whole : length over.history ≤ most_entries_of s works =
    subst (λ (sessions : ℕ). length over.history ≤ most_entries sessions (length s.base)
    (do_count (map (λ (work : SessionWork). work.requests) works)))
    (length-map works (λ (work : SessionWork). work.requests))
    (subst (λ (rs : List (List Request)). length over.history ≤ most_entries (length rs) (length s.base) (do_count rs))
    asked
    (subst (λ (p : SettingParts). length over.history
    ≤ most_entries (length (requests_of w)) (length p.base) (do_count (requests_of w))) kept.setting few)) in
    let size = over.size in
    omega (arith, whole, size)
