-- How many entries the sessions of a setup can make.
--
--   most_entries_of setting works     over the setting's base, where the sessions have this work
use Rattle.std.specs.Prelude.{ℕ, List, length, map}
use Rattle.ipa_reader.specs.declared.sessions.SessionWork.{SessionWork}
use Rattle.ipa_gate.specs.Settings.{SettingParts}
use Rattle.ipa_full_laws.specs.Large.{do_count, most_entries}

-- over the setting's base, where the sessions have this work
abbrev pub most_entries_of : SettingParts → List SessionWork → ℕ
most_entries_of s works =
    most_entries (length works) (length s.base) (do_count (map (λ work. work.requests) works))
