-- The setting in which a document is run.
--
--   setting_of document    its specification, its universe and base, and the number of its sessions
use Rattle.std.specs.Prelude.{length}
use Rattle.ipa_gate.specs.Settings.{SettingParts}
use Rattle.ipa_reader.specs.declared.document.Document.{Document}

-- the specification, the universe, the base and the number of sessions
abbrev pub setting_of : Document → SettingParts
setting_of document = record {
  spec = document.spec;
  universe = document.setup.universe.sizes;
  base = document.setup.base;
  sessions = length document.setup.sessions;
}
