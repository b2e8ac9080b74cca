-- A document whose specification is accepted is a setup.
use Rattle.ipa_logic.specs.Acceptance.{IsAccepted}
use Rattle.ipa_reader.specs.Fitting.{IsFitting}
use Rattle.ipa_reader.specs.Setups.{IsSetup as IsSetUp, IsKept}
use Rattle.ipa_reader.specs.declared.document.Document.{Document}
use Rattle.ipa_world.specs.WorldLaws.{IsSetup}
use Rattle.ipa_settings.specs.DocumentSettings.{setting_of}
use Rattle.std.proofs.Common.{refl}

-- a document whose specification is accepted is a setup
pub document-setup : (document : Document) → IsAccepted document.spec →
    IsSetUp document.setup.universe.sizes document.setup.elements document.setup.replicas document.setup.sessions →
    IsKept document.spec document.setup.universe.sizes document.setup.base →
    IsFitting document.spec document.setup.universe.sizes document.setup.elements document.setup.base
    document.setup.sessions →
    IsSetup (setting_of document) document.setup.sessions document.setup.replicas
document-setup document accepted limits kept fitting = record {
  setting = record {
    accepted = accepted;
    sizes = fitting.universe;
    base_state = fitting.state;
    base_keeps = kept.clauses;
    base_within = kept.bounds;
    few = limits.session_count;
  };
  sessions = refl;
  some = limits.some_replica;
  few = limits.replica_count;
  replicas = limits.session_replicas;
  fits = fitting.requests;
}
