use Rattle.ipa_reader.proofs.SoundDocuments.{sound_standing}
use Rattle.ipa_reader.proofs.SoundFitting.{fitting}
use Rattle.ipa_reader.proofs.document_laws.standing_is_sound.Goals as goal

pub returns : goal.returns
returns c = record { sound = sound_standing; fitting = fitting }
