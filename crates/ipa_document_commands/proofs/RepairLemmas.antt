-- The status of a repair.
--
--   repaired-of_input   it is one that an input can have
use Rattle.std.proofs.Common.{◌≡◌, true, refl}
use Rattle.ipa_repair.specs.declared.steps.Repaired.{Repaired}
use Rattle.ipa_repair.specs.declared.steps.Repaired.TheVariants as end
use Rattle.ipa_command.specs.Statuses.{is_of_input}
use Rattle.ipa_document_commands.specs.Repairs.{repaired_status}

pub repaired-of_input : (r : Repaired) → is_of_input (repaired_status r) ≡ true
repaired-of_input (end.Done next steps) = refl
repaired-of_input (end.Stuck s steps analysis) = refl
