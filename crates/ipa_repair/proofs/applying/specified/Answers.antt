use Rattle.ipa_repair.proofs.ApplyLemmas.{refused}
use Rattle.ipa_repair.proofs.applying.specified.Goals as goal

pub returns-in-Ok : goal.returns-in-Ok
returns-in-Ok c = (c.in-Ok.ensures.ok, record { none = c.in-Ok.ensures.faultless })

pub returns-in-Err : goal.returns-in-Err
returns-in-Err c = refused _ _ c.in-Err.ensures.refused
