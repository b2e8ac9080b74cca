use Rattle.std.proofs.Common.{◌≡◌, take}
use Rattle.ipa_history.specs.Histories.{IsMember}
use Rattle.ipa_history.specs.declared.history.Tx.{Tx}
use Rattle.ipa_frame.specs.Frames.{IsFrame}
use Rattle.ipa_frame.specs.declared.frame.Frame.TheVariants.{Carry}
use Rattle.ipa_schedule.specs.Turns.{carried_all}
use Rattle.ipa_schedule.proofs.sending.frames_of.Given as goal

abbrev pub invariant-loop-tx : goal.invariant-loop-tx
invariant-loop-tx l = (l.frames ≡ carried_all (take l.tx-index l.batch))
    × ((t : Tx) → IsMember (take l.tx-index l.batch) t → IsFrame (Carry t))
