use Rattle.ipa_base.proofs.Told.{Consumes-append}
use Rattle.ipa_base.proofs.reading.read_all.Goals as goal

pub returns-in_err-extend_from_slice-clause-given_up :
    goal.returns-in_err-extend_from_slice-clause-given_up
returns-in_err-extend_from_slice-clause-given_up g c =
    (_, Consumes-append _ _ _ _ _ c.loop-piece.invariant.came c.in_ok-count.ensures.bytes.0)
