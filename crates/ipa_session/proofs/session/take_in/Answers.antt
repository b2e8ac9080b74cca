use Rattle.std.proofs.Common.{inl, inr}
use Rattle.std.proofs.lemmas.Bool.{false≢true}
use Rattle.ipa_session.proofs.session.take_in.Goals as goal

pub returns-in-Ok-clause-taken : goal.returns-in-Ok-clause-taken
returns-in-Ok-clause-taken c base taken is history = c.in-Ok.ensures.taken base taken is history

pub returns-in-Ok-clause-kept : goal.returns-in-Ok-clause-kept
returns-in-Ok-clause-kept c u ready = c.take.ensures.kept u ready

pub returns-in-Err-clause-taken : goal.returns-in-Err-clause-taken
returns-in-Err-clause-taken c base taken is history = elim c.requires [
  | inl room ↦ absurd (false≢true (c.in-Err.ensures.room 0 room).0)
  | inr ready ↦ absurd (false≢true (c.in-Err.ensures.ready ready))
]

pub returns-in-Err-clause-kept : goal.returns-in-Err-clause-kept
returns-in-Err-clause-kept c u ready = c.take.ensures.kept u ready
