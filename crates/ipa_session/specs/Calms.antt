-- The calm cut of a session.
--
--   IsCalmOf s base seen calm     the state at the calm cut is within the bounds, and the first so many that were seen
--                                 are in the cut
--   IsSpared s state cut t        the transaction spares the bounds of the state, or is in the cut
--   first_calm                    the calm cut of a session that has seen nothing
--   next_calm action old whole    that after a session's next transaction: the whole cut after an operation, and the
--                                 old one after a drop
use Rattle.std.specs.Prelude.{List}
use Rattle.ipa_clock.specs.declared.cut.Cut.{Cut}
use Rattle.ipa_clock.specs.Cut.{Covers, empty}
use Rattle.ipa_spec.specs.declared.specification.Specification.{Specification}
use Rattle.ipa_spec.specs.declared.operations.Action.{Action}
use Rattle.ipa_spec.specs.declared.operations.Action.TheVariants.{Op, Drop}
use Rattle.ipa_logic.specs.declared.facts.Fact.{Fact}
use Rattle.ipa_history.specs.declared.history.Tx.{Tx}
use Rattle.ipa_overfill.specs.CalmLaws.{IsCalm}
use Rattle.ipa_overfill.specs.Overfills.{Spares}
use Rattle.ipa_gate.specs.Fronts.{HasFront}
use Rattle.ipa_session.specs.declared.calm.Calm.{Calm}

-- the state at the calm cut is within the bounds, and the first so many that were seen are in the cut
pub record IsCalmOf (s : Specification) (base : List Fact) (seen : List Tx) (calm : Calm) : Type 0 where
  pub is_calm : IsCalm s base seen calm.cut
  pub front : HasFront (λ (t : Tx). Covers calm.cut t.dot) seen calm.count

-- the transaction spares the bounds of the state, or is in the cut
pub record IsSpared (s : Specification) (state : List Fact) (cut : Cut) (t : Tx) : Type 0 where
  pub spares : (Covers cut t.dot → ⊥) → Spares s t.action t.args state

-- the calm cut of a session that has seen nothing
abbrev pub first_calm : Calm
first_calm = record { cut = empty; count = 0 }

-- the calm cut after a session's next transaction, whose whole cut is within the bounds if it is an operation's
abbrev pub next_calm : Action → Calm → Calm → Calm
next_calm (Op number) old whole = whole
next_calm (Drop number) old whole = old
