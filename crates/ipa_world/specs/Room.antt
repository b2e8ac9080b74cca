-- Which steps find no room.
--
--   IsFullAt w r          the log of the replica has as many entries as a log can have
--   IsDueEntry w i a      the session is to make a transaction: a drop, or an operation that is legal where it stands
--   IsFull w step         the step is due an entry in a log that has no room
--   HasRoom w             no log has more entries than a log can have
use Rattle.std.specs.Prelude.{◌≡◌, ℕ, ◌≤◌, List, length, slice_get, Some}
use Rattle.ipa_logic.specs.declared.facts.Request.TheVariants.{Do}
use Rattle.ipa_history.specs.Answers.{next_operation}
use Rattle.ipa_history.specs.Legality.{IsLegal}
use Rattle.ipa_history.specs.declared.history.Tx.{Tx}
use Rattle.ipa_gate.specs.Logs.{most}
use Rattle.ipa_session.specs.Sessions.{IsDueNext}
use Rattle.ipa_world.specs.Worlds.{WorldParts, session_at, next_request}
use Rattle.ipa_world.specs.Steps.{Actor, IsActor, IsCalm, IsNews}
use Rattle.ipa_world.specs.declared.steps.Step.{Step}
use Rattle.ipa_world.specs.declared.steps.Step.TheVariants.{Pull, Act, Deliver, Heard}

-- the log of the replica has as many entries as a log can have
pub record IsFullAt (w : WorldParts) (r : ℕ) : Type 0 where
  pub log : List Tx
  pub log_at : slice_get w.logs r ≡ Some log
  pub full : length log ≡ most

-- no drop is due, and the operation that the session asks for next is legal where it stands
pub record IsCommitDue (w : WorldParts) (i : ℕ) (a : Actor) : Type 0 where
  pub calm : IsCalm w i a
  pub op : ℕ
  pub args : List ℕ
  pub next : next_request a.seat ≡ Some (Do op args)
  pub legal : IsLegal w.setting.spec w.setting.universe w.setting.base a.seat.seen
      (next_operation w.setting.spec a.cut i op args)

-- the session is to make a transaction
pub data IsDueEntry (w : WorldParts) (i : ℕ) (a : Actor) : Type 0 where
  drop : (t : Tx) → IsDueNext (session_at w.setting i a.seat) a.cut t → IsDueEntry w i a
  commit : IsCommitDue w i a → IsDueEntry w i a

-- the session is to make a transaction, and its replica's log has no room
pub record IsActFull (w : WorldParts) (i : ℕ) : Type 0 where
  pub actor : Actor
  pub is_actor : IsActor w i actor
  pub due : IsDueEntry w i actor
  pub full : IsFullAt w actor.seat.replica

-- the transaction is news to a replica whose log has no room
pub record IsGiveFull (w : WorldParts) (r : ℕ) (t : Tx) : Type 0 where
  pub log : List Tx
  pub log_at : slice_get w.logs r ≡ Some log
  pub news : IsNews log t
  pub full : length log ≡ most

-- the entry in this place of one log is news to another replica, whose log has no room
pub record IsDeliverFull (w : WorldParts) (from to place : ℕ) : Type 0 where
  pub log : List Tx
  pub log_at : slice_get w.logs from ≡ Some log
  pub tx : Tx
  pub at : slice_get log place ≡ Some tx
  pub full : IsGiveFull w to tx

-- the step is due an entry in a log that has no room
abbrev pub IsFull : WorldParts → Step → Type 0
IsFull w (Pull session) = ⊥
IsFull w (Act session) = IsActFull w session
IsFull w (Deliver from to place) = IsDeliverFull w from to place
IsFull w (Heard from to clock) = ⊥

-- no log has more entries than a log can have
pub record HasRoom (w : WorldParts) : Type 0 where
  pub each : (r : ℕ) (log : List Tx) → slice_get w.logs r ≡ Some log → length log ≤ most
