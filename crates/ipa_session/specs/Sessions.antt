-- Sessions: an origin that acts on what it has seen.
--
--   SessionParts          a setting, an origin, the history that it has seen, and for how many more there is room
--   IsSession p           the origin is a session of the setting, and the history is legal for it
--   IsNextWith p c action args t   the session's next transaction, with this action and these arguments
--   IsOwnNext p c t       the transaction is the session's next one, made at its cut
--   IsLawfulNext p c t    and it is legal there
--   IsCalmAt p c          the state at the cut is within the bounds and keeps all clauses
--   IsDueNext p c t       the session's next transaction is the drop that is due at its cut
--   answer_of d           the answer of a decision
--   IsWhole p c request d    a decision to commit is the session's whole next transaction
--   IsDecision p c request d     what the session decides on a request at its cut
use Rattle.std.specs.Prelude.{◌≡◌, ℕ, ◌+◌, ◌<◌, List, length, slice_get, Some}
use Rattle.ipa_clock.specs.declared.cut.Cut.{Cut}
use Rattle.ipa_clock.specs.Cut.{count_of}
use Rattle.ipa_spec.specs.declared.bounds.Bound.{Bound}
use Rattle.ipa_spec.specs.Actions.{sorts_of}
use Rattle.ipa_spec.specs.declared.operations.Action.{Action}
use Rattle.ipa_spec.specs.declared.operations.Action.TheVariants.{Drop}
use Rattle.ipa_logic.specs.Facts.{IsStateOf, has}
use Rattle.ipa_logic.specs.Truth.{Keeps}
use Rattle.ipa_logic.specs.Groups.{Within}
use Rattle.ipa_logic.specs.Acceptance.{drop_fact}
use Rattle.ipa_logic.specs.declared.facts.Fact.{Fact}
use Rattle.ipa_logic.specs.declared.facts.Request.{Request}
use Rattle.ipa_logic.specs.declared.facts.Request.TheVariants.{Do, Show}
use Rattle.ipa_history.specs.Histories.{IsMember}
use Rattle.ipa_history.specs.Values.{value_at}
use Rattle.ipa_history.specs.Ages.{IsDropAt}
use Rattle.ipa_history.specs.Legality.{IsLegal}
use Rattle.ipa_history.specs.Answers.{next_operation, IsAnswer}
use Rattle.ipa_history.specs.declared.history.Tx.{Tx}
use Rattle.ipa_history.specs.declared.answers.Answer.{Answer}
use Rattle.ipa_history.specs.declared.answers.Answer.TheVariants.{Commit as Committed, Refused as Declined, Shown as Told}
use Rattle.ipa_gate.specs.Settings.{SettingParts, IsLegalFor}
use Rattle.ipa_gate.specs.Shapes.{IsShaped}
use Rattle.ipa_session.specs.declared.decision.Decision.{Decision}
use Rattle.ipa_session.specs.declared.decision.Decision.TheVariants.{Commit, Refused, Shown}

-- a setting, an origin, the history that it has seen, and for how many more transactions there is room
pub record SessionParts : Type 0 where
  pub setting : SettingParts
  pub origin : ℕ
  pub seen : List Tx
  pub spare : ℕ

-- the origin is a session of the setting, and the history is legal for it, each member of the right shape
pub record IsSession (p : SessionParts) : Type 0 where
  pub origin : p.origin < p.setting.sessions
  pub legal : IsLegalFor p.setting p.seen
  pub shaped : (t : Tx) → IsMember p.seen t → IsShaped p.setting t

-- the transaction is the session's next one, made at its cut, of the right shape
pub record IsOwnNext (p : SessionParts) (c : Cut) (t : Tx) : Type 0 where
  pub dot : t.dot ≡ record { origin = p.origin; number = count_of c p.origin + 1 }
  pub cut : t.cut ≡ c
  pub shaped : IsShaped p.setting t

-- the transaction is the session's next one, and legal at its cut
pub record IsLawfulNext (p : SessionParts) (c : Cut) (t : Tx) : Type 0 where
  pub next : IsOwnNext p c t
  pub legal : IsLegal p.setting.spec p.setting.universe p.setting.base p.seen t

-- the transaction is the session's next one, with this action and these arguments
pub record IsNextWith (p : SessionParts) (c : Cut) (action : Action) (args : List ℕ) (t : Tx) : Type 0 where
  pub dot : t.dot ≡ record { origin = p.origin; number = count_of c p.origin + 1 }
  pub cut : t.cut ≡ c
  pub action_is : t.action ≡ action
  pub args_are : t.args ≡ args
  pub count : t.count ≡ length (sorts_of p.setting.spec action)

-- the state at the cut is within the bounds and keeps all clauses
pub record IsCalmAt (p : SessionParts) (c : Cut) : Type 0 where
  pub state : List Fact
  pub at : IsStateOf (value_at p.setting.spec p.setting.base p.seen c) state
  pub within : Within p.setting.spec.bounds state
  pub keeps : Keeps p.setting.spec p.setting.universe (has state)

-- the session's next transaction is the drop that is due at its cut; as all due drops, it is legal
pub record IsDueNext (p : SessionParts) (c : Cut) (t : Tx) : Type 0 where
  pub lawful : IsLawfulNext p c t
  pub number : ℕ
  pub action : t.action ≡ Drop number
  pub bound : Bound
  pub declared : slice_get p.setting.spec.bounds number ≡ Some bound
  pub due : IsDropAt p.setting.spec p.setting.base p.seen c number (drop_fact p.setting.spec bound t.args)

-- the answer that a decision gives
abbrev pub answer_of : Decision → Answer
answer_of (Commit t) = Committed t.dot.number
answer_of (Refused reason) = Declined reason
answer_of (Shown state) = Told state

-- a decision to commit is the next transaction of the operation that is asked for, and it is legal
pub record IsCommitment (p : SessionParts) (c : Cut) (op : ℕ) (args : List ℕ) (t : Tx) : Type 0 where
  pub operation : t ≡ next_operation p.setting.spec c p.origin op args
  pub lawful : IsLawfulNext p c t

-- what a decision owes beside its answer: a commitment is whole
abbrev pub IsWhole : SessionParts → Cut → Request → Decision → Type 0
IsWhole p c (Do op args) (Commit t) = IsCommitment p c op args t
IsWhole p c (Show predicate places) (Commit t) = ⊥
IsWhole p c request (Refused reason) = Unit {0}
IsWhole p c request (Shown state) = Unit {0}

-- the decision on a request at the session's cut
pub record IsDecision (p : SessionParts) (c : Cut) (request : Request) (d : Decision) : Type 0 where
  pub answer : IsAnswer p.setting.spec p.setting.universe p.setting.base p.seen c p.origin request (answer_of d)
  pub whole : IsWhole p c request d
