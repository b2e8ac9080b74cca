-- When two actions that replicas accept without knowing of each other can break a clause together.
--
--   StandsAfter s universe action args t   t tells the facts of a state just after the action      (part 1)
--   is_undecided s values literals         no comparison of the instance is true, and no literal stands
--                                          beside its opposite, so that only the state decides it (part 2)
--   falsifies_some                         the action makes some literal of the instance false     (part 3)
--   makes_winner_true                      the action makes a winning literal of it true           (part 4)
--   is_live                                each of two actions could, by predicates and kinds, break the clause
--   is_lost                                the literal holds after left and may be lost            (part 5)
--   IsConflictAt                           all of this, for a universe, arguments, values and two states
--   Conflict s left right k                left and right conflict on clause k: there are such
use Rattle.std.specs.Prelude.{◌≡◌, ℕ, Bool, true, false, not, ◌&&◌, ◌||◌, ◌==◌, List, slice_get, Some}
use Rattle.std.specs.List.{list_any, list_all}
use Rattle.std.specs.Ordering.{is_eq}
use Rattle.ipa_spec.specs.Actions.{IsAction, effects_of, needs_of, drop_effects}
use Rattle.ipa_spec.specs.declared.specification.Specification.{Specification}
use Rattle.ipa_spec.specs.declared.clauses.Atom.{Atom}
use Rattle.ipa_spec.specs.declared.clauses.Literal.{Literal}
use Rattle.ipa_spec.specs.declared.clauses.Literal.TheVariants.{Holds, Fails, Same, Differ}
use Rattle.ipa_spec.specs.declared.clauses.Clause.{Clause}
use Rattle.ipa_spec.specs.declared.operations.Effect.{Effect}
use Rattle.ipa_spec.specs.declared.operations.Action.{Action}
use Rattle.ipa_logic.specs.Facts.{Universe, IsUniverse, IsFact, IsState, has, fact_cmp}
use Rattle.ipa_logic.specs.Truth.{IsArguments, IsValues, Keeps, fact_of, same_value, literal_true}
use Rattle.ipa_logic.specs.Touches.{adds, removes, makes_true, makes_false, touches_need, wins, loses}
use Rattle.ipa_logic.specs.declared.facts.Fact.{Fact}

-- t tells the facts of a state just after the action: what it adds is there, what it removes is not,
-- and each need that it does not touch still holds
pub record StandsAfter (s : Specification) (universe : Universe) (action : Action) (args : List ℕ) (t : Fact → Bool) : Type 0 where
  pub added : (f : Fact) → IsFact s universe f → adds s action args f ≡ true → t f ≡ true
  pub removed : (f : Fact) → IsFact s universe f → removes s action args f ≡ true → t f ≡ false
  pub needed : list_all (λ l. touches_need s action args l || literal_true s t args l) (needs_of s action) ≡ true

-- an equality or an inequality that is true under these values
abbrev pub is_true_comparison : Specification → List ℕ → Literal → Bool
is_true_comparison s values (Holds a) = false
is_true_comparison s values (Fails a) = false
is_true_comparison s values (Same v w) = same_value s values v w
is_true_comparison s values (Differ v w) = not (same_value s values v w)

-- the literal denies the fact that the atom stands for
abbrev pub denies : Specification → List ℕ → Atom → Literal → Bool
denies s values a (Holds b) = false
denies s values a (Fails b) = is_eq (fact_cmp (fact_of s values a) (fact_of s values b))
denies s values a (Same v w) = false
denies s values a (Differ v w) = false

-- one of the literals denies the fact of this one
abbrev pub is_denied_by : Specification → List ℕ → List Literal → Literal → Bool
is_denied_by s values literals (Holds a) = list_any (denies s values a) literals
is_denied_by s values literals (Fails a) = false
is_denied_by s values literals (Same v w) = false
is_denied_by s values literals (Differ v w) = false

-- no equality or inequality of the instance is true, and no literal stands beside its opposite
abbrev pub is_undecided : Specification → List ℕ → List Literal → Bool
is_undecided s values literals =
    not (list_any (is_true_comparison s values) literals) && not (list_any (is_denied_by s values literals) literals)

-- the action makes some literal of the instance false
abbrev pub falsifies_some : Specification → Action → List ℕ → List ℕ → List Literal → Bool
falsifies_some s action args values literals = list_any (makes_false s action args values) literals

-- the action makes a winning literal of the instance true
abbrev pub makes_winner_true : Specification → Action → List ℕ → List ℕ → List Literal → Bool
makes_winner_true s action args values literals = list_any (λ l. wins s l && makes_true s action args values l) literals

-- the effect is on the literal's predicate and of the kind that makes such a literal false
abbrev pub can_falsify : Literal → Effect → Bool
can_falsify (Holds a) e = not e.add && (e.predicate == a.predicate)
can_falsify (Fails a) e = e.add && (e.predicate == a.predicate)
can_falsify (Same v w) e = false
can_falsify (Differ v w) e = false

-- some action of the specification has such an effect
abbrev pub can_be_falsified : Specification → Literal → Bool
can_be_falsified s l =
    list_any (λ o. list_any (can_falsify l) o.effects) s.operations
    || list_any (λ b. list_any (can_falsify l) (drop_effects s.predicates b)) s.bounds

-- the action has an effect that, by its predicate and kind, makes a literal of the clause's form false
abbrev pub can_break : Specification → Action → Clause → Bool
can_break s action c = list_any (λ l. list_any (can_falsify l) (effects_of s action)) c.literals

-- each of the two actions has such an effect
abbrev pub is_live : Specification → Action → Action → Clause → Bool
is_live s left right c = can_break s left c && can_break s right c

-- the literal is true after left, right does not make it true, some action has an effect on its predicate
-- of the kind that makes such a literal false, and where the literal loses it is false after right
abbrev pub is_lost : Specification → Action → List ℕ → List ℕ → (Fact → Bool) → (Fact → Bool) → Literal → Bool
is_lost s right right_args values after_left after_right l =
    ((literal_true s after_left values l && not (makes_true s right right_args values l)) && can_be_falsified s l)
    && (not (loses s l) || not (literal_true s after_right values l))

-- left and right, with these arguments, conflict on the clause with these values: after_left is a state that
-- left could have left, after_right one that right could have left, and the literal in this place is the lost one
pub record IsConflictAt (s : Specification) (left right : Action) (c : Clause) (universe : Universe)
    (left_args right_args values : List ℕ) (place : ℕ) (after_left after_right : List Fact) : Type 0 where
  pub sizes : IsUniverse s universe
  pub left_arguments : IsArguments s universe left left_args
  pub right_arguments : IsArguments s universe right right_args
  pub clause_values : IsValues universe c values
  pub left_state : IsState s universe after_left
  pub right_state : IsState s universe after_right
  pub left_keeps : Keeps s universe (has after_left)
  pub right_keeps : Keeps s universe (has after_right)
  pub left_stands : StandsAfter s universe left left_args (has after_left)
  pub right_stands : StandsAfter s universe right right_args (has after_right)
  pub undecided : is_undecided s values c.literals ≡ true
  pub left_falsifies : falsifies_some s left left_args values c.literals ≡ true
  pub right_falsifies : falsifies_some s right right_args values c.literals ≡ true
  pub left_spares : makes_winner_true s left left_args values c.literals ≡ false
  pub right_spares : makes_winner_true s right right_args values c.literals ≡ false
  pub lost : Literal
  pub lost_at : slice_get c.literals place ≡ Some lost
  pub loss : is_lost s right right_args values (has after_left) (has after_right) lost ≡ true

-- left and right conflict on the clause of number k
pub record Conflict (s : Specification) (left right : Action) (k : ℕ) : Type 0 where
  pub left_declared : IsAction s left
  pub right_declared : IsAction s right
  pub clause : Clause
  pub declared : slice_get s.clauses k ≡ Some clause
  pub universe : Universe
  pub left_args : List ℕ
  pub right_args : List ℕ
  pub values : List ℕ
  pub place : ℕ
  pub after_left : List Fact
  pub after_right : List Fact
  pub conflict : IsConflictAt s left right clause universe left_args right_args values place after_left after_right
