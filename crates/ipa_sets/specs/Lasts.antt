-- The last effect on a fact of each origin, and the value and the age that these give.
--
--   tx_at row o                the transaction that a row has for an origin
--   NonePasses p o ms          no transaction of the origin passes the test
--   IsLastAt p o ms t          t is the one of greatest number among those of the origin that pass
--   IsLastIn p o ms x          x is this one, or none passes
--   IsRowOf p ms row           the row has for each origin the last one that passes, or none
--   last_of lasts o            the last effect of an origin
--   IsLastOn s f ms o l        it is that of the last transaction of the origin that touches the fact
--   AreLastsOf s f ms lasts    they are the last effects of each origin on the fact
--   is_passed lasts l          another of them comes after this one
--   adds_last, removes_last    none does, and it is an add, or a remove
--   value_by_lasts             the value that the last effects give
--   age_by_lasts               the age that they give
--
-- They are of some transactions ms of a history: of all that were taken, or of the members of a cut.
use Rattle.std.specs.Prelude.{◌≡◌, ℕ, ◌≤◌, Bool, true, false, not, ◌&&◌, List, filter, Option, None, MatchOption, slice_index_or, is_some, if◌then◌else◌}
use Rattle.std.specs.List.{fold, list_any}
use Rattle.std.specs.Option.{option_map_or}
use Rattle.ipa_spec.specs.declared.specification.Specification.{Specification}
use Rattle.ipa_logic.specs.declared.facts.Age.{Age}
use Rattle.ipa_logic.specs.declared.facts.Fact.{Fact}
use Rattle.ipa_history.specs.Histories.{IsMember, is_before}
use Rattle.ipa_history.specs.Values.{adds_fact, touches_fact}
use Rattle.ipa_history.specs.Ages.{age_of_tx, greater_age, no_age}
use Rattle.ipa_history.specs.declared.history.Tx.{Tx}
use Rattle.ipa_sets.specs.declared.lasts.Last.{Last}

-- the transaction that a row has for an origin
abbrev pub tx_at : List (Option Tx) → ℕ → Option Tx
tx_at row o = slice_index_or row o None

-- no transaction of the origin passes the test
pub record NonePasses (p : Tx → Bool) (o : ℕ) (ms : List Tx) : Type 0 where
  pub none : (u : Tx) → IsMember ms u → u.dot.origin ≡ o → p u ≡ true → ⊥

-- t is the one of greatest number among those of the origin that pass
pub record IsLastAt (p : Tx → Bool) (o : ℕ) (ms : List Tx) (t : Tx) : Type 0 where
  pub member : IsMember ms t
  pub passes : p t ≡ true
  pub made : t.dot.origin ≡ o
  pub last : (u : Tx) → IsMember ms u → u.dot.origin ≡ o → p u ≡ true → u.dot.number ≤ t.dot.number

-- the last one of the origin that passes, or none
abbrev pub IsLastIn : (Tx → Bool) → ℕ → List Tx → Option Tx → Type 0
IsLastIn p o ms x = MatchOption x (NonePasses p o ms) (IsLastAt p o ms)

-- the row has for each origin the last one that passes, or none
pub record IsRowOf (p : Tx → Bool) (ms : List Tx) (row : List (Option Tx)) : Type 0 where
  pub each : (o : ℕ) → IsLastIn p o ms (tx_at row o)

-- the last effect of an origin
abbrev pub last_of : List (Option Last) → ℕ → Option Last
last_of lasts o = slice_index_or lasts o None

-- it is that of the last transaction of the origin that touches the fact
pub record IsLastOn (s : Specification) (f : Fact) (ms : List Tx) (o : ℕ) (m : Last) : Type 0 where
  pub last : IsLastAt (touches_fact s f) o ms m.tx
  pub kind : m.adds ≡ adds_fact s f m.tx

-- they are those of the fact: for each origin that of its last transaction that touches it, or none
pub record AreLastsOf (s : Specification) (f : Fact) (ms : List Tx) (lasts : List (Option Last)) : Type 0 where
  pub each : (o : ℕ) → MatchOption (last_of lasts o) (NonePasses (touches_fact s f) o ms) (IsLastOn s f ms o)

-- another of them comes after this one
abbrev pub is_passed : List (Option Last) → Last → Bool
is_passed lasts m = list_any (λ x. option_map_or (λ n. is_before m.tx n.tx) x false) lasts

-- there is one, an add that no other comes after
abbrev pub adds_last : List (Option Last) → Option Last → Bool
adds_last lasts x = option_map_or (λ m. m.adds && not (is_passed lasts m)) x false

-- there is one, a remove that no other comes after
abbrev pub removes_last : List (Option Last) → Option Last → Bool
removes_last lasts x = option_map_or (λ m. not m.adds && not (is_passed lasts m)) x false

-- the value that they give, by the rule of the predicate and the value of the base
abbrev pub value_by_lasts : Bool → Bool → List (Option Last) → Bool
value_by_lasts adds_win start lasts = if list_any is_some lasts
    then (if adds_win then list_any (adds_last lasts) lasts else not (list_any (removes_last lasts) lasts))
    else start

-- the age of the transaction of a last effect
abbrev pub age_of_last : Option Last → Age
age_of_last x = option_map_or (λ m. age_of_tx m.tx) x no_age

-- the age that they give: the greatest of the adds that no other comes after
abbrev pub age_by_lasts : List (Option Last) → Age
age_by_lasts lasts = fold (λ age x. greater_age age (age_of_last x)) no_age (filter (adds_last lasts) lasts)
