-- The value of a fact where some transactions are known, in whatever order they stand.
--
--   adds_fact s f t         the transaction adds the fact
--   removes_fact s f t      it removes the fact
--   touches_fact s f t      it does one of the two
--   is_maximal s ms f t     its effect on the fact is before no other effect on it
--   is_maximal_add          and it is an add
--   is_maximal_remove       and it is a remove
--   value_of s base ms f    the value of the fact where the transactions of the list are known
--   value_at s base h c f   the value at a cut of a history
--
-- The state where they are known is the state of this test of facts: `IsStateOf (value_of s base ms)`.
use Rattle.std.specs.Prelude.{Bool, not, ◌&&◌, ◌||◌, List, if◌then◌else◌}
use Rattle.std.specs.List.{list_any}
use Rattle.ipa_clock.specs.declared.cut.Cut.{Cut}
use Rattle.ipa_spec.specs.declared.specification.Specification.{Specification}
use Rattle.ipa_logic.specs.Facts.{has}
use Rattle.ipa_logic.specs.Touches.{adds, removes, has_rule, is_add_wins}
use Rattle.ipa_logic.specs.declared.facts.Fact.{Fact}
use Rattle.ipa_history.specs.Histories.{is_before, members_of}
use Rattle.ipa_history.specs.declared.history.Tx.{Tx}

-- the transaction adds the fact
abbrev pub adds_fact : Specification → Fact → Tx → Bool
adds_fact s f t = adds s t.action t.args f

-- it removes the fact
abbrev pub removes_fact : Specification → Fact → Tx → Bool
removes_fact s f t = removes s t.action t.args f

-- it has an effect on the fact
abbrev pub touches_fact : Specification → Fact → Tx → Bool
touches_fact s f t = adds_fact s f t || removes_fact s f t

-- it has an effect on the fact that is before no other effect on it
abbrev pub is_maximal : Specification → List Tx → Fact → Tx → Bool
is_maximal s members f t = touches_fact s f t && not (list_any (λ u. touches_fact s f u && is_before t u) members)

-- its effect on the fact is maximal and an add
abbrev pub is_maximal_add : Specification → List Tx → Fact → Tx → Bool
is_maximal_add s members f t = is_maximal s members f t && adds_fact s f t

-- its effect on the fact is maximal and a remove
abbrev pub is_maximal_remove : Specification → List Tx → Fact → Tx → Bool
is_maximal_remove s members f t = is_maximal s members f t && removes_fact s f t

-- the value of the fact: of the base where none touches it, else by the maximal effects and the rule of its predicate
abbrev pub value_of : Specification → List Fact → List Tx → Fact → Bool
value_of s base members f = if list_any (touches_fact s f) members
    then (if has_rule is_add_wins s f.predicate
    then list_any (is_maximal_add s members f) members
    else not (list_any (is_maximal_remove s members f) members))
    else has base f

-- the value at a cut of a history
abbrev pub value_at : Specification → List Fact → List Tx → Cut → Fact → Bool
value_at s base h c f = value_of s base (members_of h c) f
