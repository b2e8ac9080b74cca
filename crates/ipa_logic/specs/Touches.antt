-- What an action does to the facts.
--
--   stands_for s args a           the element that an argument of an effect stands for; a `*` stands for none alone
--   matches s args e f            the effect matches the fact
--   fact_given s args e           the fact that an add gives
--   gives, takes                  the effect is an add that gives the fact, or a remove that matches it
--   some_gives, some_takes        one of some effects does
--   adds s action args f          one of the action's effects gives the fact
--   removes s action args f       one of them takes it, and none gives it
--   touch_of s action args f      what the action does to the fact
--   plain_application s action args t   the facts after the action, where t tells those before
--   IsAfter                       the state after the action
--   makes_true, makes_false       the action adds or removes the literal's fact accordingly
--   touches_need                  the action touches the fact of one of its needs
--   NeedsHold                     each need of the action holds
--   IsFirstFailing                the first need of the action that fails
--   wins s l, loses s l           making a fact literal true is, or is not, the winning effect of its predicate
use Rattle.std.specs.Prelude.{◌≡◌, ◌<◌, ℕ, Bool, true, false, not, ◌&&◌, ◌||◌, ◌==◌, List, [], ◌∷◌, slice_get, slice_index, slice_index_or, Option, Some, None, unwrap_or, if◌then◌else◌}
use Rattle.std.specs.List.{list_any}
use Rattle.std.specs.Option.{option_map_or}
use Rattle.std.specs.Ordering.{is_eq}
use Rattle.ipa_spec.specs.Actions.{effects_of, needs_of}
use Rattle.ipa_spec.specs.Constants.{element_of_constant}
use Rattle.ipa_spec.specs.declared.specification.Specification.{Specification}
use Rattle.ipa_spec.specs.declared.predicates.Rule.{Rule}
use Rattle.ipa_spec.specs.declared.predicates.Rule.TheVariants.{AddWins, RemoveWins}
use Rattle.ipa_spec.specs.declared.clauses.Literal.{Literal}
use Rattle.ipa_spec.specs.declared.clauses.Literal.TheVariants.{Holds, Fails, Same, Differ}
use Rattle.ipa_spec.specs.declared.operations.Arg.{Arg}
use Rattle.ipa_spec.specs.declared.operations.Arg.TheVariants.{Var as Parameter, Const as FixedArg, Any}
use Rattle.ipa_spec.specs.declared.operations.Action.{Action}
use Rattle.ipa_spec.specs.declared.operations.Effect.{Effect}
use Rattle.ipa_logic.specs.Facts.{fact_cmp, has, IsStateOf}
use Rattle.ipa_logic.specs.Truth.{value_at, fact_of, literal_true}
use Rattle.ipa_logic.specs.declared.facts.Fact.{Fact}
use Rattle.ipa_logic.specs.declared.facts.Touch.{Touch}
use Rattle.ipa_logic.specs.declared.facts.Touch.TheVariants.{Adds, Removes, Nothing}

-- the element that an argument of an effect stands for, and none for a `*`
abbrev pub stands_for : Specification → List ℕ → Arg → Option ℕ
stands_for s args (Parameter v) = Some (value_at args v)
stands_for s args (FixedArg k) = Some (element_of_constant s k)
stands_for s args Any = None

-- what stands in a place of an effect
abbrev pub arg_at : Effect → ℕ → Arg
arg_at e place = slice_index_or e.args place Any

-- the effect matches the fact in a place: it stands for that element, or for each
abbrev pub matches_at : Specification → List ℕ → Effect → Fact → ℕ → Bool
matches_at s args e f place = option_map_or (λ x. x == slice_index f.args place) (stands_for s args (arg_at e place)) true

-- the effect matches the fact
abbrev pub matches : Specification → List ℕ → Effect → Fact → Bool
matches s args e f =
    (((e.predicate == f.predicate) && matches_at s args e f 0) && matches_at s args e f 1) && matches_at s args e f 2

-- the element that an effect gives in a place, 0 where it is past the arity
abbrev pub given_at : Specification → List ℕ → Effect → ℕ → ℕ
given_at s args e place = unwrap_or (stands_for s args (arg_at e place)) 0

-- the fact that an add gives
abbrev pub fact_given : Specification → List ℕ → Effect → Fact
fact_given s args e = record {
  predicate = e.predicate;
  args = given_at s args e 0 ∷ given_at s args e 1 ∷ given_at s args e 2 ∷ [];
}

-- the effect is an add that gives the fact
abbrev pub gives : Specification → List ℕ → Fact → Effect → Bool
gives s args f e = e.add && is_eq (fact_cmp (fact_given s args e) f)

-- the effect is a remove that matches the fact
abbrev pub takes : Specification → List ℕ → Fact → Effect → Bool
takes s args f e = not e.add && matches s args e f

-- one of the effects is an add that gives the fact
abbrev pub some_gives : Specification → List Effect → List ℕ → Fact → Bool
some_gives s effects args f = list_any (gives s args f) effects

-- one of the effects is a remove that matches the fact
abbrev pub some_takes : Specification → List Effect → List ℕ → Fact → Bool
some_takes s effects args f = list_any (takes s args f) effects

-- one of the action's effects is an add that gives the fact
abbrev pub adds : Specification → Action → List ℕ → Fact → Bool
adds s action args f = some_gives s (effects_of s action) args f

-- one of the action's effects is a remove that matches the fact, and none adds it
abbrev pub removes : Specification → Action → List ℕ → Fact → Bool
removes s action args f = some_takes s (effects_of s action) args f && not (adds s action args f)

-- what the action does to the fact
abbrev pub touch_of : Specification → Action → List ℕ → Fact → Touch
touch_of s action args f = if adds s action args f then Adds else (if removes s action args f then Removes else Nothing)

-- the fact is true after the action, where t tells the facts before
abbrev pub plain_application : Specification → Action → List ℕ → (Fact → Bool) → Fact → Bool
plain_application s action args t f = adds s action args f || (t f && not (removes s action args f))

-- the state after the action, where `before` lists the true facts before it
abbrev pub IsAfter : Specification → Action → List ℕ → List Fact → List Fact → Type 0
IsAfter s action args before after = IsStateOf (plain_application s action args (has before)) after

-- the action makes the literal true
abbrev pub makes_true : Specification → Action → List ℕ → List ℕ → Literal → Bool
makes_true s action args values (Holds a) = adds s action args (fact_of s values a)
makes_true s action args values (Fails a) = removes s action args (fact_of s values a)
makes_true s action args values (Same v w) = false
makes_true s action args values (Differ v w) = false

-- the action makes the literal false
abbrev pub makes_false : Specification → Action → List ℕ → List ℕ → Literal → Bool
makes_false s action args values (Holds a) = removes s action args (fact_of s values a)
makes_false s action args values (Fails a) = adds s action args (fact_of s values a)
makes_false s action args values (Same v w) = false
makes_false s action args values (Differ v w) = false

-- the action touches the fact of one of its needs, which is over its own arguments
abbrev pub touches_need : Specification → Action → List ℕ → Literal → Bool
touches_need s action args l = makes_true s action args args l || makes_false s action args args l

-- each need of the action holds, where t tells the true facts
pub record NeedsHold (s : Specification) (t : Fact → Bool) (action : Action) (args : List ℕ) : Type 0 where
  pub each : (k : ℕ) (l : Literal) → slice_get (needs_of s action) k ≡ Some l → literal_true s t args l ≡ true

-- the need of this number is the first that fails, where t tells the true facts
pub record IsFirstFailing (s : Specification) (t : Fact → Bool) (action : Action) (args : List ℕ) (n : ℕ) : Type 0 where
  pub need : Literal
  pub declared : slice_get (needs_of s action) n ≡ Some need
  pub fails : literal_true s t args need ≡ false
  pub earlier : (k : ℕ) (l : Literal) → k < n → slice_get (needs_of s action) k ≡ Some l → literal_true s t args l ≡ true

-- an add on the predicate prevails over a concurrent remove
abbrev pub is_add_wins : Rule → Bool
is_add_wins AddWins = true
is_add_wins RemoveWins = false

-- the predicate of this number is declared with this rule
abbrev pub has_rule : (Rule → Bool) → Specification → ℕ → Bool
has_rule test s n = option_map_or (λ p. test p.rule) (slice_get s.predicates n) false

-- making the literal true is the winning effect of its predicate
abbrev pub wins : Specification → Literal → Bool
wins s (Holds a) = has_rule is_add_wins s a.predicate
wins s (Fails a) = has_rule (λ rule. not (is_add_wins rule)) s a.predicate
wins s (Same v w) = false
wins s (Differ v w) = false

-- a literal that is a fact or a denied fact
abbrev pub is_of_fact : Literal → Bool
is_of_fact (Holds a) = true
is_of_fact (Fails a) = true
is_of_fact (Same v w) = false
is_of_fact (Differ v w) = false

-- a fact literal that does not win
abbrev pub loses : Specification → Literal → Bool
loses s l = is_of_fact l && not (wins s l)
