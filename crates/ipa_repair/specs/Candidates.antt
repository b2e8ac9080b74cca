-- Candidates: the single changes of a specification that may clear a pair of actions.
--
--   Clashes s left right k          left and right, or right and left, conflict on clause k
--   AreReportedClauses s left right ks   these are the clauses on which they do, in declared order
--   literals_of s ks                the literals of some clauses, in order
--   parameters_of params sort       the parameters of a sort, in order
--   is_named_by params c            a parameter has the constant's name
--   constants_for s params sort     the constants of a sort that no parameter hides, in order
--   choices s params sort wild      what may stand in a place: parameters, then constants, and then `*` in a remove
--   effects_on s params n add       the effects on a predicate, by what stands in the first place, then the next ones
--   effects_making s params l       the effects that make a fact literal true
--   opposes e f                     one of the two adds and the other removes, on one predicate
--   is_open_to o e                  the operation does not have the effect, nor one that opposes it
--   effect_candidates s n o l       the effects that are offered to an operation for a literal
--   candidates_of_action s action ls   the same for all literals, where the action is an operation with room
--   flip_of l                       the flip of the rule of a fact literal's predicate
--   each_once xs                    the candidates, each at its first place
--   candidates_of s left right ls   all candidates, for the literals of the reported clauses
use Rattle.std.specs.Prelude.{◌⊎◌, ℕ, Bool, true, false, not, ◌&&◌, ◌==◌, nat_lt, List, [], ◌∷◌, ◌++◌, length, fold, slice_get, slice_index, slice_index_or, if◌then◌else◌}
use Rattle.std.specs.List.{list_any, flat_map}
use Rattle.std.specs.Option.{option_map_or}
use Rattle.ipa_spec.specs.Faults.{same_name}
use Rattle.ipa_spec.specs.declared.specification.Specification.{Specification}
use Rattle.ipa_spec.specs.declared.predicates.Predicate.{Predicate}
use Rattle.ipa_spec.specs.declared.predicates.Var.{Var}
use Rattle.ipa_spec.specs.declared.constants.Constant.{Constant}
use Rattle.ipa_spec.specs.declared.clauses.Literal.{Literal}
use Rattle.ipa_spec.specs.declared.clauses.Literal.TheVariants.{Holds, Fails, Same, Differ}
use Rattle.ipa_spec.specs.declared.operations.Arg.{Arg}
use Rattle.ipa_spec.specs.declared.operations.Arg.TheVariants.{Var as Parameter, Const as FixedArg, Any}
use Rattle.ipa_spec.specs.declared.operations.Effect.{Effect}
use Rattle.ipa_spec.specs.declared.operations.Operation.{Operation}
use Rattle.ipa_spec.specs.declared.operations.Action.{Action}
use Rattle.ipa_spec.specs.declared.operations.Action.TheVariants.{Op, Drop}
use Rattle.ipa_logic.specs.Conflicts.{Conflict}
use Rattle.ipa_ground.specs.Enumeration.{numbers}
use Rattle.ipa_repair.specs.Chosen.{AreThose}
use Rattle.ipa_repair.specs.declared.candidates.Candidate.{Candidate}
use Rattle.ipa_repair.specs.declared.candidates.Candidate.TheVariants.{Adds, Flips}

-- the two actions conflict on the clause, in some order
abbrev pub Clashes : Specification → Action → Action → ℕ → Type 0
Clashes s left right k = Conflict s left right k ⊎ Conflict s right left k

-- the clauses on which the two actions conflict in some order, in declared order
abbrev pub AreReportedClauses : Specification → Action → Action → List ℕ → Type 0
AreReportedClauses s left right ks = AreThose (Clashes s left right) (numbers (length s.clauses)) ks

-- the literals of a clause
abbrev pub literals_at : Specification → ℕ → List Literal
literals_at s k = option_map_or (λ c. c.literals) (slice_get s.clauses k) []

-- the literals of some clauses, in order
abbrev pub literals_of : Specification → List ℕ → List Literal
literals_of s ks = flat_map (literals_at s) ks

-- the parameter of this number is of the sort
abbrev pub has_sort : List Var → ℕ → ℕ → Bool
has_sort params sort v = option_map_or (λ p. p.sort == sort) (slice_get params v) false

-- the parameter, where it is of the sort
abbrev pub parameter_if : List Var → ℕ → ℕ → List Arg
parameter_if params sort v = if has_sort params sort v then Parameter v ∷ [] else []

-- the parameters of a sort, in order
abbrev pub parameters_of : List Var → ℕ → List Arg
parameters_of params sort = flat_map (parameter_if params sort) (numbers (length params))

-- one of the parameters has the constant's name, and so hides it
abbrev pub is_named_by : List Var → Constant → Bool
is_named_by params c = list_any (λ p. same_name p.name c.name) params

-- the constant of this number is of the sort, and no parameter hides it
abbrev pub can_be_named : Specification → List Var → ℕ → ℕ → Bool
can_be_named s params sort k =
    option_map_or (λ c. (c.sort == sort) && not (is_named_by params c)) (slice_get s.constants k) false

-- the constant, where it is of the sort and no parameter hides it
abbrev pub constant_if : Specification → List Var → ℕ → ℕ → List Arg
constant_if s params sort k = if can_be_named s params sort k then FixedArg k ∷ [] else []

-- the constants of a sort that no parameter hides, in order
abbrev pub constants_for : Specification → List Var → ℕ → List Arg
constants_for s params sort = flat_map (constant_if s params sort) (numbers (length s.constants))

-- the `*` of a remove
abbrev pub wildcard_if : Bool → List Arg
wildcard_if wild = if wild then Any ∷ [] else []

-- what may stand in a place of the sort: each parameter, then each constant, and in a remove `*`
abbrev pub choices : Specification → List Var → ℕ → Bool → List Arg
choices s params sort wild = (parameters_of params sort ++ constants_for s params sort) ++ wildcard_if wild

-- what may stand in a place of the predicate: past its arity only what marks the place as unused
abbrev pub choices_at : Specification → List Var → Predicate → Bool → ℕ → List Arg
choices_at s params p wild place =
    if nat_lt place p.arity then choices s params (slice_index p.sorts place) wild else Any ∷ []

-- the effect with this in its places
abbrev pub effect_of : ℕ → Bool → Arg → Arg → Arg → Effect
effect_of n add x y z = record { add = add; predicate = n; args = x ∷ y ∷ z ∷ [] }

-- the effects with this in the first two places
abbrev pub effects_with_two : ℕ → Bool → List Arg → Arg → Arg → List Effect
effects_with_two n add zs x y = flat_map (λ z. effect_of n add x y z ∷ []) zs

-- the effects with this in the first place
abbrev pub effects_with_one : ℕ → Bool → List Arg → List Arg → Arg → List Effect
effects_with_one n add ys zs x = flat_map (effects_with_two n add zs x) ys

-- all effects with one of the choices in each place, in lexicographic order from the first place
abbrev pub effects_with : ℕ → Bool → List Arg → List Arg → List Arg → List Effect
effects_with n add xs ys zs = flat_map (effects_with_one n add ys zs) xs

-- the effects on a predicate that add, or remove, by what stands in their places
abbrev pub effects_on : Specification → List Var → ℕ → Bool → List Effect
effects_on s params n add =
    option_map_or
    (λ p. effects_with n add (choices_at s params p (not add) 0) (choices_at s params p (not add) 1)
    (choices_at s params p (not add) 2))
    (slice_get s.predicates n) []

-- the effects that make the literal true: adds for a fact, removes for a denied one
abbrev pub effects_making : Specification → List Var → Literal → List Effect
effects_making s params (Holds a) = effects_on s params a.predicate true
effects_making s params (Fails a) = effects_on s params a.predicate false
effects_making s params (Same v w) = []
effects_making s params (Differ v w) = []

-- two arguments of effects are the same
abbrev pub same_arg : Arg → Arg → Bool
same_arg (Parameter v) (Parameter w) = v == w
same_arg (FixedArg c) (FixedArg d) = c == d
same_arg Any Any = true
same_arg _ _ = false

-- the same stands in a place of both effects
abbrev pub same_place : Effect → Effect → ℕ → Bool
same_place e f place = same_arg (slice_index_or e.args place Any) (slice_index_or f.args place Any)

-- both add, or both remove
abbrev pub same_kind : Bool → Bool → Bool
same_kind true add = add
same_kind false add = not add

-- two effects are the same
abbrev pub same_effect : Effect → Effect → Bool
same_effect e f =
    (((same_kind e.add f.add && (e.predicate == f.predicate)) && same_place e f 0) && same_place e f 1)
    && same_place e f 2

-- one of the two adds and the other removes, on one predicate
abbrev pub opposes : Effect → Effect → Bool
opposes e f = not (same_kind e.add f.add) && (e.predicate == f.predicate)

-- the operation does not have the effect, nor one that opposes it
abbrev pub is_open_to : Operation → Effect → Bool
is_open_to o e = not (list_any (same_effect e) o.effects) && not (list_any (opposes e) o.effects)

-- the effect as a candidate for the operation, where it is open to it
abbrev pub candidate_if : ℕ → Operation → Effect → List Candidate
candidate_if n o e = if is_open_to o e then Adds n e ∷ [] else []

-- the effects that are candidates for the operation, for a literal
abbrev pub effect_candidates : Specification → ℕ → Operation → Literal → List Candidate
effect_candidates s n o l = flat_map (candidate_if n o) (effects_making s o.params l)

-- an operation has room for one more effect
abbrev pub has_room : Operation → Bool
has_room o = nat_lt (length o.effects) 12

-- the effects that are candidates for the operation, for each literal in turn: none where it has no room for one
abbrev pub operation_candidates : Specification → ℕ → List Literal → Operation → List Candidate
operation_candidates s n ls o = if has_room o then flat_map (effect_candidates s n o) ls else []

-- the same for an action: a drop has none
abbrev pub candidates_of_action : Specification → Action → List Literal → List Candidate
candidates_of_action s (Op n) ls = option_map_or (operation_candidates s n ls) (slice_get s.operations n) []
candidates_of_action s (Drop n) ls = []

-- the flip of the rule of a fact literal's predicate
abbrev pub flip_of : Literal → List Candidate
flip_of (Holds a) = Flips a.predicate ∷ []
flip_of (Fails a) = Flips a.predicate ∷ []
flip_of (Same v w) = []
flip_of (Differ v w) = []

-- two actions are the same
abbrev pub same_action : Action → Action → Bool
same_action (Op m) (Op n) = m == n
same_action (Drop m) (Drop n) = m == n
same_action _ _ = false

-- the candidates of right, where it is another action than left
abbrev pub candidates_of_other : Specification → Action → Action → List Literal → List Candidate
candidates_of_other s left right ls = if same_action left right then [] else candidates_of_action s right ls

-- two candidates are the same
abbrev pub same_candidate : Candidate → Candidate → Bool
same_candidate (Adds m e) (Adds n f) = (m == n) && same_effect e f
same_candidate (Flips m) (Flips n) = m == n
same_candidate _ _ = false

-- candidates, and one more behind them where it is not among them
abbrev pub with_candidate : List Candidate → Candidate → List Candidate
with_candidate seen c = if list_any (same_candidate c) seen then seen else seen ++ c ∷ []

-- the candidates, each at its first place
abbrev pub each_once : List Candidate → List Candidate
each_once cs = fold with_candidate [] cs

-- the candidates for the literals of the reported clauses: effects of left, then of right, and then flips
abbrev pub candidates_for : Specification → Action → Action → List Literal → List Candidate
candidates_for s left right ls =
    (candidates_of_action s left ls ++ candidates_of_other s left right ls) ++ flat_map flip_of ls

-- the candidates for a pair of which these clauses are reported, each once
abbrev pub candidates_of : Specification → Action → Action → List ℕ → List Candidate
candidates_of s left right ks = each_once (candidates_for s left right (literals_of s ks))
