-- What a candidate changes.
--
--   with_effect os n e     the operations, with the effect at the end of those of operation n
--   flipped rule           the other rule
--   with_flip ps n         the predicates, with the rule of predicate n flipped
--   applied_one s c        the specification after one candidate
--   applied s parts        the specification after some candidates, one after the other
use Rattle.std.specs.Prelude.{ℕ, List, [], ◌∷◌, ◌++◌, fold, slice_get, slice_set}
use Rattle.std.specs.Option.{option_map_or}
use Rattle.ipa_spec.specs.declared.specification.Specification.{Specification}
use Rattle.ipa_spec.specs.declared.predicates.Predicate.{Predicate}
use Rattle.ipa_spec.specs.declared.predicates.Rule.{Rule}
use Rattle.ipa_spec.specs.declared.predicates.Rule.TheVariants.{AddWins, RemoveWins}
use Rattle.ipa_spec.specs.declared.operations.Effect.{Effect}
use Rattle.ipa_spec.specs.declared.operations.Operation.{Operation}
use Rattle.ipa_repair.specs.declared.candidates.Candidate.{Candidate}
use Rattle.ipa_repair.specs.declared.candidates.Candidate.TheVariants.{Adds, Flips}

-- the operations, with the effect at the end of those of the operation of this number
abbrev pub with_effect : List Operation → ℕ → Effect → List Operation
with_effect os n e =
    option_map_or (λ o. slice_set os n (record o { effects = o.effects ++ e ∷ [] })) (slice_get os n) os

-- the other rule
abbrev pub flipped : Rule → Rule
flipped AddWins = RemoveWins
flipped RemoveWins = AddWins

-- the predicates, with the rule of the predicate of this number flipped
abbrev pub with_flip : List Predicate → ℕ → List Predicate
with_flip ps n = option_map_or (λ p. slice_set ps n (record p { rule = flipped p.rule })) (slice_get ps n) ps

-- the specification after a candidate: the operation does the effect too, or the predicate has the other rule
abbrev pub applied_one : Specification → Candidate → Specification
applied_one s (Adds n e) = record s { operations = with_effect s.operations n e }
applied_one s (Flips n) = record s { predicates = with_flip s.predicates n }

-- the specification after some candidates, one after the other
abbrev pub applied : Specification → List Candidate → Specification
applied s parts = fold applied_one s parts
