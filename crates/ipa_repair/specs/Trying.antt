-- Candidates that have been tried alone.
--
--   IsTold s left right t   whether the candidate clears the pair alone is told rightly
--   tried_of ts             the candidates that were tried
use Rattle.std.specs.Prelude.{List, [], ◌∷◌, map, MatchBool}
use Rattle.ipa_spec.specs.declared.specification.Specification.{Specification}
use Rattle.ipa_spec.specs.declared.operations.Action.{Action}
use Rattle.ipa_repair.specs.Offers.{Clears}
use Rattle.ipa_repair.specs.declared.candidates.Candidate.{Candidate}
use Rattle.ipa_repair.specs.declared.trying.Tried.{Tried}

-- whether the candidate clears the pair alone is told rightly
pub record IsTold (s : Specification) (left right : Action) (t : Tried) : Type 0 where
  pub told : MatchBool t.clears (Clears s left right (t.candidate ∷ [])) (Clears s left right (t.candidate ∷ []) → ⊥)

-- the candidates that were tried
abbrev pub tried_of : List Tried → List Candidate
tried_of ts = map (λ t. t.candidate) ts
