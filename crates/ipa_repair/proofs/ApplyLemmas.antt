-- Specifications with some parts exchanged.
--
--   refused             parts with a fault are not faultless
--   same_parts          what holds of equal parts holds of the specification with two of them exchanged
--   applied-more        one more candidate
--   params_few          an operation of a fit specification has at most 4 parameters
use Rattle.std.proofs.Common.{◌≡◌, ℕ, ◌+◌, ◌<◌, ◌≤◌, List, [], ◌∷◌, length, take, get_or, Option, Some, None, sym, ap, ◌∙◌, subst, arith}
use Rattle.std.specs.List.{slice_get}
use Rattle.std.specs.Option.{option_map_or}
use Rattle.std.proofs.lemmas.List.{take_more, length-map}
use Rattle.std.proofs.lemmas.List.Sums.{fold-append}
use Rattle.ipa_spec.specs.Actions.{sorts_of_vars}
use Rattle.ipa_spec.specs.Parts.{specification_of}
use Rattle.ipa_spec.specs.Fits.{IsFit}
use Rattle.ipa_spec.specs.Limits.{IsFaultless, fault_of}
use Rattle.ipa_spec.specs.declared.faults.SpecFault.{SpecFault}
use Rattle.ipa_spec.specs.declared.specification.Specification.{Specification}
use Rattle.ipa_spec.specs.declared.names.Name.{Name}
use Rattle.ipa_spec.specs.declared.constants.Constant.{Constant}
use Rattle.ipa_spec.specs.declared.predicates.Predicate.{Predicate}
use Rattle.ipa_spec.specs.declared.clauses.Clause.{Clause}
use Rattle.ipa_spec.specs.declared.operations.Operation.{Operation}
use Rattle.ipa_spec.specs.declared.operations.Action.TheVariants.{Op}
use Rattle.ipa_spec.specs.declared.bounds.Bound.{Bound}
use Rattle.ipa_repair.specs.Applying.{applied, applied_one}
use Rattle.ipa_repair.specs.declared.candidates.Candidate.{Candidate}

-- parts with a fault are not faultless
pub refused : (s : Specification) (fault : SpecFault) → fault_of s ≡ Some fault → IsFaultless s → ⊥
refused s fault e h = let no : None ≡ Some fault = sym h.none ∙ e in cc

-- what holds of equal parts holds of the specification with two of them exchanged
pub same_parts : (P : Specification → Type 0) (s : Specification) (sorts : List Name) (constants : List Constant)
    (predicates : List Predicate) (clauses : List Clause) (operations : List Operation) (bounds : List Bound) →
    sorts ≡ s.sorts → constants ≡ s.constants → clauses ≡ s.clauses → bounds ≡ s.bounds →
    P (specification_of sorts constants predicates clauses operations bounds) →
    P (record s { operations = operations; predicates = predicates })
same_parts P s sorts constants predicates clauses operations bounds a b c d h =
    subst (λ x. P (record s { operations = operations; predicates = predicates; bounds = x })) d
    (subst (λ x. P (record s { operations = operations; predicates = predicates; bounds = bounds; clauses = x })) c
    (subst (λ x. P (record s { operations = operations; predicates = predicates; bounds = bounds; clauses = clauses; constants = x })) b
    (subst (λ x. P (specification_of x constants predicates clauses operations bounds)) a h)))

-- one more candidate
pub applied-more : (s now next : Specification) (parts : List Candidate) (i : ℕ) (d : Candidate) → i < length parts →
    now ≡ applied s (take i parts) → next ≡ applied_one now (get_or parts i d) → next ≡ applied s (take (i + 1) parts)
applied-more s now next parts i d l e step =
    step ∙ (ap (λ x. applied_one x (get_or parts i d)) e
    ∙ (sym (fold-append applied_one s (take i parts) (get_or parts i d ∷ [])) ∙ ap (applied s) (sym (take_more parts i d l))))

-- an operation of a fit specification has at most 4 parameters
pub params_few : (s : Specification) (n : ℕ) (o : Operation) → IsFit s → slice_get s.operations n ≡ Some o → length o.params ≤ 4
params_few s n o fit e =
    let few : length (sorts_of_vars o.params) ≤ 4 =
    subst (λ (found : Option Operation). length (option_map_or (λ o. sorts_of_vars o.params) found []) ≤ 4) e (fit.argument_count (Op n)) in
    omega (arith, few, length-map o.params (λ v. v.sort))
