-- No line of a canonical text is refused.
--
--   accepted   none of its forms is, each given those before it
use Rattle.std.proofs.Common.{[], ◌++◌, map, subst, append-nil}
use Rattle.std.specs.List.{flat_map}
use Rattle.ipa_spec.specs.Limits.{IsFaultless}
use Rattle.ipa_spec.specs.FaultlessFits.{parts_of-faultless, IsFit-from_faultless}
use Rattle.ipa_spec.specs.declared.specification.Specification.{Specification}
use Rattle.ipa_canonical.specs.Canonical.{const_form, pred_form, clause_form, operation_forms, bound_forms, forms_of}
use Rattle.ipa_reader.specs.Documents.{AreAccepted}
use Rattle.ipa_canonical.specs.Named.{clause_line, operation_lines}
use Rattle.ipa_canonical.specs.Shapes.{IsShaped}
use Rattle.ipa_canonical.specs.Hidden.{HidesNoConstant}
use Rattle.ipa_canonical.proofs.AcceptedChain.{Onward, accepted_all}
use Rattle.ipa_canonical.proofs.AcceptedLimits.{inside}
use Rattle.ipa_canonical.proofs.AcceptedParts.{full}
use Rattle.ipa_canonical.proofs.AcceptedLines.{sorts_go, constants_go, predicates_go, clauses_go}
use Rattle.ipa_canonical.proofs.AcceptedOperations.{operations_go}
use Rattle.ipa_canonical.proofs.AcceptedBounds.{bounds_go}

pub accepted : (s : Specification) → IsFaultless s → IsShaped s → HidesNoConstant s → AreAccepted (forms_of s)
accepted s h shaped open_names =
    let fit = IsFit-from_faultless s h in
    let flaws = parts_of-faultless s h in
    let counts = inside s h in
    let cs = map (clause_line s) s.clauses in
    let os = map (operation_lines s) s.operations in
    let predicates = map (pred_form s.sorts) s.predicates in
    let clauses = map (clause_form s) s.clauses in
    let operations = flat_map (operation_forms s) s.operations in
    let bounds = flat_map (bound_forms s) s.bounds in
    let at_bounds : Onward (full s cs os []) bounds = subst (λ lines. Onward (full s cs os []) lines) (append-nil bounds) (bounds_go s fit flaws counts shaped open_names cs os [] (λ operation bound a. tt)) in
    let at_operations = operations_go s fit flaws counts shaped open_names cs bounds at_bounds in
    let at_clauses = clauses_go s fit flaws shaped open_names (operations ++ bounds) at_operations in
    let at_predicates = predicates_go s fit flaws shaped open_names (clauses ++ (operations ++ bounds)) at_clauses in
    let later = predicates ++ (clauses ++ (operations ++ bounds)) in
    let at_constants = constants_go s fit flaws shaped open_names later at_predicates in
    accepted_all (forms_of s) (sorts_go s fit flaws shaped open_names (map (const_form s.sorts) s.constants ++ later) at_constants)
