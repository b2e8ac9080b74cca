-- The parts of a specification.
--
--   specification_of ..   the specification of these parts
use Rattle.std.specs.Prelude.{List}
use Rattle.ipa_spec.specs.declared.specification.Specification.{Specification}
use Rattle.ipa_spec.specs.declared.names.Name.{Name}
use Rattle.ipa_spec.specs.declared.constants.Constant.{Constant}
use Rattle.ipa_spec.specs.declared.predicates.Predicate.{Predicate}
use Rattle.ipa_spec.specs.declared.clauses.Clause.{Clause}
use Rattle.ipa_spec.specs.declared.operations.Operation.{Operation}
use Rattle.ipa_spec.specs.declared.bounds.Bound.{Bound}

-- the specification of these parts
abbrev pub specification_of : List Name → List Constant → List Predicate → List Clause →
    List Operation → List Bound → Specification
specification_of sorts constants predicates clauses operations bounds =
    record {
      sorts = sorts;
      constants = constants;
      predicates = predicates;
      clauses = clauses;
      operations = operations;
      bounds = bounds;
    }
