-- What the lines of a canonical text declare: the parts of the specification, with names in place of numbers.
--
--   predicate_line ..   a declared part, by names
--   named s             the parts of the specification, by names
use Rattle.std.specs.Prelude.{false, List, map, take, slice_index_or}
use Rattle.ipa_spec.specs.declared.names.Name.{Name}
use Rattle.ipa_spec.specs.declared.constants.Constant.{Constant}
use Rattle.ipa_spec.specs.declared.predicates.Predicate.{Predicate}
use Rattle.ipa_spec.specs.declared.clauses.Clause.{Clause}
use Rattle.ipa_spec.specs.declared.operations.Effect.{Effect}
use Rattle.ipa_spec.specs.declared.operations.Operation.{Operation}
use Rattle.ipa_spec.specs.declared.bounds.Bound.{Bound}
use Rattle.ipa_spec.specs.declared.specification.Specification.{Specification}
use Rattle.ipa_forms.specs.declared.forms.Typed.{Typed}
use Rattle.ipa_names.specs.declared.declared.PredicateLine.{PredicateLine}
use Rattle.ipa_names.specs.declared.declared.ClauseLine.{ClauseLine}
use Rattle.ipa_names.specs.declared.declared.EffectLine.{EffectLine}
use Rattle.ipa_names.specs.declared.declared.OperationLines.{OperationLines}
use Rattle.ipa_names.specs.declared.declared.BoundLines.{BoundLines}
use Rattle.ipa_names.specs.declared.declared.Declared.{Declared}
use Rattle.ipa_canonical.specs.Canonical.{names_at, predicate_name, typed_form, literal_form, names_of, args_form, bound_vars}

abbrev pub constant_line : List Name → Constant → Typed
constant_line sorts c = record { name = c.name; sort = slice_index_or sorts c.sort c.name }

abbrev pub predicate_line : List Name → Predicate → PredicateLine
predicate_line sorts p = record { name = p.name; sorts = names_at sorts p.name (take p.arity p.sorts); rule = p.rule }

abbrev pub clause_line : Specification → Clause → ClauseLine
clause_line s c = record {
  name = c.name;
  vars = map (typed_form s.sorts) c.vars;
  literals = map (literal_form s c.name (names_of c.vars)) c.literals;
}

abbrev pub effect_line : Specification → Name → List Name → Effect → EffectLine
effect_line s own vars e = record {
  add = e.add;
  predicate = predicate_name s own e.predicate;
  args = args_form s own vars e;
}

abbrev pub operation_lines : Specification → Operation → OperationLines
operation_lines s o = record {
  name = o.name;
  params = map (typed_form s.sorts) o.params;
  needs = map (literal_form s o.name (names_of o.params)) o.needs;
  effects = map (effect_line s o.name (names_of o.params)) o.effects;
}

-- a further remove removes, whatever the effect says
abbrev pub remove_line : Specification → Name → List Name → Effect → EffectLine
remove_line s own vars e = record {
  add = false;
  predicate = predicate_name s own e.predicate;
  args = args_form s own vars e;
}

abbrev pub bound_lines : Specification → Bound → BoundLines
bound_lines s b = record {
  name = b.name;
  predicate = predicate_name s b.name b.predicate;
  vars = bound_vars s.predicates b;
  counted = slice_index_or b.vars b.counted b.name;
  most = b.most;
  pick = b.pick;
  removes = map (remove_line s b.name (bound_vars s.predicates b)) b.removes;
}

abbrev pub named : Specification → Declared
named s = record {
  sorts = s.sorts;
  constants = map (constant_line s.sorts) s.constants;
  predicates = map (predicate_line s.sorts) s.predicates;
  clauses = map (clause_line s) s.clauses;
  operations = map (operation_lines s) s.operations;
  bounds = map (bound_lines s) s.bounds;
}
