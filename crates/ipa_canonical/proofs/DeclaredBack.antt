-- What the lines of a canonical text declare, kind by kind.
--
--   declared_named   they declare the parts of the specification, by names
use Rattle.std.proofs.Common.{◌≡◌, Bool, true, false, cond, List, [], ◌∷◌, ◌++◌, map, fold, Option, refl, sym, ap, ◌∙◌, append_assoc, append-nil}
use Rattle.std.specs.List.{flat_map}
use Rattle.std.proofs.lemmas.List.Sums.{fold-append}
use Rattle.ipa_spec.specs.declared.names.Name.{Name}
use Rattle.ipa_spec.specs.declared.constants.Constant.{Constant}
use Rattle.ipa_spec.specs.declared.predicates.Predicate.{Predicate}
use Rattle.ipa_spec.specs.declared.clauses.Clause.{Clause}
use Rattle.ipa_spec.specs.declared.clauses.Literal.{Literal}
use Rattle.ipa_spec.specs.declared.operations.Effect.{Effect}
use Rattle.ipa_spec.specs.declared.operations.Operation.{Operation}
use Rattle.ipa_spec.specs.declared.bounds.Bound.{Bound}
use Rattle.ipa_spec.specs.declared.specification.Specification.{Specification}
use Rattle.ipa_forms.specs.declared.forms.Form.{Form}
use Rattle.ipa_forms.specs.declared.forms.Form.TheVariants as line
use Rattle.ipa_names.specs.Naming.{with_last}
use Rattle.ipa_names.specs.Declarations.{nothing_declared, with_declaration, declared_of, with_need, with_effect, with_remove}
use Rattle.ipa_reader.specs.Arrangements.{nothing_arranged, with_arrangement}
use Rattle.ipa_reader.specs.Standings.{with_said, standing_of}
use Rattle.ipa_names.specs.declared.declared.OperationLines.{OperationLines}
use Rattle.ipa_names.specs.declared.declared.BoundLines.{BoundLines}
use Rattle.ipa_names.specs.declared.declared.Declared.{Declared}
use Rattle.ipa_reader.specs.declared.standing.Arranged.{Arranged}
use Rattle.ipa_canonical.specs.Canonical.{predicate_name, args_form, const_form, pred_form, clause_form, typed_form, literal_form, names_of, need_form, effect_form, remove_form, operation_forms, bound_forms, bound_vars, forms_of}
use Rattle.ipa_canonical.specs.Named.{constant_line, predicate_line, clause_line, effect_line, remove_line, operation_lines, bound_lines, named}
use Rattle.ipa_names.specs.ListLaws.{with_last-append}

-- what lines declare behind others
abbrev behind : Declared → List Form → Declared
behind d lines = fold with_declaration d lines

sorts_behind : (d : Declared) (xs : List Name) → behind d (map (λ name. line.Sort name) xs) ≡ record d { sorts = d.sorts ++ xs }
sorts_behind d [] = ap (λ all. record d { sorts = all }) (sym (append-nil d.sorts))
sorts_behind d (x ∷ xs) =
    sorts_behind (record d { sorts = d.sorts ++ x ∷ [] }) xs ∙ ap (λ all. record d { sorts = all }) (append_assoc d.sorts (x ∷ []) xs)

constants_behind : (sorts : List Name) (d : Declared) (xs : List Constant) → behind d (map (const_form sorts) xs) ≡ record d { constants = d.constants ++ map (constant_line sorts) xs }
constants_behind sorts d [] = ap (λ all. record d { constants = all }) (sym (append-nil d.constants))
constants_behind sorts d (x ∷ xs) =
    constants_behind sorts (record d { constants = d.constants ++ constant_line sorts x ∷ [] }) xs ∙ ap (λ all. record d { constants = all }) (append_assoc d.constants (constant_line sorts x ∷ []) (map (constant_line sorts) xs))

predicates_behind : (sorts : List Name) (d : Declared) (xs : List Predicate) → behind d (map (pred_form sorts) xs) ≡ record d { predicates = d.predicates ++ map (predicate_line sorts) xs }
predicates_behind sorts d [] = ap (λ all. record d { predicates = all }) (sym (append-nil d.predicates))
predicates_behind sorts d (x ∷ xs) =
    predicates_behind sorts (record d { predicates = d.predicates ++ predicate_line sorts x ∷ [] }) xs ∙ ap (λ all. record d { predicates = all }) (append_assoc d.predicates (predicate_line sorts x ∷ []) (map (predicate_line sorts) xs))

clauses_behind : (s : Specification) (d : Declared) (xs : List Clause) → behind d (map (clause_form s) xs) ≡ record d { clauses = d.clauses ++ map (clause_line s) xs }
clauses_behind s d [] = ap (λ all. record d { clauses = all }) (sym (append-nil d.clauses))
clauses_behind s d (x ∷ xs) =
    clauses_behind s (record d { clauses = d.clauses ++ clause_line s x ∷ [] }) xs ∙ ap (λ all. record d { clauses = all }) (append_assoc d.clauses (clause_line s x ∷ []) (map (clause_line s) xs))

-- an `add` or a `del` line, by whether it adds
either_declared : (d : Declared) (predicate : Name) (args : List (Option Name)) (b : Bool) → with_declaration d (cond b (line.Add predicate args) (line.Del predicate args)) ≡ record d { operations = with_last (with_effect (record { add = b; predicate = predicate; args = args })) d.operations }
either_declared d predicate args true = refl
either_declared d predicate args false = refl

module _ (s : Specification) (own : Name) (vars : List Name) where
  -- needs go to the operation declared last
  needs_behind : (d : Declared) (os : List OperationLines) (o : OperationLines) (ns : List Literal) →
      behind (record d { operations = os ++ o ∷ [] }) (map (need_form s own vars) ns) ≡ record d { operations = os ++ (record o { needs = o.needs ++ map (literal_form s own vars) ns }) ∷ [] }
  needs_behind d os o [] = ap (λ all. record d { operations = os ++ (record o { needs = all }) ∷ [] }) (sym (append-nil o.needs))
  needs_behind d os o (n ∷ ns) =
      let l = literal_form s own vars n in
      ap (λ all. behind (record d { operations = all }) (map (need_form s own vars) ns)) (with_last-append (with_need l) os o)
      ∙ needs_behind d os (with_need l o) ns
      ∙ ap (λ all. record d { operations = os ++ (record o { needs = all }) ∷ [] }) (append_assoc o.needs (l ∷ []) (map (literal_form s own vars) ns))

  effect_declared : (d : Declared) (e : Effect) → with_declaration d (effect_form s own vars e) ≡ record d { operations = with_last (with_effect (effect_line s own vars e)) d.operations }
  effect_declared d e = either_declared d (predicate_name s own e.predicate) (args_form s own vars e) e.add

  effects_behind : (d : Declared) (os : List OperationLines) (o : OperationLines) (es : List Effect) →
      behind (record d { operations = os ++ o ∷ [] }) (map (effect_form s own vars) es) ≡ record d { operations = os ++ (record o { effects = o.effects ++ map (effect_line s own vars) es }) ∷ [] }
  effects_behind d os o [] = ap (λ all. record d { operations = os ++ (record o { effects = all }) ∷ [] }) (sym (append-nil o.effects))
  effects_behind d os o (e ∷ es) =
      let l = effect_line s own vars e in
      ap (λ start. behind start (map (effect_form s own vars) es)) (effect_declared (record d { operations = os ++ o ∷ [] }) e)
      ∙ ap (λ all. behind (record d { operations = all }) (map (effect_form s own vars) es)) (with_last-append (with_effect l) os o)
      ∙ effects_behind d os (with_effect l o) es
      ∙ ap (λ all. record d { operations = os ++ (record o { effects = all }) ∷ [] }) (append_assoc o.effects (l ∷ []) (map (effect_line s own vars) es))

  removes_behind : (d : Declared) (bs : List BoundLines) (b : BoundLines) (es : List Effect) →
      behind (record d { bounds = bs ++ b ∷ [] }) (map (remove_form s own vars) es) ≡ record d { bounds = bs ++ (record b { removes = b.removes ++ map (remove_line s own vars) es }) ∷ [] }
  removes_behind d bs b [] = ap (λ all. record d { bounds = bs ++ (record b { removes = all }) ∷ [] }) (sym (append-nil b.removes))
  removes_behind d bs b (e ∷ es) =
      let l = remove_line s own vars e in
      ap (λ all. behind (record d { bounds = all }) (map (remove_form s own vars) es)) (with_last-append (with_remove l) bs b)
      ∙ removes_behind d bs (with_remove l b) es
      ∙ ap (λ all. record d { bounds = bs ++ (record b { removes = all }) ∷ [] }) (append_assoc b.removes (l ∷ []) (map (remove_line s own vars) es))

operation_behind : (s : Specification) (d : Declared) (o : Operation) → behind d (operation_forms s o) ≡ record d { operations = d.operations ++ operation_lines s o ∷ [] }
operation_behind s d o =
    let bare : OperationLines = record { name = o.name; params = map (typed_form s.sorts) o.params; needs = []; effects = [] } in
    let needs = map (need_form s o.name (names_of o.params)) o.needs in
    let effects = map (effect_form s o.name (names_of o.params)) o.effects in
    let filled : OperationLines = record bare { needs = map (literal_form s o.name (names_of o.params)) o.needs } in
    fold-append with_declaration (record d { operations = d.operations ++ bare ∷ [] }) needs effects
    ∙ ap (λ start. behind start effects) (needs_behind s o.name (names_of o.params) d d.operations bare o.needs)
    ∙ effects_behind s o.name (names_of o.params) d d.operations filled o.effects

operations_behind : (s : Specification) (d : Declared) (xs : List Operation) → behind d (flat_map (operation_forms s) xs) ≡ record d { operations = d.operations ++ map (operation_lines s) xs }
operations_behind s d [] = ap (λ all. record d { operations = all }) (sym (append-nil d.operations))
operations_behind s d (x ∷ xs) =
    fold-append with_declaration d (operation_forms s x) (flat_map (operation_forms s) xs)
    ∙ ap (λ start. behind start (flat_map (operation_forms s) xs)) (operation_behind s d x)
    ∙ operations_behind s (record d { operations = d.operations ++ operation_lines s x ∷ [] }) xs
    ∙ ap (λ all. record d { operations = all }) (append_assoc d.operations (operation_lines s x ∷ []) (map (operation_lines s) xs))

bound_behind : (s : Specification) (d : Declared) (b : Bound) → behind d (bound_forms s b) ≡ record d { bounds = d.bounds ++ bound_lines s b ∷ [] }
bound_behind s d b =
    let bare : BoundLines = record (bound_lines s b) { removes = [] } in
    removes_behind s b.name (bound_vars s.predicates b) d d.bounds bare b.removes

bounds_behind : (s : Specification) (d : Declared) (xs : List Bound) → behind d (flat_map (bound_forms s) xs) ≡ record d { bounds = d.bounds ++ map (bound_lines s) xs }
bounds_behind s d [] = ap (λ all. record d { bounds = all }) (sym (append-nil d.bounds))
bounds_behind s d (x ∷ xs) =
    fold-append with_declaration d (bound_forms s x) (flat_map (bound_forms s) xs)
    ∙ ap (λ start. behind start (flat_map (bound_forms s) xs)) (bound_behind s d x)
    ∙ bounds_behind s (record d { bounds = d.bounds ++ bound_lines s x ∷ [] }) xs
    ∙ ap (λ all. record d { bounds = all }) (append_assoc d.bounds (bound_lines s x ∷ []) (map (bound_lines s) xs))

all_behind : (s : Specification) → declared_of (forms_of s) ≡ named s
all_behind s =
    let sort_lines = map (λ name. line.Sort name) s.sorts in
    let constant_forms = map (const_form s.sorts) s.constants in
    let predicate_forms = map (pred_form s.sorts) s.predicates in
    let clause_forms = map (clause_form s) s.clauses in
    let operation_parts = flat_map (operation_forms s) s.operations in
    let bound_parts = flat_map (bound_forms s) s.bounds in
    let d1 : Declared = record nothing_declared { sorts = s.sorts } in
    let d0 : Declared = record d1 { constants = map (constant_line s.sorts) s.constants } in
    let d2 : Declared = record d0 { predicates = map (predicate_line s.sorts) s.predicates } in
    let d3 : Declared = record d2 { clauses = map (clause_line s) s.clauses } in
    let d4 : Declared = record d3 { operations = map (operation_lines s) s.operations } in
    fold-append with_declaration nothing_declared sort_lines (constant_forms ++ (predicate_forms ++ (clause_forms ++ (operation_parts ++ bound_parts))))
    ∙ ap (λ start. behind start (constant_forms ++ (predicate_forms ++ (clause_forms ++ (operation_parts ++ bound_parts))))) (sorts_behind nothing_declared s.sorts)
    ∙ fold-append with_declaration d1 constant_forms (predicate_forms ++ (clause_forms ++ (operation_parts ++ bound_parts)))
    ∙ ap (λ start. behind start (predicate_forms ++ (clause_forms ++ (operation_parts ++ bound_parts)))) (constants_behind s.sorts d1 s.constants)
    ∙ fold-append with_declaration d0 predicate_forms (clause_forms ++ (operation_parts ++ bound_parts))
    ∙ ap (λ start. behind start (clause_forms ++ (operation_parts ++ bound_parts))) (predicates_behind s.sorts d0 s.predicates)
    ∙ fold-append with_declaration d2 clause_forms (operation_parts ++ bound_parts)
    ∙ ap (λ start. behind start (operation_parts ++ bound_parts)) (clauses_behind s d2 s.clauses)
    ∙ fold-append with_declaration d3 operation_parts bound_parts
    ∙ ap (λ start. behind start bound_parts) (operations_behind s d3 s.operations)
    ∙ bounds_behind s d4 s.bounds

-- what is declared does not depend on what is arranged
pub said-declared : (lines : List Form) (d : Declared) (a : Arranged) → (fold with_said (d, a) lines).0 ≡ fold with_declaration d lines
said-declared [] d a = refl
said-declared (l ∷ lines) d a = said-declared lines (with_declaration d l) (with_arrangement d a l)

pub declared_named : (s : Specification) → (standing_of (forms_of s)).declared ≡ named s
declared_named s = said-declared (forms_of s) nothing_declared nothing_arranged ∙ all_behind s
