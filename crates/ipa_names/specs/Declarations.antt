-- What lines declare, by names. Each line adds to what the lines before it declare.
--
--   nothing_declared              what no line declares
--   with_declaration before line  what is declared with this line behind those
--   declared_of lines             what these lines declare
use Rattle.std.specs.Prelude.{ℕ, true, false, List, [], ◌∷◌, ◌++◌, Option, fold}
use Rattle.ipa_spec.specs.declared.names.Name.{Name}
use Rattle.ipa_names.specs.Naming.{with_last}
use Rattle.ipa_spec.specs.declared.bounds.Pick.{Pick}
use Rattle.ipa_forms.specs.declared.forms.LiteralForm.{LiteralForm}
use Rattle.ipa_forms.specs.declared.forms.Form.{Form}
use Rattle.ipa_forms.specs.declared.forms.Form.TheVariants.{Sort, Const, Pred, Clause, Op, Need, Add, Del, Bound, Drops}
use Rattle.ipa_names.specs.declared.declared.OperationLines.{OperationLines}
use Rattle.ipa_names.specs.declared.declared.BoundLines.{BoundLines}
use Rattle.ipa_names.specs.declared.declared.EffectLine.{EffectLine}
use Rattle.ipa_names.specs.declared.declared.Declared.{Declared}

abbrev pub nothing_declared : Declared
nothing_declared = record { sorts = []; constants = []; predicates = []; clauses = []; operations = []; bounds = [] }

-- an operation with one more need, an operation with one more effect, and a bound with one more remove
abbrev pub with_need : LiteralForm → OperationLines → OperationLines
with_need need o = record o { needs = o.needs ++ need ∷ [] }

abbrev pub with_effect : EffectLine → OperationLines → OperationLines
with_effect effect o = record o { effects = o.effects ++ effect ∷ [] }

abbrev pub with_remove : EffectLine → BoundLines → BoundLines
with_remove effect b = record b { removes = b.removes ++ effect ∷ [] }

-- an `add` line adds, and a `del` or `drops` line removes
abbrev pub add_effect : Name → List (Option Name) → EffectLine
add_effect predicate args = record { add = true; predicate = predicate; args = args }

abbrev pub remove_effect : Name → List (Option Name) → EffectLine
remove_effect predicate args = record { add = false; predicate = predicate; args = args }

-- a bound without further removes
abbrev pub bound_line : Name → Name → List Name → Name → ℕ → Pick → BoundLines
bound_line name predicate vars counted most pick = record {
  name = name;
  predicate = predicate;
  vars = vars;
  counted = counted;
  most = most;
  pick = pick;
  removes = [];
}

-- needs and effects go to the operation declared last, further removes to the bound declared last; setup lines declare
-- nothing here
abbrev pub with_declaration : Declared → Form → Declared
with_declaration d (Sort name) = record d { sorts = d.sorts ++ name ∷ [] }
with_declaration d (Const c) = record d { constants = d.constants ++ c ∷ [] }
with_declaration d (Pred name sorts rule) =
    record d { predicates = d.predicates ++ record { name = name; sorts = sorts; rule = rule } ∷ [] }
with_declaration d (Clause name vars literals) =
    record d { clauses = d.clauses ++ record { name = name; vars = vars; literals = literals } ∷ [] }
with_declaration d (Op name params) =
    record d { operations = d.operations ++ record { name = name; params = params; needs = []; effects = [] } ∷ [] }
with_declaration d (Need literal) = record d { operations = with_last (with_need literal) d.operations }
with_declaration d (Add predicate args) =
    record d { operations = with_last (with_effect (add_effect predicate args)) d.operations }
with_declaration d (Del predicate args) =
    record d { operations = with_last (with_effect (remove_effect predicate args)) d.operations }
with_declaration d (Bound name predicate vars counted most pick) =
    record d { bounds = d.bounds ++ bound_line name predicate vars counted most pick ∷ [] }
with_declaration d (Drops predicate args) =
    record d { bounds = with_last (with_remove (remove_effect predicate args)) d.bounds }
with_declaration d _ = d

abbrev pub declared_of : List Form → Declared
declared_of lines = fold with_declaration nothing_declared lines
