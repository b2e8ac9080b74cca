-- What accepted specification lines keep.
--
--   EachOf P xs               P holds of each item
--   IsSoundPredicate d p, ..  what is declared has no flaw, and keeps the limits on its counts
--   AreSoundParts ..          things of one kind: their number, their names, and each of them
--   IsSound d                 everything that is declared is so
--   IsDeclarable d line       the line has no flaw and passes no limit where d is declared
use Rattle.std.specs.Prelude.{◌≡◌, ℕ, ◌<◌, ◌≤◌, false, List, length, slice_get, Option, Some, None}
use Rattle.std.specs.List.{list_any}
use Rattle.ipa_spec.specs.Faults.{has_repeat}
use Rattle.ipa_spec.specs.declared.names.Name.{Name}
use Rattle.ipa_spec.specs.declared.faults.SpecFault.{SpecFault}
use Rattle.ipa_forms.specs.declared.forms.Form.{Form}
use Rattle.ipa_forms.specs.declared.forms.Typed.{Typed}
use Rattle.ipa_names.specs.Scopes.{constants_named, with_constants, bound_variables}
use Rattle.ipa_names.specs.Flaws.{sort_has, variables_have, literal_has, effect_has, bound_has, specification_line_has}
use Rattle.ipa_names.specs.Counts.{limits_passed}
use Rattle.ipa_names.specs.declared.flaws.Flaw.{Flaw}
use Rattle.ipa_names.specs.declared.declared.PredicateLine.{PredicateLine}
use Rattle.ipa_names.specs.declared.declared.ClauseLine.{ClauseLine}
use Rattle.ipa_names.specs.declared.declared.OperationLines.{OperationLines}
use Rattle.ipa_names.specs.declared.declared.BoundLines.{BoundLines}
use Rattle.ipa_names.specs.declared.declared.Declared.{Declared}

pub record EachOf {X : Type 0} (P : X → Type 0) (xs : List X) : Type 0 where
  pub at : (k : ℕ) (x : X) → slice_get xs k ≡ Some x → P x

pub record IsSoundConstant (d : Declared) (c : Typed) : Type 0 where
  pub flawless : (flaw : Flaw) → sort_has flaw d c.sort ≡ false

pub record IsSoundPredicate (d : Declared) (p : PredicateLine) : Type 0 where
  pub places : length p.sorts ≤ 3
  pub flawless : (flaw : Flaw) → list_any (sort_has flaw d) p.sorts ≡ false

pub record IsSoundClause (d : Declared) (c : ClauseLine) : Type 0 where
  pub literal_count : length c.literals ≤ 6
  pub variable_count : length c.vars ≤ 4
  pub variables : (flaw : Flaw) → variables_have flaw d c.vars ≡ false
  pub literals : (flaw : Flaw) → list_any (literal_has flaw d (with_constants d c.vars)) c.literals ≡ false

pub record IsSoundOperation (d : Declared) (o : OperationLines) : Type 0 where
  pub parameter_count : length o.params ≤ 4
  pub need_count : length o.needs ≤ 6
  pub effect_count : length o.effects ≤ 12
  pub parameters : (flaw : Flaw) → variables_have flaw d o.params ≡ false
  pub needs : (flaw : Flaw) → list_any (literal_has flaw d (with_constants d o.params)) o.needs ≡ false
  pub effects : (flaw : Flaw) → list_any (effect_has flaw d (with_constants d o.params)) o.effects ≡ false

pub record IsSoundBound (d : Declared) (b : BoundLines) : Type 0 where
  pub variable_count : length b.vars ≤ 3
  pub some_size : 0 < b.most
  pub size : b.most ≤ 65535
  pub remove_count : length b.removes ≤ 4
  pub flawless : (flaw : Flaw) → bound_has flaw d b.predicate b.vars b.counted ≡ false
  pub removes : (flaw : Flaw) → list_any (effect_has flaw d (with_constants d (bound_variables d b))) b.removes ≡ false
  pub removing : list_any (λ e. e.add) b.removes ≡ false

-- things of one kind: not too many, none with another's name, and each so
pub record AreSoundParts {X : Type 0} (name_of : X → Name) (most : ℕ) (P : X → Type 0) (xs : List X) : Type 0 where
  pub count : length xs ≤ most
  pub apart : has_repeat name_of xs ≡ false
  pub each : EachOf P xs

pub record IsSound (d : Declared) : Type 0 where
  pub sorts : AreSoundParts (λ name. name) 8 (λ name. Unit {0}) d.sorts
  pub constants : AreSoundParts (λ c. c.name) 32 (IsSoundConstant d) d.constants
  pub constant_most : (sort : Name) → length (constants_named d.constants sort) ≤ 4
  pub predicates : AreSoundParts (λ p. p.name) 32 (IsSoundPredicate d) d.predicates
  pub clauses : AreSoundParts (λ c. c.name) 32 (IsSoundClause d) d.clauses
  pub operations : AreSoundParts (λ o. o.name) 32 (IsSoundOperation d) d.operations
  pub bounds : AreSoundParts (λ b. b.name) 8 (IsSoundBound d) d.bounds

-- the line has no flaw and passes no limit where d is declared
pub record IsDeclarable (d : Declared) (line : Form) : Type 0 where
  pub flawless : (flaw : Flaw) → specification_line_has flaw d line ≡ false
  pub limits : (n : ℕ) (o : Option SpecFault) → slice_get (limits_passed d line) n ≡ Some o → o ≡ None
