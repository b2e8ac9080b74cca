-- Names that are said and known: their uses have no flaw.
--
--   name_new         a part has the name of none before it
--   sort_known       the name of a declared sort
--   sort_named       two sorts have the same name exactly where they are the same
--   variables_clean  variables whose sorts are declared, none with another's name
--   Knows sorts scope names nums   the variables of a scope have the names, and the sorts of these numbers
--   knows_vars       so do the variables of a clause or an operation
--   knows_places     and those of a bound
--   knows_more       and so they do where more stands behind
--   KnowsConstants s scope names   a scope gives each constant that no variable hides its sort
--   knows_constants  so does one that ends with the constants
use Rattle.std.proofs.Common.{◌≡◌, ℕ, zero, suc, ◌<◌, Bool, true, false, cond, not, List, [], ◌∷◌, ◌++◌, length, map, ◌==◌, Option, Some, None, refl, sym, ap, subst, ◌∙◌, arith}
use Rattle.std.specs.List.{slice_get, slice_index_or, list_any, find, zip}
use Rattle.std.specs.Option.{option_map, option_map_or, is_none}
use Rattle.std.proofs.lemmas.Bool.{or_from, or_parts, or_left, or_right, eq-eqb, eqb-true, false≢true}
use Rattle.std.proofs.lemmas.List.Folds.{list_any-append}
use Rattle.std.proofs.lemmas.Option.{same_Some, get_or_from_slice_get, slice_get_within}
use Rattle.ipa_spec.specs.Actions.{sorts_of_vars}
use Rattle.ipa_spec.specs.Constants.{sort_of_constant}
use Rattle.ipa_spec.specs.declared.constants.Constant.{Constant}
use Rattle.ipa_spec.specs.declared.specification.Specification.{Specification}
use Rattle.ipa_spec.specs.Faults.{same_name, has_repeat}
use Rattle.ipa_spec.specs.FoundLaws.{map_at, none_of}
use Rattle.ipa_spec.specs.declared.names.Name.{Name}
use Rattle.ipa_spec.specs.declared.predicates.Var.{Var}
use Rattle.ipa_forms.specs.declared.forms.Typed.{Typed}
use Rattle.ipa_canonical.specs.Canonical.{constant_name, typed_form, names_of}
use Rattle.ipa_canonical.specs.Named.{constant_line}
use Rattle.ipa_canonical.specs.Hidden.{IsSaidByName}
use Rattle.ipa_names.specs.Naming.{is_among}
use Rattle.ipa_names.specs.Scopes.{sort_of_variable, typed_by_places}
use Rattle.ipa_names.specs.Flaws.{use_has, declaration_has, sort_has, list_has, variables_have, place_has, variable_has, comparison_has, counted_has}
use Rattle.ipa_names.specs.declared.flaws.Flaw.{Flaw}
use Rattle.ipa_names.specs.declared.flaws.Flaw.TheVariants.{Arity, SortMismatch, UnknownName, Duplicate, WildAdd, FreeVariable}
use Rattle.ipa_names.specs.declared.declared.Declared.{Declared}
use Rattle.ipa_canonical.proofs.Numbers.{number_back, find_back, found_at, typed_names}
use Rattle.ipa_names.specs.ListLaws.{any-map, found_first}
use Rattle.ipa_spec.specs.NameLaws.{same_name-refl}
use Rattle.ipa_names.specs.NumberLaws.{repeat-map, slice_get-mapped, number_same}

pub none_zipped : {X Y : Type 0} (test : X × Y → Bool) (xs : List X) (ys : List Y) → ((n : ℕ) (x : X) (y : Y) → slice_get xs n ≡ Some x → slice_get ys n ≡ Some y → test (x, y) ≡ false) → list_any test (zip xs ys) ≡ false
none_zipped test [] ys h = refl
none_zipped test (x ∷ xs) [] h = refl
none_zipped test (x ∷ xs) (y ∷ ys) h = or_from (test (x, y)) (list_any test (zip xs ys)) (h 0 x y refl refl) (none_zipped test xs ys (λ n a b e f. h (suc n) a b e f))

pub among_at : (names : List Name) (k : ℕ) (name : Name) → slice_get names k ≡ Some name → is_among names name ≡ true
among_at [] k name e = cc
among_at (n ∷ names) zero name e = or_left (same_name n name) (is_among names name) (subst (λ m. same_name n m ≡ true) (same_Some _ _ e) (same_name-refl n))
among_at (n ∷ names) (suc k) name e = or_right (same_name n name) (is_among names name) (among_at names k name e)

-- a part has the name of none before it
apart_before : {X : Type 0} (name_of : X → Name) (before later : List X) (x : X) → has_repeat name_of (before ++ x ∷ later) ≡ false → list_any (λ y. same_name (name_of y) (name_of x)) before ≡ false
apart_before name_of [] later x h = refl
apart_before name_of (y ∷ before) later x h =
    let parts = or_parts (list_any (λ z. same_name (name_of y) (name_of z)) (before ++ x ∷ later)) (has_repeat name_of (before ++ x ∷ later)) h in
    let split = or_parts (list_any (λ z. same_name (name_of y) (name_of z)) before) (list_any (λ z. same_name (name_of y) (name_of z)) (x ∷ later)) (sym (list_any-append (λ z. same_name (name_of y) (name_of z)) before (x ∷ later)) ∙ parts.0) in
    let here = or_parts (same_name (name_of y) (name_of x)) (list_any (λ z. same_name (name_of y) (name_of z)) later) split.1 in
    or_from (same_name (name_of y) (name_of x)) (list_any (λ z. same_name (name_of z) (name_of x)) before) here.0 (apart_before name_of before later x parts.1)

declaration_clean : (flaw : Flaw) (names : List Name) (name : Name) → is_among names name ≡ false → declaration_has flaw names name ≡ false
declaration_clean Duplicate names name h = h
declaration_clean Arity names name h = refl
declaration_clean SortMismatch names name h = refl
declaration_clean UnknownName names name h = refl
declaration_clean WildAdd names name h = refl
declaration_clean FreeVariable names name h = refl

-- its declaration has no flaw, where the names of the parts before it are said
pub name_new : {X L : Type 0} (flaw : Flaw) (name_of : L → Name) (said : X → L) (all before later : List X) (x : X) → all ≡ before ++ x ∷ later → has_repeat (λ y. name_of (said y)) all ≡ false → declaration_has flaw (map name_of (map said before)) (name_of (said x)) ≡ false
name_new flaw name_of said all before later x e h =
    let apart = apart_before (λ y. name_of (said y)) before later x (subst (λ xs. has_repeat (λ y. name_of (said y)) xs ≡ false) e h) in
    declaration_clean flaw (map name_of (map said before)) (name_of (said x))
    (any-map (λ other. same_name other (name_of (said x))) name_of (map said before) ∙ any-map (λ l. same_name (name_of l) (name_of (said x))) said before ∙ apart)

pub sort_new : (flaw : Flaw) (all before later : List Name) (x : Name) → all ≡ before ++ x ∷ later → has_repeat (λ name. name) all ≡ false → declaration_has flaw before x ≡ false
sort_new flaw all before later x e h = declaration_clean flaw before x (apart_before (λ name. name) before later x (subst (λ xs. has_repeat (λ name. name) xs ≡ false) e h))

pub sort_known : (flaw : Flaw) (d : Declared) (k : ℕ) (own : Name) → k < length d.sorts → sort_has flaw d (slice_index_or d.sorts k own) ≡ false
sort_known UnknownName d k own l = ap not (among_at d.sorts k (slice_index_or d.sorts k own) (found_at d.sorts k own l))
sort_known Arity d k own l = refl
sort_known SortMismatch d k own l = refl
sort_known Duplicate d k own l = refl
sort_known WildAdd d k own l = refl
sort_known FreeVariable d k own l = refl

-- truth values that follow from each other are the same
follow : (p q : Bool) → (p ≡ true → q ≡ true) → (q ≡ true → p ≡ true) → p ≡ q
follow true true f g = refl
follow true false f g = absurd (false≢true (f refl))
follow false true f g = absurd (false≢true (g refl))
follow false false f g = refl

pub sort_named : (sorts : List Name) → has_repeat (λ name. name) sorts ≡ false → (a b : ℕ) (own other : Name) → a < length sorts → b < length sorts → same_name (slice_index_or sorts a own) (slice_index_or sorts b other) ≡ (b == a)
sort_named sorts apart a b own other l m = follow (same_name one another) (b == a)
    (λ same. eq-eqb b a (sym (number_back sorts apart b m other) ∙ sym (number_same sorts one another same) ∙ number_back sorts apart a l own))
    (λ same. subst (λ x. same_name one x ≡ true) (one_is same) (same_name-refl one))
  where
    one : Name
    one = slice_index_or sorts a own

    another : Name
    another = slice_index_or sorts b other

    one_is : (b == a) ≡ true → one ≡ another
    one_is same =
        let places : b ≡ a = eqb-true b a same in
        same_Some one another (sym (found_at sorts a own l) ∙ ap (slice_get sorts) (sym places) ∙ found_at sorts b other m)

use_known : (flaw : Flaw) (n : ℕ) → use_has flaw (Some n) n ≡ false
use_known Arity n = ap not (eq-eqb n n refl)
use_known SortMismatch n = refl
use_known UnknownName n = refl
use_known Duplicate n = refl
use_known WildAdd n = refl
use_known FreeVariable n = refl

pub use_clean : (flaw : Flaw) (taken : Option ℕ) (n given : ℕ) → taken ≡ Some n → given ≡ n → use_has flaw taken given ≡ false
use_clean flaw taken n given e g = ap (λ t. use_has flaw t given) e ∙ ap (use_has flaw (Some n)) g ∙ use_known flaw n

pub list_clean : (flaw : Flaw) (names : List Name) → has_repeat (λ name. name) names ≡ false → list_has flaw names ≡ false
list_clean Duplicate names h = h
list_clean Arity names h = refl
list_clean SortMismatch names h = refl
list_clean UnknownName names h = refl
list_clean WildAdd names h = refl
list_clean FreeVariable names h = refl

pub counted_clean : (flaw : Flaw) (names : List Name) (counted : Name) → is_among names counted ≡ true → counted_has flaw names counted ≡ false
counted_clean FreeVariable names counted h = ap not h
counted_clean Arity names counted h = refl
counted_clean SortMismatch names counted h = refl
counted_clean UnknownName names counted h = refl
counted_clean Duplicate names counted h = refl
counted_clean WildAdd names counted h = refl

-- the names of variables that are said
said_apart : (sorts : List Name) (vars : List Var) → has_repeat (λ v. v.name) vars ≡ false → has_repeat (λ v. v.name) (map (typed_form sorts) vars) ≡ false
said_apart sorts vars h = repeat-map (λ v. v.name) (typed_form sorts) vars ∙ h

pub variables_clean : (flaw : Flaw) (d : Declared) (vars : List Var) → ((k : ℕ) (v : Var) → slice_get vars k ≡ Some v → v.sort < length d.sorts) → has_repeat (λ v. v.name) vars ≡ false → variables_have flaw d (map (typed_form d.sorts) vars) ≡ false
variables_clean flaw d vars below apart =
    let sorts : list_any (λ v. sort_has flaw d v.sort) (map (typed_form d.sorts) vars) ≡ false =
    any-map (λ v. sort_has flaw d v.sort) (typed_form d.sorts) vars ∙ none_of (λ v. sort_has flaw d (slice_index_or d.sorts v.sort v.name)) vars (λ k v e. sort_known flaw d v.sort v.name (below k v e)) in
    or_from (list_any (λ v. sort_has flaw d v.sort) (map (typed_form d.sorts) vars)) (list_has flaw (map (λ v. v.name) (map (typed_form d.sorts) vars))) sorts
    (list_clean flaw (map (λ v. v.name) (map (typed_form d.sorts) vars)) (repeat-map (λ name. name) (λ v. v.name) (map (typed_form d.sorts) vars) ∙ said_apart d.sorts vars apart))

-- the variables of a scope have the names, and the sorts of these numbers
pub record Knows (sorts : List Name) (scope : List Typed) (names : List Name) (nums : List ℕ) : Type 0 where
  pub declared : (v sort : ℕ) → slice_get nums v ≡ Some sort → sort < length sorts
  pub each : (own : Name) (v sort : ℕ) (sort_name : Name) → slice_get nums v ≡ Some sort → slice_get sorts sort ≡ Some sort_name → sort_of_variable scope (slice_index_or names v own) ≡ Some sort_name

-- a variable that stands in a scope, with its sort
stands : (scope : List Typed) → has_repeat (λ v. v.name) scope ≡ false → (v : ℕ) (name sort : Name) → slice_get scope v ≡ Some (record { name = name; sort = sort }) → sort_of_variable scope name ≡ Some sort
stands scope apart v name sort e = ap (option_map (λ x. x.sort)) (find_back (λ x. x.name) scope apart v (record { name = name; sort = sort }) e)

pub knows_vars : (sorts : List Name) (vars : List Var) → ((k sort : ℕ) → slice_get (sorts_of_vars vars) k ≡ Some sort → sort < length sorts) → has_repeat (λ v. v.name) vars ≡ false → Knows sorts (map (typed_form sorts) vars) (names_of vars) (sorts_of_vars vars)
knows_vars sorts vars below apart = record {
  declared = below;
  each = λ own v sort sort_name e is.
      let at = map_at (λ x. x.sort) vars v sort e in
      let x = at.0 in
      let name : slice_index_or (names_of vars) v own ≡ x.name = get_or_from_slice_get (names_of vars) v x.name own (slice_get-mapped (λ y. y.name) vars v x at.1) in
      let here : slice_index_or sorts x.sort x.name ≡ sort_name = get_or_from_slice_get sorts x.sort sort_name x.name (subst (λ n. slice_get sorts n ≡ Some sort_name) (sym at.2) is) in
      ap (sort_of_variable (map (typed_form sorts) vars)) name
      ∙ stands (map (typed_form sorts) vars) (said_apart sorts vars apart) v x.name (slice_index_or sorts x.sort x.name) (slice_get-mapped (typed_form sorts) vars v x at.1)
      ∙ ap (λ n. Some n) here;
}

typed_at : (vars places : List Name) (k : ℕ) (name sort : Name) → slice_get vars k ≡ Some name → slice_get places k ≡ Some sort → slice_get (typed_by_places vars places) k ≡ Some (record { name = name; sort = sort })
typed_at [] places k name sort e f = cc
typed_at (v ∷ vars) [] k name sort e f = cc
typed_at (v ∷ vars) (p ∷ places) zero name sort e f = λ i. Some (record { name = same_Some v name e i; sort = same_Some p sort f i })
typed_at (v ∷ vars) (p ∷ places) (suc k) name sort e f = typed_at vars places k name sort e f

-- names in places, where the places have the names of the sorts of their numbers
pub knows_places : (sorts vars places : List Name) (nums : List ℕ) → length vars ≡ length nums → length places ≡ length nums → has_repeat (λ name. name) vars ≡ false → ((k sort : ℕ) → slice_get nums k ≡ Some sort → sort < length sorts) →
    ((k sort : ℕ) (sort_name : Name) → slice_get nums k ≡ Some sort → slice_get sorts sort ≡ Some sort_name → slice_get places k ≡ Some sort_name) → Knows sorts (typed_by_places vars places) vars nums
knows_places sorts vars places nums as_many as_long apart below at = record {
  declared = below;
  each = λ own v sort sort_name e is.
      let names = typed_names vars places (omega (arith, as_many, as_long)) in
      let apart_typed : has_repeat (λ x. x.name) (typed_by_places vars places) ≡ false = sym (repeat-map (λ name. name) (λ x. x.name) (typed_by_places vars places)) ∙ ap (has_repeat (λ name. name)) names ∙ apart in
      let within : v < length vars = omega (arith, as_many, slice_get_within nums v sort e) in
      stands (typed_by_places vars places) apart_typed v (slice_index_or vars v own) sort_name (typed_at vars places v (slice_index_or vars v own) sort_name (found_at vars v own within) (at v sort sort_name e is));
}

-- what stands in front keeps its sort, and what stands behind has its own where nothing in front has its name
sort_front : (scope more : List Typed) (name sort : Name) → sort_of_variable scope name ≡ Some sort → sort_of_variable (scope ++ more) name ≡ Some sort
sort_front scope more name sort e = step (find (λ x. same_name x.name name) scope) refl e
  where
    step : (found : Option Typed) → find (λ x. same_name x.name name) scope ≡ found → option_map (λ x. x.sort) found ≡ Some sort →
        sort_of_variable (scope ++ more) name ≡ Some sort
    step None is h = cc
    step (Some x) is h = ap (option_map (λ y. y.sort)) (found_first (λ y. same_name y.name name) scope more x is) ∙ h

sort_behind : (scope more : List Typed) (name : Name) → is_among (map (λ v. v.name) scope) name ≡ false → sort_of_variable (scope ++ more) name ≡ sort_of_variable more name
sort_behind [] more name h = refl
sort_behind (v ∷ scope) more name h =
    let parts = or_parts (same_name v.name name) (is_among (map (λ x. x.name) scope) name) h in
    ap (λ b. option_map (λ x. x.sort) (cond b (Some v) (find (λ x. same_name x.name name) (scope ++ more)))) parts.0 ∙ sort_behind scope more name parts.1

pub knows_more : (sorts : List Name) (scope more : List Typed) (names : List Name) (nums : List ℕ) → Knows sorts scope names nums → Knows sorts (scope ++ more) names nums
knows_more sorts scope more names nums h = record {
  declared = h.declared;
  each = λ own v sort sort_name e is. sort_front scope more (slice_index_or names v own) sort_name (h.each own v sort sort_name e is);
}

-- a scope gives each constant that no variable hides its sort
pub record KnowsConstants (s : Specification) (scope : List Typed) (names : List Name) : Type 0 where
  pub each : (own : Name) (k sort : ℕ) (sort_name : Name) → IsSaidByName s names k → sort_of_constant s k ≡ Some sort → slice_get s.sorts sort ≡ Some sort_name → sort_of_variable scope (constant_name s own k) ≡ Some sort_name

-- the constant that has a sort
pub constant_there : (found : Option Constant) (sort : ℕ) → option_map (λ c. c.sort) found ≡ Some sort → (c : Constant) × (found ≡ Some c) × (c.sort ≡ sort)
constant_there None sort e = cc
constant_there (Some c) sort e = (c, refl, same_Some c.sort sort e)

pub knows_constants : (s : Specification) → has_repeat (λ c. c.name) s.constants ≡ false → (vars : List Typed) (names : List Name) → map (λ v. v.name) vars ≡ names →
    KnowsConstants s (vars ++ map (constant_line s.sorts) s.constants) names
knows_constants s apart vars names same = record {
  each = λ own k sort sort_name said e is.
      let at = constant_there (slice_get s.constants k) sort e in
      let c = at.0 in
      let lines = map (constant_line s.sorts) s.constants in
      let name : constant_name s own k ≡ c.name = ap (λ found. option_map_or (λ x. x.name) found own) at.1 in
      let hidden : is_among (map (λ v. v.name) vars) c.name ≡ false = ap (λ all. is_among all c.name) same ∙ said.each c at.1 in
      let here : slice_index_or s.sorts c.sort c.name ≡ sort_name = get_or_from_slice_get s.sorts c.sort sort_name c.name (subst (λ n. slice_get s.sorts n ≡ Some sort_name) (sym at.2) is) in
      ap (sort_of_variable (vars ++ lines)) name
      ∙ sort_behind vars lines c.name hidden
      ∙ stands lines (repeat-map (λ x. x.name) (constant_line s.sorts) s.constants ∙ apart) k c.name (slice_index_or s.sorts c.sort c.name) (slice_get-mapped (constant_line s.sorts) s.constants k c at.1)
      ∙ ap (λ n. Some n) here;
}

-- a variable of a known sort, in a place of that sort
pub place_clean : (flaw : Flaw) (scope : List Typed) (name sort : Name) → sort_of_variable scope name ≡ Some sort → place_has flaw scope (name, sort) ≡ false
place_clean SortMismatch scope name sort e = ap (λ own. option_map_or (λ n. not (same_name n sort)) own false) e ∙ ap not (same_name-refl sort)
place_clean Arity scope name sort e = refl
place_clean UnknownName scope name sort e = refl
place_clean Duplicate scope name sort e = refl
place_clean WildAdd scope name sort e = refl
place_clean FreeVariable scope name sort e = refl

pub variable_clean : (flaw : Flaw) (scope : List Typed) (name sort : Name) → sort_of_variable scope name ≡ Some sort → variable_has flaw scope name ≡ false
variable_clean FreeVariable scope name sort e = ap (λ own. is_none own) e
variable_clean Arity scope name sort e = refl
variable_clean SortMismatch scope name sort e = refl
variable_clean UnknownName scope name sort e = refl
variable_clean Duplicate scope name sort e = refl
variable_clean WildAdd scope name sort e = refl

pub comparison_clean : (flaw : Flaw) (scope : List Typed) (one other sort : Name) → sort_of_variable scope one ≡ Some sort → sort_of_variable scope other ≡ Some sort → comparison_has flaw scope one other ≡ false
comparison_clean SortMismatch scope one other sort e f =
    ap (λ found. option_map_or (λ n. option_map_or (λ own. not (same_name own n)) (sort_of_variable scope other) false) found false) e ∙ place_clean SortMismatch scope other sort f
comparison_clean Arity scope one other sort e f = refl
comparison_clean UnknownName scope one other sort e f = refl
comparison_clean Duplicate scope one other sort e f = refl
comparison_clean WildAdd scope one other sort e f = refl
comparison_clean FreeVariable scope one other sort e f = or_from (variable_has FreeVariable scope one) (variable_has FreeVariable scope other) (variable_clean FreeVariable scope one sort e) (variable_clean FreeVariable scope other sort f)
