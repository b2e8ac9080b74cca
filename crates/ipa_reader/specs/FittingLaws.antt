-- That a setup fits its specification has one proof at most, so that documents are the same where their parts are.
--
--   IsFitting-prop   of a setup that fits its specification
use Rattle.std.specs.Prelude.{◌≡◌, ℕ, ◌<◌, ◌≤◌, List, length, slice_get, slice_index, slice_index_or, Option, Some, None}
use Rattle.std.proofs.Props.{props}
use Rattle.std.proofs.Common.{sym, ◌∙◌}
use Rattle.std.proofs.lemmas.Option.{same_Some}
use mathlib.Core.HLevel.{Σ_prop_path}
use Rattle.ipa_spec.specs.Actions.{IsAction, sorts_of}
use Rattle.ipa_spec.specs.Constants.{constant_count, element_of_constant}
use Rattle.ipa_spec.specs.declared.names.Name.{Name}
use Rattle.ipa_spec.specs.declared.constants.Constant.{Constant}
use Rattle.ipa_spec.specs.declared.operations.Action.TheVariants.{Op}
use Rattle.ipa_spec.specs.declared.predicates.Predicate.{Predicate}
use Rattle.ipa_spec.specs.declared.specification.Specification.{Specification}
use Rattle.ipa_logic.specs.Facts.{Universe, size_of, IsUniverse, IsFact, IsRising, IsState}
use Rattle.ipa_logic.specs.Truth.{value_at, IsOver}
use Rattle.ipa_logic.specs.Requests.{IsShow, IsDo, IsRequest}
use Rattle.ipa_logic.specs.declared.facts.Fact.{Fact}
use Rattle.ipa_logic.specs.declared.facts.Request.{Request}
use Rattle.ipa_logic.specs.declared.facts.Request.TheVariants.{Do, Show}
use Rattle.ipa_names.specs.Naming.{number_in}
use Rattle.ipa_reader.specs.Arrangements.{elements_at}
use Rattle.ipa_reader.specs.Fitting.{IsFitting}
use Rattle.ipa_reader.specs.declared.sessions.SessionWork.{SessionWork}

IsUniverse-prop : (s : Specification) (u : Universe) → IsProp (IsUniverse s u)
IsUniverse-prop s u x y =
    let constants : IsProp ((sort : ℕ) → constant_count s sort ≤ size_of u sort) = hlevel props in
    λ i. record { constants = constants x.constants y.constants i }

-- what is said of a fact's predicate
abbrev OfPredicate : Specification → Universe → Fact → Predicate → Type 0
OfPredicate s u f p =
    (slice_get s.predicates f.predicate ≡ Some p)
    × ((k : ℕ) → k < p.arity → slice_index f.args k < size_of u (slice_index p.sorts k))
    × ((k : ℕ) → p.arity ≤ k → slice_index f.args k ≡ 0)
    × (length f.args ≡ 3)

OfPredicate-prop : (s : Specification) (u : Universe) (f : Fact) (p : Predicate) → IsProp (OfPredicate s u f p)
OfPredicate-prop s u f p = hlevel props

IsFact-prop : (s : Specification) (u : Universe) (f : Fact) → IsProp (IsFact s u f)
IsFact-prop s u f x y =
    let same : x.predicate ≡ y.predicate = same_Some x.predicate y.predicate (sym x.declared ∙ y.declared) in
    let pairs : ◌≡◌ {A = (p : Predicate) × OfPredicate s u f p} (x.predicate, (x.declared, x.elements, x.unused, x.width)) (y.predicate, (y.declared, y.elements, y.unused, y.width)) =
    Σ_prop_path (OfPredicate-prop s u f) same in
    λ i. record { predicate = (pairs i).0; declared = (pairs i).1.0; elements = (pairs i).1.1; unused = (pairs i).1.2; width = (pairs i).1.3 }

IsState-prop : (s : Specification) (u : Universe) (state : List Fact) → IsProp (IsState s u state)
IsState-prop s u state x y =
    let rising : IsProp (IsRising state) = hlevel props in
    λ i. record { rising = rising x.rising y.rising i; facts = λ f there. IsFact-prop s u f (x.facts f there) (y.facts f there) i }

IsOver-prop : (u : Universe) (sorts values : List ℕ) → IsProp (IsOver u sorts values)
IsOver-prop u sorts values x y =
    let elements : IsProp ((v sort : ℕ) → slice_get sorts v ≡ Some sort → value_at values v < size_of u sort) = hlevel props in
    let unused : IsProp ((v : ℕ) → length sorts ≤ v → value_at values v ≡ 0) = hlevel props in
    let width : IsProp (length values ≡ 4) = hlevel props in
    λ i. record { elements = elements x.elements y.elements i; unused = unused x.unused y.unused i; width = width x.width y.width i }

-- what is said of a shown predicate
abbrev OfShown : Specification → Universe → ℕ → List (Option ℕ) → Predicate → Type 0
OfShown s u n places p =
    (slice_get s.predicates n ≡ Some p)
    × ((k x : ℕ) → k < p.arity → slice_index_or places k None ≡ Some x → x < size_of u (slice_index p.sorts k))
    × ((k : ℕ) → p.arity ≤ k → slice_index_or places k None ≡ None)

OfShown-prop : (s : Specification) (u : Universe) (n : ℕ) (places : List (Option ℕ)) (p : Predicate) → IsProp (OfShown s u n places p)
OfShown-prop s u n places p = hlevel props

IsShow-prop : (s : Specification) (u : Universe) (n : ℕ) (places : List (Option ℕ)) → IsProp (IsShow s u n places)
IsShow-prop s u n places x y =
    let same : x.predicate ≡ y.predicate = same_Some x.predicate y.predicate (sym x.declared ∙ y.declared) in
    let pairs : ◌≡◌ {A = (p : Predicate) × OfShown s u n places p} (x.predicate, (x.declared, x.elements, x.unused)) (y.predicate, (y.declared, y.elements, y.unused)) =
    Σ_prop_path (OfShown-prop s u n places) same in
    λ i. record { predicate = (pairs i).0; declared = (pairs i).1.0; elements = (pairs i).1.1; unused = (pairs i).1.2 }

IsDo-prop : (s : Specification) (u : Universe) (op : ℕ) (args : List ℕ) → IsProp (IsDo s u op args)
IsDo-prop s u op args x y =
    let declared : IsProp (IsAction s (Op op)) = hlevel props in
    λ i. record { declared = declared x.declared y.declared i; arguments = IsOver-prop u (sorts_of s (Op op)) args x.arguments y.arguments i }

IsRequest-prop : (s : Specification) (u : Universe) (r : Request) → IsProp (IsRequest s u r)
IsRequest-prop s u (Do op args) = IsDo-prop s u op args
IsRequest-prop s u (Show n places) = IsShow-prop s u n places

pub IsFitting-prop : (s : Specification) (sizes : Universe) (elements : List (List Name)) (base : List Fact)
    (sessions : List SessionWork) → IsProp (IsFitting s sizes elements base sessions)
IsFitting-prop s sizes elements base sessions x y =
    let constants : IsProp ((k : ℕ) (c : Constant) → slice_get s.constants k ≡ Some c →
    number_in (elements_at elements c.sort) c.name ≡ Some (element_of_constant s k)) = hlevel props in
    λ i. record {
      universe = IsUniverse-prop s sizes x.universe y.universe i;
      constants = constants x.constants y.constants i;
      state = IsState-prop s sizes base x.state y.state i;
      requests = λ n k work asked at here. IsRequest-prop s sizes asked (x.requests n k work asked at here) (y.requests n k work asked at here) i;
    }
