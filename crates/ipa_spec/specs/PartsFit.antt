-- A part without a fault fits.
--
--   some_place-false                       no place has what none of the three has
--   atom_fits, literal_fits, effect_fits   of the parts of clauses and actions
--   drop_effect_fits                       of the remove of a dropped fact
use Rattle.std.proofs.Common.{◌≡◌, ◌==◌, ℕ, ◌<◌, ◌≤◌, Bool, true, false, not, ◌&&◌, cond, ltb, leb, List, [], ◌∷◌, length, take, Option, Some, None, refl, sym, ap, ◌∙◌, subst, arith, get_or, zero, suc, inl, inr}
use Rattle.std.specs.List.{slice_get, slice_index}
use Rattle.std.specs.Option.{option_map_or, is_none}
use Rattle.std.proofs.lemmas.Bool.{or_parts, and_cases, lt-ltb, le-ltb, leb-false, eqb-true, not-false, cond-true, cond-false, true≢false}
use Rattle.std.proofs.lemmas.Option.{get_or_from_slice_get}
use Rattle.ipa_spec.specs.Actions.{arity_of, place_sorts, drop_effect, drop_arg}
use Rattle.ipa_spec.specs.Faults.{some_place, predicate_has, literal_has, effect_has, atom_has, comparison_has, term_has, term_at, term_free, term_unknown, is_first_variable, arg_has, unused_has, is_any, atom_place_has, effect_place_has, undeclared_has}
use Rattle.ipa_spec.specs.Constants.{sort_of_constant, sort_of_term}
use Rattle.ipa_spec.specs.Fits.{AtomFits, ComparisonFits, LiteralFits, EffectFits}
use Rattle.ipa_spec.specs.declared.faults.FaultKind.{FaultKind}
use Rattle.ipa_spec.specs.declared.faults.FaultKind.TheVariants as kind
use Rattle.ipa_spec.specs.FoundLaws.{declared, said_of, at_take}
use Rattle.ipa_spec.specs.declared.specification.Specification.{Specification}
use Rattle.ipa_spec.specs.declared.constants.Term.{Term}
use Rattle.ipa_spec.specs.declared.constants.Term.TheVariants.{Var as Variable, Const as Fixed}
use Rattle.ipa_spec.specs.declared.predicates.Predicate.{Predicate}
use Rattle.ipa_spec.specs.declared.clauses.Atom.{Atom}
use Rattle.ipa_spec.specs.declared.clauses.Literal.{Literal}
use Rattle.ipa_spec.specs.declared.clauses.Literal.TheVariants.{Holds, Fails, Same, Differ}
use Rattle.ipa_spec.specs.declared.operations.Arg.{Arg}
use Rattle.ipa_spec.specs.declared.operations.Arg.TheVariants.{Var as Parameter, Const as FixedArg, Any}
use Rattle.ipa_spec.specs.declared.operations.Effect.{Effect}
use Rattle.ipa_spec.specs.declared.bounds.Bound.{Bound}

-- a place of an atom, an effect or a fact
pub some_place-false : (p : ℕ → Bool) → some_place p ≡ false → (k : ℕ) → k < 3 → p k ≡ false
some_place-false p h zero l = (or_parts _ _ (or_parts _ _ h).0).0
some_place-false p h (suc zero) l = (or_parts _ _ (or_parts _ _ h).0).1
some_place-false p h (suc (suc zero)) l = (or_parts _ _ h).1
some_place-false p h (suc (suc (suc k))) l = absurd (omega arith)

-- a used place
cond-false_then : (b x y : Bool) → b ≡ true → cond b x y ≡ false → x ≡ false
cond-false_then true x y e h = h
cond-false_then false x y e h = cc

-- an unused place
cond-false_else : (b x y : Bool) → b ≡ false → cond b x y ≡ false → y ≡ false
cond-false_else true x y e h = cc
cond-false_else false x y e h = h

-- what a variable number names, where it is declared with the wanted sort
variable_named : (found : Option ℕ) (wanted : ℕ) →
    option_map_or (λ sort. not (sort == wanted)) found false ≡ false → is_none found ≡ false →
    found ≡ Some wanted
variable_named None wanted h free = cc
variable_named (Some sort) wanted h free = ap (λ n. Some n) (eqb-true sort wanted (not-false _ h))

-- the predicates have at most three places
abbrev pub AritiesFit : List Predicate → Type 0
AritiesFit ps = (n : ℕ) (p : Predicate) → slice_get ps n ≡ Some p → p.arity ≤ 3

-- a term without a fault has the wanted sort
term_named : (s : Specification) (sorts : List ℕ) (wanted : ℕ) (t : Term) →
    ((k : FaultKind) → term_has k s sorts wanted t ≡ false) → sort_of_term s sorts t ≡ Some wanted
term_named s sorts wanted (Variable v) h =
    variable_named (slice_get sorts v) wanted (h kind.SortMismatch) (h kind.FreeVariable)
term_named s sorts wanted (Fixed k) h =
    variable_named (sort_of_constant s k) wanted (h kind.SortMismatch) (h kind.UnknownName)

-- a used place of an atom has a term without a fault
used_place-atom : (k : FaultKind) (s : Specification) (sorts : List ℕ) (p : Predicate) (a : Atom) →
    p.arity ≤ 3 → some_place (atom_place_has k s sorts p a) ≡ false → (place : ℕ) → place < p.arity →
    term_has k s sorts (slice_index p.sorts place) (term_at a place) ≡ false
used_place-atom k s sorts p a short h place l =
    cond-false_then _ (term_has k s sorts (slice_index p.sorts place) (term_at a place))
    (unused_has k (is_first_variable (term_at a place))) (lt-ltb place p.arity l)
    (some_place-false (atom_place_has k s sorts p a) h place (omega arith))

-- an atom without a fault fits
pub atom_fits : (s : Specification) (sorts : List ℕ) (a : Atom) → AritiesFit s.predicates →
    ((k : FaultKind) → atom_has k s sorts a ≡ false) → AtomFits s sorts a
atom_fits s sorts a short h =
    let found =
    declared (λ p. some_place (atom_place_has kind.UnknownName s sorts p a))
    (slice_get s.predicates a.predicate) (h kind.UnknownName) in
    let p = found.0 in
    let places =
    λ (k : FaultKind). said_of (λ p. some_place (atom_place_has k s sorts p a))
    (undeclared_has k) (slice_get s.predicates a.predicate) p found.1 (h k) in
    record {
      predicate = p;
      declared = found.1;
      short = short _ p found.1;
      places = λ place l.
          term_named s sorts (slice_index p.sorts place) (term_at a place)
          (λ k. used_place-atom k s sorts p a (short _ p found.1) (places k) place l);
    }

-- a term that is declared has a sort
term_declared : (s : Specification) (sorts : List ℕ) (t : Term) → term_free sorts t ≡ false →
    term_unknown s t ≡ false → is_none (sort_of_term s sorts t) ≡ false
term_declared s sorts (Variable v) free unknown = free
term_declared s sorts (Fixed k) free unknown = unknown

-- two compared terms without a fault have one sort
comparison_fits_at : (s : Specification) (sorts : List ℕ) (v w : Term) (one two : Option ℕ) →
    sort_of_term s sorts v ≡ one → sort_of_term s sorts w ≡ two →
    option_map_or (λ x. option_map_or (λ y. not (x == y)) two false) one false ≡ false →
    is_none one ≡ false → is_none two ≡ false → ComparisonFits s sorts v w
comparison_fits_at s sorts v w None two e f same first second = cc
comparison_fits_at s sorts v w (Some x) None e f same first second = cc
comparison_fits_at s sorts v w (Some x) (Some y) e f same first second =
    record {
      sort = x;
      first = e;
      second = f ∙ ap (λ n. Some n) (sym (eqb-true x y (not-false _ same)));
    }

comparison_fits : (s : Specification) (sorts : List ℕ) (v w : Term) →
    ((k : FaultKind) → comparison_has k s sorts v w ≡ false) → ComparisonFits s sorts v w
comparison_fits s sorts v w h =
    let free = or_parts (term_free sorts v) (term_free sorts w) (h kind.FreeVariable) in
    let unknown = or_parts (term_unknown s v) (term_unknown s w) (h kind.UnknownName) in
    comparison_fits_at s sorts v w (sort_of_term s sorts v) (sort_of_term s sorts w) refl refl
    (h kind.SortMismatch) (term_declared s sorts v free.0 unknown.0)
    (term_declared s sorts w free.1 unknown.1)

-- a literal without a fault fits
pub literal_fits : (s : Specification) (sorts : List ℕ) (l : Literal) → AritiesFit s.predicates →
    ((k : FaultKind) → literal_has k s sorts l ≡ false) → LiteralFits s sorts l
literal_fits s sorts (Holds a) short h = atom_fits s sorts a short h
literal_fits s sorts (Fails a) short h = atom_fits s sorts a short h
literal_fits s sorts (Same v w) short h = comparison_fits s sorts v w h
literal_fits s sorts (Differ v w) short h = comparison_fits s sorts v w h

-- a used place of an effect has an argument without a fault
used_place-effect : (k : FaultKind) (s : Specification) (sorts : List ℕ) (p : Predicate) (e : Effect) →
    p.arity ≤ 3 → some_place (effect_place_has k s sorts p e) ≡ false → (place : ℕ) → place < p.arity →
    arg_has k s sorts e.add (slice_index p.sorts place) (get_or e.args place Any) ≡ false
used_place-effect k s sorts p e short h place l =
    cond-false_then _ (arg_has k s sorts e.add (slice_index p.sorts place) (get_or e.args place Any))
    (unused_has k (is_any (get_or e.args place Any))) (lt-ltb place p.arity l)
    (some_place-false (effect_place_has k s sorts p e) h place (omega arith))

-- an unused place of an effect holds nothing
unused_place-effect : (s : Specification) (sorts : List ℕ) (p : Predicate) (e : Effect) →
    some_place (effect_place_has kind.Arity s sorts p e) ≡ false → (place : ℕ) → p.arity ≤ place →
    place < 3 → is_any (get_or e.args place Any) ≡ true
unused_place-effect s sorts p e h place l within =
    not-false _
    (cond-false_else _
    (arg_has kind.Arity s sorts e.add (slice_index p.sorts place) (get_or e.args place Any))
    (not (is_any (get_or e.args place Any))) (le-ltb place p.arity l)
    (some_place-false (effect_place_has kind.Arity s sorts p e) h place within))

is_any-true : (a : Arg) → is_any a ≡ true → a ≡ Any
is_any-true (Parameter v) h = cc
is_any-true (FixedArg c) h = cc
is_any-true Any h = refl

-- an effect without a fault fits
pub effect_fits : (s : Specification) (sorts : List ℕ) (e : Effect) → AritiesFit s.predicates →
    ((k : FaultKind) → effect_has k s sorts e ≡ false) → EffectFits s sorts e
effect_fits s sorts e short h =
    let found =
    declared (λ p. some_place (effect_place_has kind.UnknownName s sorts p e))
    (slice_get s.predicates e.predicate) (h kind.UnknownName) in
    let p = found.0 in
    let places =
    λ (k : FaultKind). said_of (λ p. some_place (effect_place_has k s sorts p e))
    (undeclared_has k) (slice_get s.predicates e.predicate) p found.1 (h k) in
    let used =
    λ (k : FaultKind) (place : ℕ) (l : place < p.arity) (arg : Arg) (is : get_or e.args place Any ≡ arg).
    subst (λ a. arg_has k s sorts e.add (slice_index p.sorts place) a ≡ false) is
    (used_place-effect k s sorts p e (short _ p found.1) (places k) place l) in
    record {
      predicate = p;
      declared = found.1;
      short = short _ p found.1;
      places = λ place v l is.
          variable_named _ _ (used kind.SortMismatch place l (Parameter v) is)
          (used kind.FreeVariable place l (Parameter v) is);
      fixed = λ place c l is.
          variable_named _ _ (used kind.SortMismatch place l (FixedArg c) is)
          (used kind.UnknownName place l (FixedArg c) is);
      unused =
          λ place l within. is_any-true _
          (unused_place-effect s sorts p e (places kind.Arity) place l within);
      exact = λ adds place l is.
          let wild : e.add ≡ false = used kind.WildAdd place l Any is in
          cc;
    }

-- a declared sort
sort_declared : (sorts : ℕ) (found : Option ℕ) →
    option_map_or (λ sort. leb sorts sort) found true ≡ false →
    (sort : ℕ) × (found ≡ Some sort) × (sort < sorts)
sort_declared sorts None h = cc
sort_declared sorts (Some sort) h = (sort, refl, leb-false sorts sort h)

-- the sort of a used place of a predicate is declared
pub place_sort_declared : (s : Specification) (p : Predicate) → p.arity ≤ 3 →
    ((k : FaultKind) → predicate_has k s p ≡ false) → (place : ℕ) → place < p.arity →
    (sort : ℕ) × (slice_get p.sorts place ≡ Some sort) × (sort < length s.sorts)
place_sort_declared s p short h place l =
    let test : Bool =
    option_map_or (λ sort. leb (length s.sorts) sort) (slice_get p.sorts place) true in
    let at : (ltb place p.arity && test) ≡ false =
    some_place-false
    (λ k. ltb k p.arity && option_map_or (λ sort. leb (length s.sorts) sort)
    (slice_get p.sorts k) true) (h kind.UnknownName) place (omega arith) in
    sort_declared (length s.sorts) (slice_get p.sorts place)
    (elim (and_cases _ _ at) [
      | inl unused ↦ absurd (true≢false (sym (lt-ltb place p.arity l) ∙ unused))
      | inr known ↦
          known
    ])

-- the argument of a drop in a place of its fact
drop_args_at : (arity place : ℕ) → place < 3 →
    get_or (drop_arg arity 0 ∷ drop_arg arity 1 ∷ drop_arg arity 2 ∷ []) place Any ≡ drop_arg arity
    place
drop_args_at arity zero l = refl
drop_args_at arity (suc zero) l = refl
drop_args_at arity (suc (suc zero)) l = refl
drop_args_at arity (suc (suc (suc place))) l = absurd (omega arith)

drop_arg-used : (arity place : ℕ) → place < arity → drop_arg arity place ≡ Parameter place
drop_arg-used arity place l = cond-true _ _ _ (lt-ltb place arity l)

drop_arg-unused : (arity place : ℕ) → arity ≤ place → drop_arg arity place ≡ Any
drop_arg-unused arity place l = cond-false _ _ _ (le-ltb place arity l)

-- the remove of a dropped fact fits
pub drop_effect_fits : (s : Specification) (b : Bound) (p : Predicate) →
    slice_get s.predicates b.predicate ≡ Some p → p.arity ≤ 3 →
    ((k : FaultKind) → predicate_has k s p ≡ false) →
    EffectFits s (place_sorts s.predicates b.predicate) (drop_effect s.predicates b)
drop_effect_fits s b p e short h =
    let n : ℕ = arity_of s.predicates b.predicate in
    let arity : n ≡ p.arity = ap (λ o. option_map_or (λ p. p.arity) o 0) e in
    let sorts : place_sorts s.predicates b.predicate ≡ take p.arity p.sorts =
    ap (λ o. option_map_or (λ p. take p.arity p.sorts) o []) e in
    record {
      predicate = p;
      declared = e;
      short = short;
      places = λ place v l is.
          let used : drop_arg n place ≡ Parameter place = drop_arg-used n place (omega arith) in
          let at = drop_args_at n place (omega arith) in
          let same : place ≡ v = cc in
          let known = place_sort_declared s p short h place l in
          let sort : get_or p.sorts place 0 ≡ known.0 =
          get_or_from_slice_get p.sorts place known.0 0 known.1 in
          let listed : slice_get (take p.arity p.sorts) place ≡ Some known.0 =
          at_take p.arity p.sorts place known.0 l known.1 in
          let listed_v : slice_get (take p.arity p.sorts) v ≡ Some known.0 =
          subst (λ k. slice_get (take p.arity p.sorts) k ≡ Some known.0) same listed in
          ap (λ xs. slice_get xs v) sorts ∙ (listed_v ∙ ap (λ k. Some k) (sym sort));
      fixed = λ place c l is.
          let used : drop_arg n place ≡ Parameter place = drop_arg-used n place (omega arith) in
          let at = drop_args_at n place (omega arith) in
          cc;
      unused =
          λ place l within. drop_args_at n place within ∙ drop_arg-unused n place (omega arith);
      exact = λ adds place l is. cc;
    }
