-- Facts of atoms and of effects lie in the universe of their values.
--
--   list_any-same, list_all-same   tests that agree on each item of a list find the same
--   fact_of-args, fact_given-args  the elements of such a fact, place by place
--   element_of-less                a term that has a sort stands for an element of it
--   IsFact-fact_of                 the fact of a fitting atom is a fact over the universe of the values
--   IsWhole                        a fitting effect has an element in each place: adds, and the remove of a dropped fact
--   given_at-less                  a whole effect gives elements of the places' sorts
--   IsFact-fact_given              the fact that a whole effect gives is one over the universe of the arguments
use Rattle.std.proofs.Common.{◌≡◌, ℕ, zero, suc, ◌<◌, ◌≤◌, Bool, true, ◌&&◌, ◌||◌, nat_lt, cond, List, [], ◌∷◌, refl, sym, ◌∙◌, ap, subst, arith, Option, Some, slice_get}
use Rattle.std.specs.Prelude.{slice_index, unwrap_or}
use Rattle.std.specs.Option.{option_map_or}
use Rattle.std.specs.List.{list_any, list_all}
use Rattle.std.proofs.lemmas.Bool.{lt-ltb, le-ltb}
use Rattle.ipa_spec.specs.Actions.{arity_of, drop_arg, drop_effect}
use Rattle.ipa_spec.specs.Constants.{sort_of_constant, constant_count, element_of_constant, sort_of_term}
use Rattle.ipa_spec.specs.ConstantLaws.{element_of_constant-less}
use Rattle.ipa_spec.specs.Faults.{term_at}
use Rattle.ipa_spec.specs.Fits.{AtomFits, EffectFits}
use Rattle.ipa_spec.specs.declared.specification.Specification.{Specification}
use Rattle.ipa_spec.specs.declared.constants.Term.{Term}
use Rattle.ipa_spec.specs.declared.constants.Term.TheVariants.{Var as Variable, Const as Fixed}
use Rattle.ipa_spec.specs.declared.predicates.Predicate.{Predicate}
use Rattle.ipa_spec.specs.declared.clauses.Atom.{Atom}
use Rattle.ipa_spec.specs.declared.operations.Arg.{Arg}
use Rattle.ipa_spec.specs.declared.operations.Arg.TheVariants.{Var as Parameter, Const as FixedArg, Any}
use Rattle.ipa_spec.specs.declared.operations.Effect.{Effect}
use Rattle.ipa_spec.specs.declared.bounds.Bound.{Bound}
use Rattle.ipa_logic.specs.Facts.{Universe, size_of, IsUniverse, IsFact}
use Rattle.ipa_logic.specs.Truth.{element_of, element_at, fact_of, IsOver}
use Rattle.ipa_logic.specs.Touches.{arg_at, stands_for, given_at, fact_given}

-- tests that agree on each item find the same
pub list_any-same : {X : Type 0} (p q : X → Bool) (xs : List X) → ((k : ℕ) (x : X) → slice_get xs k ≡ Some x → p x ≡ q x) → list_any p xs ≡ list_any q xs
list_any-same p q [] h = refl
list_any-same p q (x ∷ xs) h = ap (λ (b : Bool). b || list_any p xs) (h 0 x refl) ∙ ap (λ (b : Bool). q x || b) (list_any-same p q xs (λ k y e. h (suc k) y e))

pub list_all-same : {X : Type 0} (p q : X → Bool) (xs : List X) → ((k : ℕ) (x : X) → slice_get xs k ≡ Some x → p x ≡ q x) → list_all p xs ≡ list_all q xs
list_all-same p q [] h = refl
list_all-same p q (x ∷ xs) h = ap (λ (b : Bool). b && list_all p xs) (h 0 x refl) ∙ ap (λ (b : Bool). q x && b) (list_all-same p q xs (λ k y e. h (suc k) y e))

-- the element in a place, within and past the arity
pub element_at-within : (s : Specification) (values : List ℕ) (a : Atom) (p : Predicate) (k : ℕ) → slice_get s.predicates a.predicate ≡ Some p → k < p.arity → element_at s values a k ≡ element_of s values (term_at a k)
element_at-within s values a p k g h =
    ap (λ (o : Option Predicate). cond (nat_lt k (option_map_or (λ q. q.arity) o 0)) (element_of s values (term_at a k)) 0) g
    ∙ ap (λ (b : Bool). cond b (element_of s values (term_at a k)) 0) (lt-ltb k p.arity h)

pub element_at-past : (s : Specification) (values : List ℕ) (a : Atom) (p : Predicate) (k : ℕ) → slice_get s.predicates a.predicate ≡ Some p → p.arity ≤ k → element_at s values a k ≡ 0
element_at-past s values a p k g h =
    ap (λ (o : Option Predicate). cond (nat_lt k (option_map_or (λ q. q.arity) o 0)) (element_of s values (term_at a k)) 0) g
    ∙ ap (λ (b : Bool). cond b (element_of s values (term_at a k)) 0) (le-ltb k p.arity h)

-- three numbers, by place
pub three-at : (f : ℕ → ℕ) (k : ℕ) → k < 3 → slice_index (f 0 ∷ f 1 ∷ f 2 ∷ []) k ≡ f k
three-at f zero h = refl
three-at f (suc zero) h = refl
three-at f (suc (suc zero)) h = refl
three-at f (suc (suc (suc k))) h = absurd (omega arith)

-- three numbers are 0 past a place where they are 0 from then on
pub three-past : (f : ℕ → ℕ) (n k : ℕ) → ((j : ℕ) → n ≤ j → f j ≡ 0) → n ≤ k → slice_index (f 0 ∷ f 1 ∷ f 2 ∷ []) k ≡ 0
three-past f n zero z h = z 0 h
three-past f n (suc zero) z h = z 1 h
three-past f n (suc (suc zero)) z h = z 2 h
three-past f n (suc (suc (suc k))) z h = refl

-- a constant is an element of its sort
pub constant-less : (s : Specification) (universe : Universe) (k sort : ℕ) → IsUniverse s universe → sort_of_constant s k ≡ Some sort →
    element_of_constant s k < size_of universe sort
constant-less s universe k sort large is =
    let among : element_of_constant s k < constant_count s sort = element_of_constant-less s k sort is in
    omega (arith, large.constants sort)

-- a term that has a sort stands for an element of it
pub element_of-less : (s : Specification) (universe : Universe) (sorts values : List ℕ) → IsUniverse s universe → IsOver universe sorts values →
    (t : Term) (sort : ℕ) → sort_of_term s sorts t ≡ Some sort → element_of s values t < size_of universe sort
element_of-less s universe sorts values large over (Variable v) sort is = over.elements v sort is
element_of-less s universe sorts values large over (Fixed k) sort is = constant-less s universe k sort large is

-- the fact of a fitting atom is a fact over the universe of the values
pub IsFact-fact_of : (s : Specification) (universe : Universe) (sorts values : List ℕ) (a : Atom) → IsUniverse s universe →
    AtomFits s sorts a → IsOver universe sorts values → IsFact s universe (fact_of s values a)
IsFact-fact_of s universe sorts values a large fits over = record {
  predicate = fits.predicate;
  declared = fits.declared;
  elements = λ k h.
      let here : slice_index (fact_of s values a).args k ≡ element_of s values (term_at a k)
      = three-at (element_at s values a) k (omega (arith, fits.short)) ∙ element_at-within s values a fits.predicate k fits.declared h in
      subst (λ (x : ℕ). x < size_of universe (slice_index fits.predicate.sorts k)) (sym here)
      (element_of-less s universe sorts values large over (term_at a k) (slice_index fits.predicate.sorts k) (fits.places k h));
  unused = λ k h. three-past (element_at s values a) fits.predicate.arity k (λ j past. element_at-past s values a fits.predicate j fits.declared past) h;
  width = refl;
}

-- past the arity nothing is given
pub given_at-past : (s : Specification) (sorts args : List ℕ) (e : Effect) (fits : EffectFits s sorts e) (k : ℕ) →
    fits.predicate.arity ≤ k → k < 3 → given_at s args e k ≡ 0
given_at-past s sorts args e fits k h l = ap (λ (x : Arg). unwrap_or (stands_for s args x) 0) (fits.unused k h l)

-- a fitting effect has an element in each place within the arity
pub record IsWhole {s : Specification} {sorts : List ℕ} (e : Effect) (fits : EffectFits s sorts e) : Type 0 where
  pub exact : (k : ℕ) → k < fits.predicate.arity → arg_at e k ≡ Any → ⊥

-- an add is whole
pub IsWhole-add : (s : Specification) (sorts : List ℕ) (e : Effect) (fits : EffectFits s sorts e) → e.add ≡ true → IsWhole e fits
IsWhole-add s sorts e fits add = record { exact = λ k h is. fits.exact add k h is }

-- and so is the remove of a dropped fact
pub IsWhole-drop_effect : (s : Specification) (sorts : List ℕ) (b : Bound) (fits : EffectFits s sorts (drop_effect s.predicates b)) →
    IsWhole (drop_effect s.predicates b) fits
IsWhole-drop_effect s sorts b fits = record { exact = λ k h is. other k (place k h (omega (arith, fits.short))) is }
  where
    arity : arity_of s.predicates b.predicate ≡ fits.predicate.arity
    arity = ap (λ (o : Option Predicate). option_map_or (λ p. p.arity) o 0) fits.declared

    at : (k : ℕ) → k < fits.predicate.arity → drop_arg (arity_of s.predicates b.predicate) k ≡ Parameter k
    at k h = ap (λ (n : ℕ). cond (nat_lt k n) (Parameter k) Any) arity ∙ ap (λ (t : Bool). cond t (Parameter k) Any) (lt-ltb k fits.predicate.arity h)

    place : (k : ℕ) → k < fits.predicate.arity → k < 3 → arg_at (drop_effect s.predicates b) k ≡ Parameter k
    place zero h l = at 0 h
    place (suc zero) h l = at 1 h
    place (suc (suc zero)) h l = at 2 h
    place (suc (suc (suc k))) h l = absurd (omega arith)

    other : (k : ℕ) → arg_at (drop_effect s.predicates b) k ≡ Parameter k → arg_at (drop_effect s.predicates b) k ≡ Any → ⊥
    other k parameter any = let both : Parameter k ≡ Any = sym parameter ∙ any in cc

-- a whole effect gives elements of the places' sorts
pub given_at-less : (s : Specification) (universe : Universe) (sorts args : List ℕ) (e : Effect) (fits : EffectFits s sorts e) →
    IsUniverse s universe → IsWhole e fits → IsOver universe sorts args → (k : ℕ) → k < fits.predicate.arity →
    given_at s args e k < size_of universe (slice_index fits.predicate.sorts k)
given_at-less s universe sorts args e fits large whole over k h = by_arg (arg_at e k) refl
  where
    by_arg : (arg : Arg) → arg_at e k ≡ arg → given_at s args e k < size_of universe (slice_index fits.predicate.sorts k)
    by_arg (Parameter v) is = subst (λ (a : Arg). unwrap_or (stands_for s args a) 0 < size_of universe (slice_index fits.predicate.sorts k)) (sym is)
        (over.elements v (slice_index fits.predicate.sorts k) (fits.places k v h is))
    by_arg (FixedArg c) is = subst (λ (a : Arg). unwrap_or (stands_for s args a) 0 < size_of universe (slice_index fits.predicate.sorts k)) (sym is)
        (constant-less s universe c (slice_index fits.predicate.sorts k) large (fits.fixed k c h is))
    by_arg Any is = absurd (whole.exact k h is)

-- the fact that a whole effect gives is a fact over the universe of the arguments
pub IsFact-fact_given : (s : Specification) (universe : Universe) (sorts args : List ℕ) (e : Effect) (fits : EffectFits s sorts e) →
    IsUniverse s universe → IsWhole e fits → IsOver universe sorts args → IsFact s universe (fact_given s args e)
IsFact-fact_given s universe sorts args e fits large whole over = record {
  predicate = fits.predicate;
  declared = fits.declared;
  elements = λ k h.
      subst (λ (x : ℕ). x < size_of universe (slice_index fits.predicate.sorts k)) (sym (three-at (given_at s args e) k (omega (arith, fits.short))))
      (given_at-less s universe sorts args e fits large whole over k h);
  unused = λ k h. past k h;
  width = refl;
}
  where
    past : (k : ℕ) → fits.predicate.arity ≤ k → slice_index (given_at s args e 0 ∷ given_at s args e 1 ∷ given_at s args e 2 ∷ []) k ≡ 0
    past zero h = given_at-past s sorts args e fits 0 h (omega arith)
    past (suc zero) h = given_at-past s sorts args e fits 1 h (omega arith)
    past (suc (suc zero)) h = given_at-past s sorts args e fits 2 h (omega arith)
    past (suc (suc (suc k))) h = refl
