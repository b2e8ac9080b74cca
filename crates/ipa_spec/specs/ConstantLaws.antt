-- Laws of constants.
--
--   element_of_constant-less   a constant of a sort is one of the first elements, as many as the sort has constants
use Rattle.std.proofs.Common.{◌≡◌, ◌==◌, ℕ, ◌<◌, Bool, true, false, cond, List, [], ◌∷◌, length, take, Option, Some, None, refl, sym, ap, ◌∙◌, subst, arith, zero, suc}
use Rattle.std.specs.List.{slice_get}
use Rattle.std.specs.Option.{option_map, option_map_or}
use Rattle.std.proofs.lemmas.Bool.{eq-eqb}
use Rattle.std.proofs.lemmas.Option.{same_Some}
use Rattle.ipa_spec.specs.Constants.{sort_of_constant, constants_of, constant_count, element_of_constant}
use Rattle.ipa_spec.specs.declared.specification.Specification.{Specification}
use Rattle.ipa_spec.specs.declared.constants.Constant.{Constant}

-- a constant of the sort at this place: fewer stand before it than there are
earlier_are_fewer : (cs : List Constant) (k sort : ℕ) (c : Constant) → slice_get cs k ≡ Some c → c.sort ≡ sort →
    length (constants_of (take k cs) sort) < length (constants_of cs sort)
earlier_are_fewer [] k sort c e is = cc
earlier_are_fewer (x ∷ xs) zero sort c e is =
    let here : x ≡ c = same_Some _ _ e in
    let passes : (x.sort == sort) ≡ true = eq-eqb x.sort sort (ap (λ c. c.sort) here ∙ is) in
    let longer : length (constants_of (x ∷ xs) sort) ≡ suc (length (constants_of xs sort)) =
    ap (λ b. length (cond b (x ∷ constants_of xs sort) (constants_of xs sort))) passes in
    omega arith
earlier_are_fewer (x ∷ xs) (suc k) sort c e is = step (x.sort == sort) refl (earlier_are_fewer xs k sort c e is)
  where
    step : (b : Bool) → (x.sort == sort) ≡ b → length (constants_of (take k xs) sort) < length (constants_of xs sort) →
        length (cond b (x ∷ constants_of (take k xs) sort) (constants_of (take k xs) sort))
        < length (cond b (x ∷ constants_of xs sort) (constants_of xs sort))
    step true here less = omega arith
    step false here less = less

-- a constant is one of the first elements of its sort
pub element_of_constant-less : (s : Specification) (k sort : ℕ) → sort_of_constant s k ≡ Some sort →
    element_of_constant s k < constant_count s sort
element_of_constant-less s k sort e = at (slice_get s.constants k) refl e
  where
    at : (found : Option Constant) → slice_get s.constants k ≡ found → option_map (λ c. c.sort) found ≡ Some sort →
        option_map_or (λ c. length (constants_of (take k s.constants) c.sort)) found 0 < constant_count s sort
    at None is h = cc
    at (Some c) is h =
        let same : c.sort ≡ sort = same_Some _ _ h in
        subst (λ n. length (constants_of (take k s.constants) n) < constant_count s sort) (sym same)
        (earlier_are_fewer s.constants k sort c is same)
