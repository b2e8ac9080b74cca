-- Elements of constants.
--
--   below_four     each is below 4, since a sort has at most 4 constants
use Rattle.std.proofs.Common.{◌≡◌, ℕ, ◌<◌, refl, ap, subst, sym, arith, Option, Some, None, slice_get}
use Rattle.std.specs.Option.{option_map, option_map_or}
use Rattle.std.specs.Prelude.{length, take}
use Rattle.ipa_spec.specs.Constants.{element_of_constant, constants_of}
use Rattle.ipa_spec.specs.ConstantLaws.{element_of_constant-less}
use Rattle.ipa_spec.specs.Fits.{IsFit}
use Rattle.ipa_spec.specs.declared.constants.Constant.{Constant}
use Rattle.ipa_spec.specs.declared.specification.Specification.{Specification}

-- the element of a constant is below 4
pub below_four : (s : Specification) → IsFit s → (k : ℕ) → element_of_constant s k < 4
below_four s fit k = here (slice_get s.constants k) refl
  where
    here : (o : Option Constant) → slice_get s.constants k ≡ o → element_of_constant s k < 4
    here None e =
        let none : element_of_constant s k ≡ 0 =
        ap (λ (x : Option Constant). option_map_or (λ c. length (constants_of (take k s.constants) c.sort)) x 0) e in
        omega (arith, none)
    here (Some c) e =
        let less = element_of_constant-less s k c.sort (ap (λ (x : Option Constant). option_map (λ c. c.sort) x) e) in
        let most = fit.constant_most c.sort in
        omega (arith, less, most)
