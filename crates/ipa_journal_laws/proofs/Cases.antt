-- What is known where a choice gave something.
--
--   cond_some       the test passed
--   mapped_some     what was mapped
--   chosen_some     what was tried
--   position_within what is found stands in the list
use Rattle.std.proofs.Common.{◌≡◌, ℕ, ◌<◌, Bool, true, false, cond, not, nat_lt, List, length, Option, None, Some, refl, subst}
use Rattle.std.specs.Prelude.{option_and_then}
use Rattle.std.specs.List.{prefix_len, position}
use Rattle.std.specs.Option.{option_map}
use Rattle.std.proofs.lemmas.Bool.{ltb-true}
use Rattle.std.proofs.lemmas.Option.{same_Some}

pub cond_some : {X : Type 0} (b : Bool) (o : Option X) (x : X) → cond b o None ≡ Some x → (b ≡ true) × (o ≡ Some x)
cond_some true o x e = (refl, e)
cond_some false o x e = cc

pub mapped_some : {X Y : Type 0} (f : X → Y) (o : Option X) (y : Y) → option_map f o ≡ Some y →
    (x : X) × (o ≡ Some x) × (f x ≡ y)
mapped_some f None y e = cc
mapped_some f (Some x) y e = (x, refl, same_Some _ _ e)

pub chosen_some : {X Y : Type 0} (f : X → Option Y) (o : Option X) (y : Y) → option_and_then f o ≡ Some y →
    (x : X) × (o ≡ Some x) × (f x ≡ Some y)
chosen_some f None y e = cc
chosen_some f (Some x) y e = (x, refl, e)

pub position_within : {X : Type 0} (test : X → Bool) (xs : List X) (k : ℕ) → position test xs ≡ Some k → k < length xs
position_within test xs k e =
    let place : ℕ = prefix_len (λ x. not (test x)) xs in
    let found = cond_some (nat_lt place (length xs)) (Some place) k e in
    subst (λ j. j < length xs) (same_Some place k found.1) (ltb-true place (length xs) found.0)
