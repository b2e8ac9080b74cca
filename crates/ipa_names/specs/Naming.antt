-- Names among names. A name that stands there more than once means the first place.
--
--   is_among names name         one of the names is this name
--   number_in names name        the place of the name, counted from 0, if it stands there
--   number_or_count names name  the same, or the count of the names where it does not
--   last_of items               the last item, if there is one
--   with_last change items      the items with the last one changed
use Rattle.std.specs.Prelude.{ℕ, ◌-◌, Bool, List, [], ◌∷◌, length, Option, unwrap_or, slice_get}
use Rattle.std.specs.List.{list_any, position}
use Rattle.ipa_spec.specs.Faults.{same_name}
use Rattle.ipa_spec.specs.declared.names.Name.{Name}

abbrev pub is_among : List Name → Name → Bool
is_among names name = list_any (λ other. same_name other name) names

abbrev pub number_in : List Name → Name → Option ℕ
number_in names name = position (λ other. same_name other name) names

abbrev pub number_or_count : List Name → Name → ℕ
number_or_count names name = unwrap_or (number_in names name) (length names)

abbrev pub last_of : {X : Type 0} → List X → Option X
last_of items = slice_get items (length items - 1)

abbrev pub with_last : {X : Type 0} → (X → X) → List X → List X
with_last change [] = []
with_last change (x ∷ []) = change x ∷ []
with_last change (x ∷ y ∷ ys) = x ∷ with_last change (y ∷ ys)
