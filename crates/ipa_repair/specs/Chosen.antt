-- Those of a list that are chosen.
--
--   IsTaken, IsPassedOver   the first item is one of those, or it is not
--   Those P xs ys           the same over the whole list
--   AreThose P xs ys        ys are those of the items xs of which P holds, in their order
--   Gains P xs old new      the list has grown by those of the items xs of which P holds
use Rattle.std.specs.Prelude.{◌≡◌, ◌⊎◌, List, [], ◌∷◌, ◌++◌}

-- P holds of the item, and the chosen ones of the others come after it
pub record IsTaken {X : Type 0} (P : X → Type 0) (x : X) (Others : List X → Type 0) (ys : List X) : Type 0 where
  pub holds : P x
  pub others : List X
  pub are : Others others
  pub is : ys ≡ x ∷ others

-- P does not hold of the item
pub record IsPassedOver {X : Type 0} (P : X → Type 0) (x : X) (Others : List X → Type 0) (ys : List X) : Type 0 where
  pub fails : P x → ⊥
  pub are : Others ys

-- the chosen ones of a list, item by item
unfoldable pub Those : {X : Type 0} → (X → Type 0) → List X → List X → Type 0
Those P [] ys = ys ≡ []
Those P (x ∷ xs) ys = IsTaken P x (Those P xs) ys ⊎ IsPassedOver P x (Those P xs) ys

-- ys are those of the items xs of which P holds, in their order
pub record AreThose {X : Type 0} (P : X → Type 0) (xs ys : List X) : Type 0 where
  pub those : Those P xs ys

-- the list has grown by those of the items xs of which P holds
pub record Gains {X : Type 0} (P : X → Type 0) (xs old new : List X) : Type 0 where
  pub found : List X
  pub are : AreThose P xs found
  pub grown : new ≡ old ++ found
