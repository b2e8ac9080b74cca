-- What a canonical text reads as.
--
--   constant_names s sort   the names of the constants of a sort, in declared order
--   constants_alone s       the universe that has the constants and no other elements
--   IsAlone s document      the document has this specification, and the setup that no line says: all its elements are
--                           constants
use Rattle.std.specs.Prelude.{◌≡◌, ℕ, List, [], ◌∷◌, map}
use Rattle.ipa_spec.specs.Constants.{constants_of, constant_count}
use Rattle.ipa_spec.specs.declared.names.Name.{Name}
use Rattle.ipa_spec.specs.declared.specification.Specification.{Specification}
use Rattle.ipa_logic.specs.Facts.{Universe, has, IsStateOf}
use Rattle.ipa_reader.specs.Arrangements.{elements_at}
use Rattle.ipa_reader.specs.declared.document.Document.{Document}

-- the names of the constants of a sort, in declared order
abbrev pub constant_names : Specification → ℕ → List Name
constant_names s sort = map (λ c. c.name) (constants_of s.constants sort)

-- the universe that has the constants and no other elements
abbrev pub constants_alone : Specification → Universe
constants_alone s = map (constant_count s) (0 ∷ 1 ∷ 2 ∷ 3 ∷ 4 ∷ 5 ∷ 6 ∷ 7 ∷ [])

pub record IsAlone (s : Specification) (document : Document) : Type 0 where
  pub spec : document.spec ≡ s
  pub elements : (sort : ℕ) → elements_at document.setup.elements sort ≡ constant_names s sort
  pub base : IsStateOf (has []) document.setup.base
  pub replicas : document.setup.replicas ≡ 1
  pub sessions : document.setup.sessions ≡ []
