-- A setup that fits its specification.
--
--   IsFitting s sizes elements base sessions   the sizes are a universe of the specification; each constant's name is the
--       name of its element; the base is a state over the universe; and each request fits the specification and the
--       universe
use Rattle.std.specs.Prelude.{◌≡◌, ℕ, List, slice_get, Some}
use Rattle.ipa_spec.specs.Constants.{element_of_constant}
use Rattle.ipa_spec.specs.declared.names.Name.{Name}
use Rattle.ipa_spec.specs.declared.constants.Constant.{Constant}
use Rattle.ipa_spec.specs.declared.specification.Specification.{Specification}
use Rattle.ipa_logic.specs.Facts.{Universe, IsUniverse, IsState}
use Rattle.ipa_logic.specs.Requests.{IsRequest}
use Rattle.ipa_logic.specs.declared.facts.Fact.{Fact}
use Rattle.ipa_logic.specs.declared.facts.Request.{Request}
use Rattle.ipa_names.specs.Naming.{number_in}
use Rattle.ipa_reader.specs.Arrangements.{elements_at}
use Rattle.ipa_reader.specs.declared.sessions.SessionWork.{SessionWork}

pub record IsFitting (s : Specification) (sizes : Universe) (elements : List (List Name)) (base : List Fact)
    (sessions : List SessionWork) : Type 0 where
  pub universe : IsUniverse s sizes
  pub constants : (k : ℕ) (c : Constant) → slice_get s.constants k ≡ Some c →
      number_in (elements_at elements c.sort) c.name ≡ Some (element_of_constant s k)
  pub state : IsState s sizes base
  pub requests : (n k : ℕ) (work : SessionWork) (asked : Request) → slice_get sessions n ≡ Some work →
      slice_get work.requests k ≡ Some asked → IsRequest s sizes asked
