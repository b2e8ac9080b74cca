-- What the lines of a canonical text say.
--
--   HasLiterals s           each clause has one literal or more
--   IsSaidBy line form      the line is cut into tokens, is no existential clause, and has the form
use Rattle.std.specs.Prelude.{◌≡◌, ℕ, ◌<◌, false, List, length, slice_get, Some}
use Rattle.ipa_spec.specs.declared.clauses.Clause.{Clause}
use Rattle.ipa_spec.specs.declared.specification.Specification.{Specification}
use Rattle.ipa_text.specs.Tokens.{IsCutInto}
use Rattle.ipa_text.specs.declared.tokens.Token.{Token}
use Rattle.ipa_forms.specs.Forms.{HasForm, is_existential}
use Rattle.ipa_forms.specs.declared.forms.Form.{Form}

-- a clause without a literal has no line, since a line has one or more
pub record HasLiterals (s : Specification) : Type 0 where
  pub each : (n : ℕ) (c : Clause) → slice_get s.clauses n ≡ Some c → 0 < length c.literals

pub record IsSaidBy (line : List ℕ) (form : Form) : Type 0 where
  pub tokens : List Token
  pub cut : IsCutInto line tokens
  pub plain : is_existential line tokens ≡ false
  pub form_is : HasForm line tokens form
