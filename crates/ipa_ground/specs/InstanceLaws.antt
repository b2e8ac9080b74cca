-- What fits in the clauses of a specification and in their instances.
--
--   ClauseFits-declared   a clause of a fitting specification fits
--   FactFits-literal      the fact of a literal that fits is one over the universe, at values over it
--   FactFits-read         and so is that of a literal that is read from a clause that fits
use Rattle.std.proofs.Common.{◌≡◌, ℕ, ◌<◌, List, length, Some, refl, subst, slice_get, get_or}
use Rattle.std.proofs.lemmas.Option.{slice_get_read}
use Rattle.ipa_spec.specs.Actions.{sorts_of_vars}
use Rattle.ipa_spec.specs.Fits.{LiteralFits, IsFit}
use Rattle.ipa_spec.specs.declared.specification.Specification.{Specification}
use Rattle.ipa_spec.specs.declared.clauses.Clause.{Clause}
use Rattle.ipa_spec.specs.declared.clauses.Literal.{Literal}
use Rattle.ipa_spec.specs.declared.clauses.Literal.TheVariants.{Holds, Fails, Same, Differ}
use Rattle.ipa_logic.specs.Facts.{Universe, IsUniverse}
use Rattle.ipa_logic.specs.FitLaws.{IsFact-fact_of}
use Rattle.ipa_logic.specs.Truth.{IsOver}
use Rattle.ipa_ground.specs.Instances.{ClauseFits, FactFits}

-- a clause of a fitting specification fits
pub ClauseFits-declared : (s : Specification) (k : ℕ) (c : Clause) → IsFit s → slice_get s.clauses k ≡ Some c →
    ClauseFits s c
ClauseFits-declared s k c fit e = record {
  variable_count = fit.variable_count k c e;
  literal_count = fit.literal_count k c e;
  literals = λ j l at. fit.literals k j c l e at;
}

-- the fact of a literal that fits is one over the universe, at values over it
pub FactFits-literal : (s : Specification) (universe : Universe) (sorts values : List ℕ) (l : Literal) →
    IsUniverse s universe → LiteralFits s sorts l → IsOver universe sorts values → FactFits s universe values l
FactFits-literal s universe sorts values (Holds a) large fits over =
    IsFact-fact_of s universe sorts values a large fits over
FactFits-literal s universe sorts values (Fails a) large fits over =
    IsFact-fact_of s universe sorts values a large fits over
FactFits-literal s universe sorts values (Same v w) large fits over = tt
FactFits-literal s universe sorts values (Differ v w) large fits over = tt

-- and so is that of a literal that is read from a clause that fits
pub FactFits-read : (s : Specification) (universe : Universe) (values : List ℕ) (c : Clause) (k : ℕ) (l : Literal)
    (items : List Literal) → IsUniverse s universe → ClauseFits s c → IsOver universe (sorts_of_vars c.vars) values →
    items ≡ c.literals → k < length items → l ≡ get_or items k l → FactFits s universe values l
FactFits-read s universe values c k l items large fits over same inside at =
    FactFits-literal s universe (sorts_of_vars c.vars) values l large
    (fits.literals k l (subst (λ (xs : List Literal). slice_get xs k ≡ Some l) same
    (slice_get_read items (length items) k l refl inside at))) over
