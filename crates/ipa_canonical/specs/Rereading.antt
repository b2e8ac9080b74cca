-- What becomes of a canonical text that is read again.
--
--   is_no_fact         no fact is true in the state without facts
--   constant_lists s   the names of the constants of each sort
--   IsReadBack s       the text reads as the document that has the specification alone
--   IsRefusedBack s    the text is refused at its last line, for the first instance that is broken without facts, where
--                      the constants are all the elements
--   IsThatRefusal ..   a refusal is this one
--
-- Without constants only a clause without variables has an instance there. An instance is broken without facts where
-- each of its literals says that a fact holds, or compares what it must not.
use Rattle.std.specs.Prelude.{◌≡◌, ℕ, Bool, List, [], ◌∷◌, map, Option}
use Rattle.ipa_spec.specs.declared.names.Name.{Name}
use Rattle.ipa_spec.specs.declared.specification.Specification.{Specification}
use Rattle.ipa_text.specs.Lines.{last_line}
use Rattle.ipa_logic.specs.Facts.{has}
use Rattle.ipa_logic.specs.Truth.{IsFirstBroken}
use Rattle.ipa_logic.specs.declared.facts.Fact.{Fact}
use Rattle.ipa_logic.specs.declared.facts.Broken.{Broken}
use Rattle.ipa_canonical.specs.Canonical.{canonical_text}
use Rattle.ipa_reader.specs.Setups.{IsNamed}
use Rattle.ipa_reader.specs.Documents.{ReadsAs, IsRefused}
use Rattle.ipa_canonical.specs.Alone.{constant_names, constants_alone, IsAlone}
use Rattle.ipa_reader.specs.declared.document.Document.{Document}
use Rattle.ipa_reader.specs.declared.refusals.DocKind.{DocKind}
use Rattle.ipa_reader.specs.declared.refusals.DocKind.TheVariants.{BaseClause}

abbrev pub is_no_fact : Fact → Bool
is_no_fact = has []

-- the names of the constants of each sort
abbrev pub constant_lists : Specification → List (List Name)
constant_lists s = map (constant_names s) (0 ∷ 1 ∷ 2 ∷ 3 ∷ 4 ∷ 5 ∷ 6 ∷ 7 ∷ [])

pub record IsReadBack (s : Specification) : Type 0 where
  pub document : Document
  pub reads : ReadsAs (canonical_text s) document
  pub alone : IsAlone s document

pub record IsRefusedBack (s : Specification) : Type 0 where
  pub broken : Broken
  pub first : IsFirstBroken s (constants_alone s) is_no_fact broken.clause broken.values
  pub name : Name
  pub names : List (Option Name)
  pub named : IsNamed s (constant_lists s) broken name names
  pub refused : IsRefused (canonical_text s) (last_line (canonical_text s)) (BaseClause broken name names)

pub record IsThatRefusal (s : Specification) (line : ℕ) (kind : DocKind) : Type 0 where
  pub back : IsRefusedBack s
  pub line_is : line ≡ last_line (canonical_text s)
  pub kind_is : kind ≡ BaseClause back.broken back.name back.names
