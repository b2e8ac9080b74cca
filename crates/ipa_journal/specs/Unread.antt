-- Lines without parts.
--
--   IsUnread text              a byte starts no token, or the tokens are no parts
--   IsPartFault text fault     a fault of a line's text is true of it; want of memory is true of all
use Rattle.std.specs.Prelude.{◌≡◌, ℕ, List}
use Rattle.ipa_text.specs.Tokens.{IsCutInto, IsBadByte}
use Rattle.ipa_text.specs.declared.tokens.Token.{Token}
use Rattle.ipa_forms.specs.Words.{words_in}
use Rattle.ipa_journal.specs.Parts.{words_of}
use Rattle.ipa_journal.specs.declared.parts.Part.{Part}
use Rattle.ipa_journal.specs.declared.parts.PartFault.{PartFault}
use Rattle.ipa_journal.specs.declared.parts.PartFault.TheVariants.{Unread, NoMemory}

-- a byte of the line starts no token
pub record HasBadByte (text : List ℕ) : Type 0 where
  pub at : ℕ
  pub bad : IsBadByte text at

-- the line is cut into tokens that are the words of no parts
pub record IsPartless (text : List ℕ) : Type 0 where
  pub tokens : List Token
  pub cut : IsCutInto text tokens
  pub none : (parts : List Part) → words_in text tokens ≡ words_of parts → ⊥

pub data IsUnread (text : List ℕ) : Type 0 where
  bad_byte : HasBadByte text → IsUnread text
  no_parts : IsPartless text → IsUnread text

abbrev pub IsPartFault : List ℕ → PartFault → Type 0
IsPartFault text Unread = IsUnread text
IsPartFault text NoMemory = Unit {0}
