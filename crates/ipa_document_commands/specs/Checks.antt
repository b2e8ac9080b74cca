-- What `check` says of an input, which is a document.
--
--   accepted_text                   that a specification is accepted
--   IsAcceptance status text        what `check` says of an accepted specification
--   IsChecked bytes status text     what `check` says of an input that is not too long
--   CheckVerdict bytes status text  what `check` says of an input
use Rattle.std.specs.Prelude.{◌≡◌, ℕ, List, codes}
use Rattle.ipa_command.specs.Verdicts.{AfterLength, AfterReading, AfterWidth, AfterAcceptance, longest_document}
use Rattle.ipa_command.specs.declared.status.Status.{Status}
use Rattle.ipa_command.specs.declared.status.Status.TheVariants.{Done}

-- that a specification is accepted
abbrev pub accepted_text : List ℕ
accepted_text = codes "accepted\n"

-- what `check` says of an accepted specification
pub record IsAcceptance (status : Status) (text : List ℕ) : Type 0 where
  pub status_is : status ≡ Done
  pub text_is : text ≡ accepted_text

-- what `check` says of an input that is not too long
abbrev pub IsChecked : List ℕ → Status → List ℕ → Type 0
IsChecked bytes status text =
    AfterReading bytes (λ document. AfterWidth document.spec (AfterAcceptance document.spec IsAcceptance)) status text

-- what `check` says of an input
abbrev pub CheckVerdict : List ℕ → Status → List ℕ → Type 0
CheckVerdict bytes status text = AfterLength longest_document bytes (IsChecked bytes) status text
