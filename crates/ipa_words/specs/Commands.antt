-- The commands and their words.
--
--   IsSimulate words number kind   `simulate`, a number, and the word of a weather; without one it is clear
--   IsCommand words command   the words name the command: the table of commands
--   texts_of words      the texts of the words
--   usage_text          the line for words that name no command
use Rattle.std.specs.Prelude.{◌≡◌, ℕ, ◌<◌, ◌^◌, List, [], ◌∷◌, map, codes, string_bytes, String}
use Rattle.std.specs.Fmt.{decimal}
use Rattle.ipa_weather.specs.Kinds.{word_of, IsKind}
use Rattle.ipa_weather.specs.declared.kinds.Kind.{Kind}
use Rattle.ipa_weather.specs.declared.kinds.Kind.TheVariants.{Clear}
use Rattle.ipa_words.specs.declared.commands.Command.{Command}
use Rattle.ipa_words.specs.declared.commands.Command.TheVariants.{Check, Repair, Simulate, Generate, Audit, Migrate}

-- the line for words that name no command
abbrev pub usage_text : List ℕ
usage_text =
    codes "usage: ipa check | repair | simulate NUMBER [WEATHER] | simulate --generate NUMBER | audit | migrate | run [WEATHER]\n"

-- the texts of words
abbrev pub texts_of : {Z : Type 0} → List (String Z) → List (List ℕ)
texts_of words = map (λ word. string_bytes word) words

-- a number of 64 bits and a kind of weather
pub record IsNumbered (number : ℕ) (kind : Kind) : Type 0 where
  pub fits : number < 2 ^ 64
  pub is_kind : IsKind kind

-- `simulate`, a number, and the word of a weather; without one it is clear
pub data IsSimulate (texts : List (List ℕ)) (number : ℕ) (kind : Kind) : Type 0 where
  clear : number < 2 ^ 64 → kind ≡ Clear → texts ≡ codes "simulate" ∷ decimal number ∷ [] → IsSimulate texts number kind
  weather : IsNumbered number kind → texts ≡ codes "simulate" ∷ decimal number ∷ word_of kind ∷ [] →
      IsSimulate texts number kind

-- the words name the command
abbrev pub IsCommand : List (List ℕ) → Command → Type 0
IsCommand texts Check = texts ≡ codes "check" ∷ []
IsCommand texts Repair = texts ≡ codes "repair" ∷ []
IsCommand texts (Simulate number kind) = IsSimulate texts number kind
IsCommand texts (Generate number) = (number < 2 ^ 64) × (texts ≡ codes "simulate" ∷ codes "--generate" ∷ decimal number ∷ [])
IsCommand texts Audit = texts ≡ codes "audit" ∷ []
IsCommand texts Migrate = texts ≡ codes "migrate" ∷ []
