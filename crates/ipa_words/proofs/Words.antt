-- What words do not name.
--
--   not_generate     `--generate` is no number
--   first_byte, letter, same-letter     the first words of commands begin with these letters
--   generate-none    what stands behind `simulate --generate` and is no number names no command
use Rattle.std.proofs.Common.{◌≡◌, ◌≢◌, ℕ, ◌<◌, ◌^◌, List, [], ◌∷◌, codes, get_or, ◌∙◌, sym, ap, arith, inl, inr, lit<}
use Rattle.std.specs.Fmt.{decimal}
use Rattle.std.proofs.lemmas.Bool.{cases_lt}
use Rattle.std.proofs.lemmas.Fmt.{first_decimal, decimal_digit}
use Rattle.ipa_words.specs.Commands.{IsCommand}
use Rattle.ipa_words.specs.Commands.IsSimulate.{clear, weather}
use Rattle.ipa_words.specs.declared.commands.Command.{Command}
use Rattle.ipa_words.specs.declared.commands.Command.TheVariants.{Check, Repair, Simulate, Generate, Audit, Migrate}

-- `--generate` is no number
pub not_generate : (n : ℕ) → n < 2 ^ 64 → codes "--generate" ≢ decimal n
not_generate n small same = elim (cases_lt 0 n) [
  | inl some ↦
      let first = first_decimal n some small in
      let at = ap (λ (ds : List ℕ). get_or ds 0 0) same in
      omega (arith, first, at)
  | inr none ↦
      let zero_it : n ≡ 0 = omega (arith, none) in
      let at = ap (λ (ds : List ℕ). get_or ds 0 0) (same ∙ (ap decimal zero_it ∙ decimal_digit 0 (lit< tt))) in
      omega (arith, at)
]

abbrev pub first_byte : List (List ℕ) → ℕ
first_byte texts = get_or (get_or texts 0 []) 0 0

-- the letter that the first word of a command begins with
abbrev pub letter : Command → ℕ
letter Check = 99
letter Repair = 114
letter (Simulate n kind) = 115
letter (Generate n) = 115
letter Audit = 97
letter Migrate = 109

letter-of : (texts : List (List ℕ)) (c : Command) → IsCommand texts c → first_byte texts ≡ letter c
letter-of texts Check e = ap first_byte e
letter-of texts Repair e = ap first_byte e
letter-of texts (Simulate n kind) (clear small is e) = ap first_byte e
letter-of texts (Simulate n kind) (weather fits e) = ap first_byte e
letter-of texts (Generate n) e = ap first_byte e.1
letter-of texts Audit e = ap first_byte e
letter-of texts Migrate e = ap first_byte e

-- the first words of two commands that the same words name begin with the same letter
pub same-letter : (texts : List (List ℕ)) (one other : Command) → IsCommand texts one → IsCommand texts other → letter one ≡ letter other
same-letter texts one other h k = sym (letter-of texts one h) ∙ letter-of texts other k

-- what stands behind `simulate --generate` and is no number names no command
pub generate-none : (digits : List ℕ) → ((n : ℕ) → n < 2 ^ 64 → digits ≢ decimal n) → (c : Command) →
    IsCommand (codes "simulate" ∷ codes "--generate" ∷ digits ∷ []) c → ⊥
generate-none digits none (Simulate n kind) (clear small is e) = cc
generate-none digits none (Simulate n kind) (weather fits e) =
    not_generate n fits.fits (ap (λ (ts : List (List ℕ)). get_or ts 1 []) e)
generate-none digits none (Generate n) e = none n e.0 (ap (λ (ts : List (List ℕ)). get_or ts 2 []) e.1)
generate-none digits none Check e = omega (arith, ap first_byte e)
generate-none digits none Repair e = omega (arith, ap first_byte e)
generate-none digits none Audit e = omega (arith, ap first_byte e)
generate-none digits none Migrate e = omega (arith, ap first_byte e)
