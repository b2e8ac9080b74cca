-- The bytes of a line that is written of spellings.
--
--   is_shown b   b is no control byte, so neither a line feed nor a carriage return
use Rattle.std.proofs.Common.{◌≡◌, ℕ, zero, suc, ◌-◌, Bool, true, false, ◌==◌, if◌then◌else◌, ltb, List, [], ◌∷◌, ◌++◌, length, take, replicate, slice_index, codes, IsFalse, refl, ap, ◌∙◌, arith}
use Rattle.std.proofs.lemmas.Bool.{and_from, and_parts}
use Rattle.std.proofs.lemmas.Bool.Decides.{nat_tests}
use Rattle.std.proofs.lemmas.List.Elements.{All-from_recursion}
use Rattle.std.proofs.lemmas.List.Folds.{list_all-append}
use Rattle.std.specs.Char.{is_ascii_digit}
use Rattle.std.specs.List.{list_all, AllByRecursion}
use Rattle.std.specs.Str.Lines.{strip_carriage_return}
use Rattle.ipa_text.specs.Bytes.{is_line_feed, is_name_byte}
use Rattle.ipa_text.specs.Spellings.{Spelling, bytes_of, AreReadableAfter, HasNoLineFeed}
use Rattle.ipa_text.specs.Tokens.{IsOfKind}
use Rattle.ipa_text.specs.declared.tokens.TokenKind.{TokenKind}
use Rattle.ipa_text.specs.declared.tokens.TokenKind.TheVariants as kinds

abbrev pub is_shown : ℕ → Bool
is_shown b = ltb 31 b

name_byte-shown : (b : ℕ) → is_name_byte b ≡ true → is_shown b ≡ true
name_byte-shown b h = grind (arith, nat_tests)

digit-shown : (b : ℕ) → is_ascii_digit b ≡ true → is_shown b ≡ true
digit-shown b h = grind (arith, nat_tests)

all_shown : (p : ℕ → Bool) → ((b : ℕ) → p b ≡ true → is_shown b ≡ true) → (bytes : List ℕ) →
    list_all p bytes ≡ true → list_all is_shown bytes ≡ true
all_shown p each [] h = refl
all_shown p each (b ∷ bytes) h =
    let parts = and_parts _ _ h in
    and_from _ _ (each b parts.0) (all_shown p each bytes parts.1)

shown_along : (bytes text : List ℕ) → bytes ≡ text → list_all is_shown text ≡ true → list_all is_shown bytes ≡ true
shown_along bytes text e h = ap (list_all is_shown) e ∙ h

token-shown : (kind : TokenKind) (bytes : List ℕ) → IsOfKind kind bytes → list_all is_shown bytes ≡ true
token-shown kinds.Word bytes h = all_shown is_name_byte name_byte-shown bytes ((and_parts _ _ h).1)
token-shown kinds.Number bytes h =
    all_shown is_ascii_digit digit-shown bytes ((and_parts _ _ ((and_parts _ _ h).0)).1)
token-shown kinds.Open bytes h = shown_along bytes (codes "(") h refl
token-shown kinds.Close bytes h = shown_along bytes (codes ")") h refl
token-shown kinds.Comma bytes h = shown_along bytes (codes ",") h refl
token-shown kinds.Colon bytes h = shown_along bytes (codes ":") h refl
token-shown kinds.Star bytes h = shown_along bytes (codes "*") h refl
token-shown kinds.Equal bytes h = shown_along bytes (codes "=") h refl
token-shown kinds.Unequal bytes h = shown_along bytes (codes "!=") h refl

spaces-shown : (n : ℕ) → list_all is_shown (replicate n 32) ≡ true
spaces-shown zero = refl
spaces-shown (suc n) = spaces-shown n

pub bytes_of-shown : (b : Bool) (ss : List Spelling) → AreReadableAfter b ss → list_all is_shown (bytes_of ss) ≡ true
bytes_of-shown b [] h = refl
bytes_of-shown b (s ∷ ss) h =
    let later = list_all-append is_shown s.text (bytes_of ss) ∙ and_from _ _ (token-shown s.kind s.text h.0) (bytes_of-shown _ ss h.2) in
    list_all-append is_shown (replicate s.gap 32) (s.text ++ bytes_of ss) ∙ and_from _ _ (spaces-shown s.gap) later

shown-no_line_feed : (b : ℕ) → is_shown b ≡ true → is_line_feed b ≡ false
shown-no_line_feed b h = grind (arith, nat_tests)

each_no_line_feed : (bytes : List ℕ) → list_all is_shown bytes ≡ true →
    AllByRecursion (λ b. IsFalse (is_line_feed b)) bytes
each_no_line_feed [] h = tt
each_no_line_feed (b ∷ bytes) h =
    let parts = and_parts _ _ h in
    (shown-no_line_feed b parts.0, each_no_line_feed bytes parts.1)

pub no_line_feed : (bytes : List ℕ) → list_all is_shown bytes ≡ true → HasNoLineFeed bytes
no_line_feed bytes h = All-from_recursion (λ b. IsFalse (is_line_feed b)) bytes (each_no_line_feed bytes h)

shown-no_return : (b : ℕ) → is_shown b ≡ true → (b == 13) ≡ false
shown-no_return b h = grind (arith, nat_tests)

no_return : (bytes : List ℕ) → list_all is_shown bytes ≡ true → (k : ℕ) → (slice_index bytes k == 13) ≡ false
no_return [] h k = refl
no_return (b ∷ bytes) h zero = shown-no_return b ((and_parts _ _ h).0)
no_return (b ∷ bytes) h (suc k) = no_return bytes ((and_parts _ _ h).1) k

pub nothing_stripped : (bytes : List ℕ) → list_all is_shown bytes ≡ true → strip_carriage_return bytes ≡ bytes
nothing_stripped bytes h =
    ap (λ b. if b then take (length bytes - 1) bytes else bytes) (no_return bytes h (length bytes - 1))
