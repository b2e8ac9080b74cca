-- Decimal numbers in the words that name a kind of weather.
use Rattle.std.proofs.Common.{◌≡◌, ◌≢◌, ℕ, ◌<◌, ◌^◌, true, false, eqb, List, [], ◌∷◌, ◌++◌, length, get_or, drop, Option, None, Result, Ok, Err, MatchOption, Bor, sym, refl, ap, ◌∙◌, subst, ⊎_elim, arith, lit<, codes}
use Rattle.std.specs.Fmt.{decimal}
use Rattle.std.specs.Char.{is_ascii_digit}
use Rattle.std.specs.Str.{all_ascii_digits}
use Rattle.std.specs.Str.Parse.{digits_value, ParsesUnsigned}
use Rattle.std.specs.Str.Pattern.{FindsTextPrefix, StripsPrefix}
use Rattle.std.specs.Result.{result_ok}
use Rattle.std.proofs.lemmas.Bool.{and_parts, and_from, cases_lt, false≢true, not_from_false, not-true, ne_eqb, eq-eqb}
use Rattle.std.proofs.lemmas.Fmt.{digits_decimal, decimal-digits_value, decimal_injective, first_decimal, decimal_digit, parse-decimal}
use Rattle.std.proofs.lemmas.Str.Parse.{IsNumeralModel, numerals_by_value, tells_all_ascii_digits, not_in_digits, parse_plain}
use Rattle.std.proofs.lemmas.Str.Pattern.{IsSplitOnceResult, split_after}
use Rattle.ipa_weather.specs.Kinds.{begins_as_number}

own : IsNumeralModel (λ ds. all_ascii_digits ds ≡ true) (digits_value 10)
own = numerals_by_value _ tells_all_ascii_digits

begins_above_zero : (ds : List ℕ) → all_ascii_digits ds ≡ true → 48 < get_or ds 0 0 → begins_as_number ds ≡ true
begins_above_zero [] digits above = absurd (omega arith)
begins_above_zero (d ∷ []) digits above = (and_parts (is_ascii_digit d) true digits).0
begins_above_zero (d ∷ e ∷ ds) digits above = and_from _ _ (and_parts (is_ascii_digit d) (all_ascii_digits (e ∷ ds)) digits).0 (not_from_false (eqb d 48) (ne_eqb d 48 (λ same. omega arith)))

begins_as_number-decimal : (n : ℕ) → n < 2 ^ 64 → begins_as_number (decimal n) ≡ true
begins_as_number-decimal n small =
    ⊎_elim
    (λ some. begins_above_zero (decimal n) (digits_decimal own n small) (first_decimal n some small))
    (λ none. let zero_it : n ≡ 0 = omega arith in ap (λ m. begins_as_number (decimal m)) zero_it ∙ ap begins_as_number (decimal_digit 0 (lit< tt)))
    (cases_lt 0 n)

-- what begins as no number is written of none
pub begins_otherwise : (ds : List ℕ) → begins_as_number ds ≡ false → (n : ℕ) → n < 2 ^ 64 → ds ≢ decimal n
begins_otherwise ds otherwise n small same = false≢true (sym otherwise ∙ ap begins_as_number same ∙ begins_as_number-decimal n small)

not_plus : (ds : List ℕ) → begins_as_number ds ≡ true → get_or ds 0 0 ≢ 43
not_plus [] begins same = absurd (false≢true begins)
not_plus (d ∷ []) begins same = false≢true (ap is_ascii_digit (sym same) ∙ begins)
not_plus (d ∷ e ∷ ds) begins same = false≢true (ap is_ascii_digit (sym same) ∙ (and_parts (is_ascii_digit d) _ begins).0)

zero_alone : (ds : List ℕ) → begins_as_number ds ≡ true → get_or ds 0 0 ≡ 48 → length ds ≡ 1
zero_alone [] begins same = absurd (false≢true begins)
zero_alone (d ∷ []) begins same = refl
zero_alone (d ∷ e ∷ ds) begins same = absurd (false≢true (sym (not-true (eqb d 48) (and_parts (is_ascii_digit d) _ begins).1) ∙ eq-eqb d 48 same))

-- what `parse` reads of digits that begin as a number is written as they are
pub parsed_as_written : {E : Type 0} (ds : List ℕ) (r : Result ℕ E) → begins_as_number ds ≡ true → ParsesUnsigned 64 10 ds r → MatchOption (result_ok r) ((n : ℕ) → n < 2 ^ 64 → ds ≢ decimal n) (λ n. (n < 2 ^ 64) × (ds ≡ decimal n))
parsed_as_written {E = E} ds (Ok m) begins parses =
    let found = parse_plain own {E = E} 64 ds (Ok m) parses (not_plus ds begins) in
    let small : digits_value 10 ds < 2 ^ 64 = found.0.2 in
    (subst (λ v. v < 2 ^ 64) (sym found.1) small, sym (decimal-digits_value own ds found.0.0 found.0.1 (zero_alone ds begins) small) ∙ ap decimal (sym found.1))
parsed_as_written {E = E} ds (Err e) begins parses = λ n small same. let read = parse-decimal 64 n ds (Err e) small small same parses in absurd cc

-- a number that is written in two ways is one
pub written_once : (ds : List ℕ) (m n : ℕ) → m < 2 ^ 64 → n < 2 ^ 64 → ds ≡ decimal m → ds ≡ decimal n → m ≡ n
written_once ds m n small_m small_n is_m is_n = decimal_injective m n small_m small_n (sym is_m ∙ is_n)

no_colon : (n : ℕ) → n < 2 ^ 64 → (i : ℕ) → i < length (decimal n) → get_or (decimal n) i 0 ≢ 58
no_colon n small = not_in_digits own (decimal n) 58 (digits_decimal own n small) (λ within. omega (arith, within.1))

-- two numbers with a colon between them, behind a word of six bytes
behind_split : (word rest : List ℕ) (m n : ℕ) → StripsPrefix (FindsTextPrefix (codes "split:")) word rest → word ≡ codes "split:" ++ (decimal m ++ (codes ":" ++ decimal n)) → rest ≡ decimal m ++ (58 ∷ decimal n)
behind_split word rest m n strips same =
    let front : word ≡ codes "split:" ++ rest = strips.1.1 ∙ ap (λ r. codes "split:" ++ r) (sym strips.2) in
    ap (drop 6) (sym front ∙ same)

pub record IsSplitWord (word rest : List ℕ) (r : Option (Bor (List ℕ) × Bor (List ℕ))) : Type 0 where
  pub strips : StripsPrefix (FindsTextPrefix (codes "split:")) word rest
  pub splits : IsSplitOnceResult 58 rest r

pub split_around : (word rest : List ℕ) (r : Option (Bor (List ℕ) × Bor (List ℕ))) (m n : ℕ) → IsSplitWord word rest r → m < 2 ^ 64 → word ≡ codes "split:" ++ (decimal m ++ (codes ":" ++ decimal n)) → MatchOption r ⊥ (λ x. (x.0.now ≡ decimal m) × (x.1.now ≡ decimal n))
split_around word rest r m n is small same = split_after 58 rest (decimal m) (decimal n) r is.splits (lit< tt) (behind_split word rest m n is.strips same) (no_colon m small)

abbrev pub IsSplitAnswer : List ℕ → Option (ℕ × ℕ) → Type 0
IsSplitAnswer word r = MatchOption r ((m n : ℕ) → m < 2 ^ 32 → n < 2 ^ 32 → word ≢ codes "split:" ++ (decimal m ++ (codes ":" ++ decimal n))) (λ x. word ≡ codes "split:" ++ (decimal x.0 ++ (codes ":" ++ decimal x.1)))

pub no_split : (word : List ℕ) (r : Option (ℕ × ℕ)) → r ≡ None → ((m n : ℕ) → m < 2 ^ 32 → n < 2 ^ 32 → word ≢ codes "split:" ++ (decimal m ++ (codes ":" ++ decimal n))) → IsSplitAnswer word r
no_split word r none otherwise = subst (λ answer. IsSplitAnswer word answer) (sym none) otherwise
