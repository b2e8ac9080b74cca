-- Reading a number digit by digit.
use Rattle.std.proofs.Common.{◌≡◌, ℕ, ◌+◌, ◌*◌, ◌<◌, ◌≤◌, true, false, ◌&&◌, leb, eqb, List, [], ◌∷◌, ◌^◌, length, get_or, take, None, Some, sym, refl, ap, ◌∙◌, subst, ⊎_elim, arith, rules, lit≤, lit<}
use Rattle.std.specs.List.{list_all}
use Rattle.std.specs.Char.{is_ascii_digit, digit_value}
use Rattle.std.specs.Str.Parse.{digits_value}
use Rattle.std.proofs.lemmas.Bool.{and_parts, and_from, and_left, cases_Bool, cond-true, cond-false, le-leb, leb-true, false≢true, cases_lt, not_from_false, not-true, ne_eqb, eq-eqb}
use Rattle.std.proofs.lemmas.Option.{cond_some}
use Rattle.std.proofs.lemmas.List.{take_all}
use Rattle.std.proofs.lemmas.List.Folds.{list_all_more}
use Rattle.std.proofs.lemmas.List.Sums.{AllPass-from_list_all}
use Rattle.std.proofs.lemmas.Int.Digits.{digits_value_more}
use Rattle.std.specs.Fmt.{decimal}
use Rattle.std.proofs.lemmas.Fmt.{digits_decimal, digits_value-decimal, decimal-digits_value, first_decimal, decimal_digit}
use Rattle.std.proofs.lemmas.Str.Parse.{digits_value-take-le, IsNumeralModel, numerals_by_value}
use Rattle.ipa_text.specs.Words.{has_no_needless_zero, is_number, number_of, followed_by}

-- the first i bytes are digits, of value n
pub record IsFrontValue (ds : List ℕ) (i n : ℕ) : Type 0 where
  pub digits : list_all is_ascii_digit (take i ds) ≡ true
  pub value : digits_value 10 (take i ds) ≡ n
  pub fits : n ≤ 4294967295

pub front_none : (ds : List ℕ) → IsFrontValue ds 0 0
front_none ds = record { digits = refl; value = refl; fits = omega arith }

pub front_more : (ds : List ℕ) (i n m : ℕ) → i < length ds → IsFrontValue ds i n → followed_by n (get_or ds i 0) ≡ Some m → IsFrontValue ds (i + 1) m
front_more ds i n m h front next =
    let found = cond_some _ _ _ next in
    record {
      digits = list_all_more is_ascii_digit ds i 0 h ∙ and_from _ _ front.digits (and_parts _ _ found.0).0;
      value = digits_value_more 10 ds i h ∙ ap (λ v. v * 10 + digit_value (get_or ds i 0)) front.value ∙ found.1;
      fits = let small = leb-true _ _ (and_parts _ _ found.0).1 in subst (λ v. v ≤ 4294967295) found.1 small;
    }

-- a number's next byte is a digit, and what the digits mean up to it fits
next_in_number : (ds : List ℕ) (i n : ℕ) → i < length ds → IsFrontValue ds i n → is_number ds ≡ true → (is_ascii_digit (get_or ds i 0) && leb (n * 10 + digit_value (get_or ds i 0)) 4294967295) ≡ true
next_in_number ds i n h front is =
    let parts = and_parts (has_no_needless_zero ds && list_all is_ascii_digit ds) (leb (digits_value 10 ds) 4294967295) is in
    let digits = and_parts (has_no_needless_zero ds) (list_all is_ascii_digit ds) parts.0 in
    let whole = leb-true (digits_value 10 ds) 4294967295 parts.1 in
    let part = digits_value-take-le 10 ds (i + 1) (lit≤ tt) in
    let step : digits_value 10 (take (i + 1) ds) ≡ n * 10 + digit_value (get_or ds i 0) = digits_value_more 10 ds i h ∙ ap (λ v. v * 10 + digit_value (get_or ds i 0)) front.value in
    and_from _ _ (AllPass-from_list_all is_ascii_digit ds digits.1 i 0 h) (le-leb _ _ (omega arith))

pub front_stops : (ds : List ℕ) (i n : ℕ) → i < length ds → IsFrontValue ds i n → followed_by n (get_or ds i 0) ≡ None → number_of ds ≡ None
front_stops ds i n h front stop =
    ⊎_elim
    (λ is. let goes = cond-true _ (Some (n * 10 + digit_value (get_or ds i 0))) None (next_in_number ds i n h front is) in cc)
    (λ fails. cond-false _ _ _ fails)
    (cases_Bool (is_number ds))

pub front_all : (ds : List ℕ) (i n : ℕ) → has_no_needless_zero ds ≡ true → length ds ≤ i → IsFrontValue ds i n → number_of ds ≡ Some n
front_all ds i n plain end front =
    let digits = subst (λ xs. list_all is_ascii_digit xs ≡ true) (take_all i ds end) front.digits in
    let value = sym (ap (digits_value 10) (take_all i ds end)) ∙ front.value in
    let fits : digits_value 10 ds ≤ 4294967295 = subst (λ v. v ≤ 4294967295) (sym value) front.fits in
    cond-true _ _ _ (and_from _ _ (and_from _ _ plain digits) (le-leb _ _ fits)) ∙ ap Some value

pub needless_zero : (ds : List ℕ) → has_no_needless_zero ds ≡ false → number_of ds ≡ None
needless_zero ds zero_first = cond-false _ _ _ (and_left _ _ (and_left _ _ zero_first))

-- a number is digits with no needless zero, of its value
own_digits : IsNumeralModel (λ ds. list_all is_ascii_digit ds ≡ true) (digits_value 10)
own_digits = numerals_by_value _ (search rules)

plain_above_zero : (ds : List ℕ) → 48 < get_or ds 0 0 → has_no_needless_zero ds ≡ true
plain_above_zero [] above = absurd (omega arith)
plain_above_zero (d ∷ []) above = refl
plain_above_zero (d ∷ e ∷ ds) above = not_from_false (eqb d 48) (ne_eqb d 48 (λ same. omega arith))

plain_decimal : (n : ℕ) → n < 2 ^ 64 → has_no_needless_zero (decimal n) ≡ true
plain_decimal n small =
    ⊎_elim
    (λ some. plain_above_zero (decimal n) (first_decimal n some small))
    (λ none. let zero_it : n ≡ 0 = omega arith in ap (λ m. has_no_needless_zero (decimal m)) zero_it ∙ ap has_no_needless_zero (decimal_digit 0 (lit< tt)))
    (cases_lt 0 n)

-- what is printed of a number is read as that number
pub printed_is_read : (n : ℕ) → n < 2 ^ 32 → number_of (decimal n) ≡ Some n
printed_is_read n small =
    let digits = digits_decimal own_digits n (omega arith) in
    let value : digits_value 10 (decimal n) ≡ n = digits_value-decimal own_digits n (omega arith) in
    cond-true (is_number (decimal n)) _ _ (and_from _ _ (and_from _ _ (plain_decimal n (omega arith)) digits) (le-leb _ _ (omega arith))) ∙ ap Some value

first_of_plain : (ds : List ℕ) → has_no_needless_zero ds ≡ true → (0 < length ds) × (get_or ds 0 0 ≡ 48 → length ds ≡ 1)
first_of_plain [] plain = absurd (false≢true plain)
first_of_plain (d ∷ []) plain = (omega arith, λ _. refl)
first_of_plain (d ∷ e ∷ ds) plain = (omega arith, λ same. absurd (false≢true (sym (not-true (eqb d 48) plain) ∙ eq-eqb d 48 same)))

-- and nothing else is read as it
pub read_is_printed : (ds : List ℕ) (n : ℕ) → number_of ds ≡ Some n → ds ≡ decimal n
read_is_printed ds n h =
    let found = cond_some (is_number ds) (digits_value 10 ds) n h in
    let parts = and_parts (has_no_needless_zero ds && list_all is_ascii_digit ds) (leb (digits_value 10 ds) 4294967295) found.0 in
    let front = and_parts (has_no_needless_zero ds) (list_all is_ascii_digit ds) parts.0 in
    let small : digits_value 10 ds ≤ 4294967295 = leb-true (digits_value 10 ds) 4294967295 parts.1 in
    let first = first_of_plain ds front.0 in
    sym (decimal-digits_value own_digits ds front.1 first.0 first.1 (omega arith)) ∙ ap decimal found.1
