-- `front_of` gives the one token at the front.
use Rattle.std.proofs.Common.{◌≡◌, ℕ, ◌<◌, ◌≤◌, Bool, true, false, cond, eqb, List, [], ◌∷◌, length, get_or, take, Option, None, Some, sym, refl, ap, ◌∙◌, subst, ◌⊎◌, inl, inr, ⊎_elim, arith}
use Rattle.std.specs.List.{list_all, prefix_len, take_while}
use Rattle.std.specs.Option.{option_map}
use Rattle.std.specs.Char.{is_ascii_digit, is_ascii_alphabetic}
use Rattle.std.proofs.lemmas.Bool.{and_parts, and_from, and_left, or_left, cond-true, cond-false, eqb-true, ne_eqb, false≢true}
use Rattle.std.proofs.Common.{get_or-take}
use Rattle.std.proofs.lemmas.Bool.Decides.{nat_tests}
use Rattle.std.proofs.lemmas.Option.{some_pair_parts}
use Rattle.std.proofs.lemmas.List.{length-take-le}
use Rattle.std.proofs.lemmas.List.Sums.{AllPass-from_list_all, prefix_len_is, prefix_len-le-length, prefix_len_stops}
use Rattle.ipa_text.specs.Bytes.{is_name_byte}
use Rattle.ipa_text.specs.Words.{is_word, is_number}
use Rattle.ipa_text.specs.Tokens.{IsOfKind, is_run}
use Rattle.ipa_text.specs.Fronts.{begins_unequal, mark_of, run_kind, mark_or_run, front_of}
use Rattle.ipa_text.specs.declared.tokens.TokenKind.{TokenKind}
use Rattle.ipa_text.specs.declared.tokens.TokenKind.TheVariants.{Word, Number, Open, Close, Comma, Colon, Star, Equal, Unequal}

-- a token of this kind is the first n of the bytes
pub record IsFront (bytes : List ℕ) (kind : TokenKind) (n : ℕ) : Type 0 where
  pub within : n ≤ length bytes
  pub of_kind : IsOfKind kind (take n bytes)
  pub longest : is_run kind ≡ true → n < length bytes → is_name_byte (get_or bytes n 0) ≡ false

-- which way a choice went
chosen : {X : Type 0} (b : Bool) (x y z : X) → cond b x y ≡ z → ((b ≡ true) × (x ≡ z)) ⊎ ((b ≡ false) × (y ≡ z))
chosen true x y z h = inl (refl, h)
chosen false x y z h = inr (refl, h)

-- a mark's byte is of its kind, and a mark is no run
pub record Marks (b : ℕ) (kind : TokenKind) : Type 0 where
  pub of_kind : IsOfKind kind (b ∷ [])
  pub no_run : is_run kind ≡ false

marks_same : (b c : ℕ) (kind k : TokenKind) → b ≡ c → kind ≡ k → Marks c kind → Marks b k
marks_same b c kind k same_byte same_kind m = subst (λ x. Marks x k) (sym same_byte) (subst (Marks c) same_kind m)

some_same : {X : Type 0} (x y : X) → Some x ≡ Some y → x ≡ y
some_same x y e = cc

mark_step : (b c : ℕ) (kind : TokenKind) (rest : Option TokenKind) (k : TokenKind) → cond (eqb b c) (Some kind) rest ≡ Some k → Marks c kind → (rest ≡ Some k → Marks b k) → Marks b k
mark_step b c kind rest k h here later =
    ⊎_elim
    (λ p. marks_same b c kind k (eqb-true b c p.0) (some_same kind k p.1) here)
    (λ p. later p.1)
    (chosen (eqb b c) (Some kind) rest (Some k) h)

mark_is : (b : ℕ) (k : TokenKind) → mark_of b ≡ Some k → Marks b k
mark_is b k h =
    mark_step b 40 Open _ k h (record { of_kind = refl; no_run = refl }) (λ h.
    mark_step b 41 Close _ k h (record { of_kind = refl; no_run = refl }) (λ h.
    mark_step b 44 Comma _ k h (record { of_kind = refl; no_run = refl }) (λ h.
    mark_step b 58 Colon _ k h (record { of_kind = refl; no_run = refl }) (λ h.
    mark_step b 42 Star _ k h (record { of_kind = refl; no_run = refl }) (λ h.
    mark_step b 61 Equal None k h (record { of_kind = refl; no_run = refl }) (λ h. absurd (let no : None ≡ Some k = h in cc)))))))

-- a run's kind is true of it
run_is : (run : List ℕ) (k : TokenKind) → run_kind run ≡ Some k → IsOfKind k run × (is_run k ≡ true)
run_is run k h =
    ⊎_elim
    (λ p. subst (λ x. IsOfKind x run × (is_run x ≡ true)) (some_same Word k p.1) (p.0, refl))
    (λ p.
    ⊎_elim
    (λ q. subst (λ x. IsOfKind x run × (is_run x ≡ true)) (some_same Number k q.1) (q.0, refl))
    (λ q. absurd (let no : None ≡ Some k = q.1 in cc))
    (chosen (is_number run) (Some Number) None (Some k) p.1))
    (chosen (is_word run) (Some Word) (cond (is_number run) (Some Number) None) (Some k) h)

-- no mark, nor the `!` of `!=`, stands in a word or a number
name_byte_is_not : (b c : ℕ) → is_name_byte b ≡ true → is_name_byte c ≡ false → eqb b c ≡ false
name_byte_is_not b c name no_name = ne_eqb b c (λ same. false≢true (sym no_name ∙ ap is_name_byte (sym same) ∙ name))

no_mark : (b : ℕ) → is_name_byte b ≡ true → mark_of b ≡ None
no_mark b h =
    rw (name_byte_is_not b 40 h refl, name_byte_is_not b 41 h refl, name_byte_is_not b 44 h refl, name_byte_is_not b 58 h refl, name_byte_is_not b 42 h refl, name_byte_is_not b 61 h refl) refl

name_front : (bytes : List ℕ) → is_name_byte (get_or bytes 0 0) ≡ true → front_of bytes ≡ option_map {U = TokenKind × ℕ} (λ kind. (kind, length (take_while is_name_byte bytes))) (run_kind (take_while is_name_byte bytes))
name_front bytes h =
    cond-false (begins_unequal bytes) _ _ (and_left _ _ (name_byte_is_not (get_or bytes 0 0) 33 h refl))
    ∙ ap (λ mark. mark_or_run mark (take_while is_name_byte bytes)) (no_mark (get_or bytes 0 0) h)

-- a number's digits may stand in a word
name_digit : (b : ℕ) → is_ascii_digit b ≡ true → is_name_byte b ≡ true
name_digit b h = or_left _ _ (or_left _ _ (or_left (is_ascii_digit b) _ h))

name_digits : (ds : List ℕ) → list_all is_ascii_digit ds ≡ true → list_all is_name_byte ds ≡ true
name_digits [] h = refl
name_digits (d ∷ ds) h =
    let parts = and_parts (is_ascii_digit d) (list_all is_ascii_digit ds) h in
    and_from _ _ (name_digit d parts.0) (name_digits ds parts.1)

-- a run's bytes, of which there is one at least
pub record IsRun (run : List ℕ) : Type 0 where
  pub nonempty : 0 < length run
  pub names : list_all is_name_byte run ≡ true

word_run : (run : List ℕ) → is_word run ≡ true → IsRun run
word_run [] h = absurd (false≢true h)
word_run (b ∷ bs) h = record { nonempty = omega arith; names = (and_parts _ _ h).1 }

number_run : (run : List ℕ) → is_number run ≡ true → IsRun run
number_run [] h = absurd (false≢true h)
number_run (b ∷ bs) h = record { nonempty = omega arith; names = name_digits (b ∷ bs) (and_parts _ _ (and_parts _ _ h).0).1 }

-- no word is a number
digit_no_letter : (b : ℕ) → is_ascii_digit b ≡ true → is_ascii_alphabetic b ≡ false
digit_no_letter b h = grind (arith, nat_tests)

number_no_word : (run : List ℕ) → is_number run ≡ true → is_word run ≡ false
number_no_word [] h = refl
number_no_word (b ∷ bs) h =
    let digits = (and_parts _ _ (and_parts _ _ h).0).1 in
    and_left _ _ (and_left _ _ (digit_no_letter b (and_parts (is_ascii_digit b) (list_all is_ascii_digit bs) digits).0))

-- a run that goes on as far as it can is the longest
longest_run : (bytes : List ℕ) (n : ℕ) → n ≤ length bytes → IsRun (take n bytes) → (n < length bytes → is_name_byte (get_or bytes n 0) ≡ false) → prefix_len is_name_byte bytes ≡ n
longest_run bytes n within run stops =
    prefix_len_is is_name_byte bytes n 0 within
    (λ k h.
    let size = length-take-le n bytes within in
    subst (λ b. is_name_byte b ≡ true) (get_or-take n bytes k 0 h) (AllPass-from_list_all is_name_byte (take n bytes) run.names k 0 (omega arith)))
    stops

first_in_run : (bytes : List ℕ) (n : ℕ) → n ≤ length bytes → IsRun (take n bytes) → is_name_byte (get_or bytes 0 0) ≡ true
first_in_run bytes n within run =
    let size = length-take-le n bytes within in
    let some = run.nonempty in
    subst (λ b. is_name_byte b ≡ true) (get_or-take n bytes 0 0 (omega arith)) (AllPass-from_list_all is_name_byte (take n bytes) run.names 0 0 (omega arith))

run_front : (bytes : List ℕ) (kind : TokenKind) (n : ℕ) → n ≤ length bytes → IsRun (take n bytes) → (n < length bytes → is_name_byte (get_or bytes n 0) ≡ false) → run_kind (take n bytes) ≡ Some kind → front_of bytes ≡ Some (kind, n)
run_front bytes kind n within run stops is =
    let size = length-take-le n bytes within in
    let longest : prefix_len is_name_byte bytes ≡ n = longest_run bytes n within run stops in
    name_front bytes (first_in_run bytes n within run)
    ∙ subst (λ m. option_map {U = TokenKind × ℕ} (λ k. (k, length (take m bytes))) (run_kind (take m bytes)) ≡ Some (kind, n)) (sym longest)
    (subst (λ o. option_map {U = TokenKind × ℕ} (λ k. (k, length (take n bytes))) o ≡ Some (kind, n)) (sym is) (ap (λ m. Some (kind, m)) size))

-- what begins with a mark's byte
mark_front : (bytes : List ℕ) (b n : ℕ) (kind : TokenKind) → n ≤ length bytes → take n bytes ≡ b ∷ [] → eqb b 33 ≡ false → mark_of b ≡ Some kind → front_of bytes ≡ Some (kind, n)
mark_front bytes b n kind within text no_unequal mark =
    let size : length (take n bytes) ≡ n = length-take-le n bytes within in
    let one : n ≡ 1 = sym size ∙ ap length text in
    let first : get_or bytes 0 0 ≡ b = sym (get_or-take n bytes 0 0 (omega arith)) ∙ ap (λ xs. get_or xs 0 0) text in
    cond-false (begins_unequal bytes) _ _ (and_left _ _ (ap (λ x. eqb x 33) first ∙ no_unequal))
    ∙ ap (λ x. mark_or_run (mark_of x) (take_while is_name_byte bytes)) first
    ∙ ap (λ o. mark_or_run o (take_while is_name_byte bytes)) mark
    ∙ ap (λ m. Some (kind, m)) (sym one)

unequal_front : (bytes : List ℕ) (n : ℕ) → n ≤ length bytes → take n bytes ≡ 33 ∷ 61 ∷ [] → front_of bytes ≡ Some (Unequal, n)
unequal_front bytes n within text =
    let size : length (take n bytes) ≡ n = length-take-le n bytes within in
    let two : n ≡ 2 = sym size ∙ ap length text in
    let first : get_or bytes 0 0 ≡ 33 = sym (get_or-take n bytes 0 0 (omega arith)) ∙ ap (λ xs. get_or xs 0 0) text in
    let second : get_or bytes 1 0 ≡ 61 = sym (get_or-take n bytes 1 0 (omega arith)) ∙ ap (λ xs. get_or xs 1 0) text in
    cond-true (begins_unequal bytes) _ _ (and_from _ _ (ap (λ x. eqb x 33) first) (ap (λ x. eqb x 61) second))
    ∙ ap (λ m. Some (Unequal, m)) (sym two)

-- the token at the front is the one that `front_of` gives
pub front_given : (bytes : List ℕ) (kind : TokenKind) (n : ℕ) → n ≤ length bytes → IsOfKind kind (take n bytes) → (is_run kind ≡ true → n < length bytes → is_name_byte (get_or bytes n 0) ≡ false) → front_of bytes ≡ Some (kind, n)
front_given bytes Word n within of_kind stops =
    run_front bytes Word n within (word_run (take n bytes) of_kind) (stops refl) (cond-true _ _ _ of_kind)
front_given bytes Number n within of_kind stops =
    run_front bytes Number n within (number_run (take n bytes) of_kind) (stops refl) (cond-false _ _ _ (number_no_word (take n bytes) of_kind) ∙ cond-true _ _ _ of_kind)
front_given bytes Open n within of_kind stops = mark_front bytes 40 n Open within of_kind refl refl
front_given bytes Close n within of_kind stops = mark_front bytes 41 n Close within of_kind refl refl
front_given bytes Comma n within of_kind stops = mark_front bytes 44 n Comma within of_kind refl refl
front_given bytes Colon n within of_kind stops = mark_front bytes 58 n Colon within of_kind refl refl
front_given bytes Star n within of_kind stops = mark_front bytes 42 n Star within of_kind refl refl
front_given bytes Equal n within of_kind stops = mark_front bytes 61 n Equal within of_kind refl refl
front_given bytes Unequal n within of_kind stops = unequal_front bytes n within of_kind

-- and that one is a token
unequal_is : (bytes : List ℕ) → begins_unequal bytes ≡ true → IsFront bytes Unequal 2
unequal_is [] h = absurd (false≢true h)
unequal_is (b ∷ []) h = absurd (false≢true (and_parts _ _ h).1)
unequal_is (b ∷ c ∷ bs) h =
    let parts = and_parts (eqb b 33) (eqb c 61) h in
    let first = eqb-true b 33 parts.0 in
    let second = eqb-true c 61 parts.1 in
    record { within = omega arith; of_kind = cc; longest = λ run. absurd (false≢true run) }

mark_at_front : (bytes : List ℕ) (kind : TokenKind) → mark_of (get_or bytes 0 0) ≡ Some kind → IsFront bytes kind 1
mark_at_front [] kind h = absurd (let no : None ≡ Some kind = h in cc)
mark_at_front (b ∷ bs) kind h =
    let marks = mark_is b kind h in
    record { within = omega arith; of_kind = marks.of_kind; longest = λ run. absurd (false≢true (sym marks.no_run ∙ run)) }

run_at_front : (bytes : List ℕ) (kind : TokenKind) → run_kind (take_while is_name_byte bytes) ≡ Some kind → IsFront bytes kind (prefix_len is_name_byte bytes)
run_at_front bytes kind h = record {
  within = prefix_len-le-length is_name_byte bytes;
  of_kind = (run_is (take_while is_name_byte bytes) kind h).0;
  longest = λ run before_end. prefix_len_stops is_name_byte bytes 0 before_end;
}

-- a run that is found is the longest one
run_found : (bytes : List ℕ) (found : Option TokenKind) (kind : TokenKind) (n : ℕ) → run_kind (take_while is_name_byte bytes) ≡ found → option_map {U = TokenKind × ℕ} (λ k. (k, length (take_while is_name_byte bytes))) found ≡ Some (kind, n) → IsFront bytes kind n
run_found bytes None kind n is h = absurd (let no : ◌≡◌ {A = Option (TokenKind × ℕ)} None (Some (kind, n)) = h in cc)
run_found bytes (Some k) kind n is h =
    let same = some_pair_parts k kind (length (take_while is_name_byte bytes)) n h in
    let size = length-take-le (prefix_len is_name_byte bytes) bytes (prefix_len-le-length is_name_byte bytes) in
    subst (λ x. IsFront bytes x n) same.0 (subst (IsFront bytes k) (sym size ∙ same.1) (run_at_front bytes k is))

-- what `mark_or_run` gives, from the mark and the run
mark_or_run_is : (bytes : List ℕ) (mark : Option TokenKind) (kind : TokenKind) (n : ℕ) → mark_of (get_or bytes 0 0) ≡ mark → mark_or_run mark (take_while is_name_byte bytes) ≡ Some (kind, n) → IsFront bytes kind n
mark_or_run_is bytes (Some mark) kind n is h =
    let same = some_pair_parts mark kind 1 n h in
    subst (λ k. IsFront bytes k n) same.0 (subst (IsFront bytes mark) same.1 (mark_at_front bytes mark is))
mark_or_run_is bytes None kind n is h = run_found bytes (run_kind (take_while is_name_byte bytes)) kind n refl h

-- the token that `front_of` gives is at the front
pub front_is : (bytes : List ℕ) (kind : TokenKind) (n : ℕ) → front_of bytes ≡ Some (kind, n) → IsFront bytes kind n
front_is bytes kind n h =
    ⊎_elim
    (λ p.
    let same = some_pair_parts Unequal kind 2 n p.1 in
    subst (λ k. IsFront bytes k n) same.0 (subst (IsFront bytes Unequal) same.1 (unequal_is bytes p.0)))
    (λ p. mark_or_run_is bytes (mark_of (get_or bytes 0 0)) kind n refl p.1)
    (chosen (begins_unequal bytes) _ _ (Some (kind, n)) h)
