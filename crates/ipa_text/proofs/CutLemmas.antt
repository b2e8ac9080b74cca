-- How a cut grows, and that a line has one cut, or one bad byte.
use Rattle.std.proofs.Common.{◌≡◌, ℕ, suc, zero, inl, inr, ◌+◌, ◌-◌, ◌<◌, ◌≤◌, true, false, eqb, List, [], ◌∷◌, ◌++◌, length, get_or, drop, Option, None, Some, sym, refl, ap, ◌∙◌, subst, ⊎_elim, arith, get_or-drop, length-drop, add-zero}
use Rattle.std.specs.List.{prefix_len, take_while, All}
use Rattle.std.proofs.lemmas.List.Elements.{All-nil, All-cons}
use Rattle.std.proofs.lemmas.Bool.{or_cases, eqb-true, false_from_ne_true, false≢true, cases_order, cases_lt}
use Rattle.std.proofs.lemmas.Option.{some_pair_parts}
use Rattle.std.proofs.lemmas.List.{length-take-le, get_or_past}
use Rattle.std.proofs.lemmas.List.Sums.{prefix_len-le-length, prefix_len_passes, prefix_len_stops}
use Rattle.ipa_text.specs.Bytes.{is_blank}
use Rattle.ipa_text.specs.Tokens.{IsToken, StartsNoToken, AreBlanks, IsCut, IsCutInto, IsBadByte, HasAnswer}
use Rattle.ipa_text.specs.Fronts.{front_of, IsBlanksEnd}
use Rattle.ipa_text.specs.declared.tokens.Token.{Token}
use Rattle.ipa_text.specs.declared.tokens.TokenKind.{TokenKind}
use Rattle.ipa_text.proofs.TokenLemmas.{token_rises, front_of_token, token_at_front, none_at_front}

-- the blanks end behind as many as stand at the front of the rest
pub blanks_end_at : (line : List ℕ) (from : ℕ) → from ≤ length line → IsBlanksEnd line from (from + length (take_while is_blank (drop from line)))
blanks_end_at line from within =
    let rest = drop from line in
    let most = prefix_len-le-length is_blank rest in
    let size : length (take_while is_blank rest) ≡ prefix_len is_blank rest = length-take-le (prefix_len is_blank rest) rest most in
    let left : length rest ≡ length line - from = length-drop from line in
    subst (λ n. IsBlanksEnd line from (from + n)) (sym size) (record {
      blanks = record {
        ordered = omega arith;
        blank = λ k low high.
            let joined : from + (k - from) ≡ k = omega arith in
            subst (λ n. is_blank (get_or line n 0) ≡ true) joined (subst (λ b. is_blank b ≡ true) (get_or-drop from line (k - from) 0) (prefix_len_passes is_blank rest (k - from) 0 (omega arith)));
      };
      within = omega arith;
      stops = λ before_end. subst (λ b. is_blank b ≡ false) (get_or-drop from line (prefix_len is_blank rest) 0) (prefix_len_stops is_blank rest 0 (omega arith));
    })

-- what the loop keeps: the line is cut up to `at`, where no blank stands
pub record IsCutSoFar (line : List ℕ) (ts : List Token) (at : ℕ) : Type 0 where
  pub cut : IsCut line 0 ts at
  pub within : at ≤ length line
  pub stops : at < length line → is_blank (get_or line at 0) ≡ false

pub cut_none : (line : List ℕ) (at : ℕ) → IsBlanksEnd line 0 at → IsCutSoFar line [] at
cut_none line at end = record { cut = end.blanks; within = end.within; stops = end.stops }

-- a token at the end of a cut, and the blanks after it, make a longer cut
cut_push : (line : List ℕ) (from : ℕ) (ts : List Token) (t : Token) (to : ℕ) → IsCut line from ts t.start → IsToken line t → AreBlanks line t.end to → IsCut line from (ts ++ t ∷ []) to
cut_push line from [] t to cut token after = (cut, token, after)
cut_push line from (u ∷ ts) t to cut token after = (cut.0, cut.1, cut_push line u.end ts t to cut.2 token after)

pub cut_more : (line : List ℕ) (ts : List Token) (at : ℕ) (t : Token) (to : ℕ) → IsCutSoFar line ts at → t.start ≡ at → IsToken line t → IsBlanksEnd line t.end to → IsCutSoFar line (ts ++ t ∷ []) to
cut_more line ts at t to so_far starts token end = record {
  cut = cut_push line 0 ts t to (subst (IsCut line 0 ts) (sym starts) so_far.cut) token end.blanks;
  within = end.within;
  stops = end.stops;
}

pub cut_all : (line : List ℕ) (ts : List Token) (at : ℕ) → length line ≤ at → IsCutSoFar line ts at → IsCutInto line ts
cut_all line ts at past so_far =
    let within = so_far.within in
    let end : at ≡ length line = omega arith in
    subst (IsCut line 0 ts) end so_far.cut

-- each token of a cut is one of the line
tokens_of_cut : (line : List ℕ) (from : ℕ) (ts : List Token) (to : ℕ) → IsCut line from ts to → All (IsToken line) ts
tokens_of_cut line from [] to cut = All-nil (IsToken line)
tokens_of_cut line from (t ∷ ts) to cut = All-cons (IsToken line) t ts cut.1 (tokens_of_cut line t.end ts to cut.2)

pub cut_each : (line : List ℕ) (ts : List Token) → IsCutInto line ts → All (IsToken line) ts
cut_each line ts cut = tokens_of_cut line 0 ts (length line) cut

pub cut_bad : (line : List ℕ) (ts : List Token) (at : ℕ) → at < length line → IsCutSoFar line ts at → StartsNoToken line at → IsBadByte line at
cut_bad line ts at inside so_far none =
    record { before = ts; cut = so_far.cut; within = inside; not_blank = so_far.stops inside; no_token = none }

-- a blank is no token's first byte
blank_front : (bytes : List ℕ) → is_blank (get_or bytes 0 0) ≡ true → front_of bytes ≡ None
blank_front [] h = absurd (false≢true h)
blank_front (b ∷ bs) h =
    ⊎_elim
    (λ space. subst (λ x. front_of (x ∷ bs) ≡ None) (sym (eqb-true b 32 space)) refl)
    (λ tab. subst (λ x. front_of (x ∷ bs) ≡ None) (sym (eqb-true b 9 tab)) refl)
    (or_cases (eqb b 32) (eqb b 9) h)

-- where a cut can't go on: no blank is there, and no token
pub record IsStop (line : List ℕ) (at : ℕ) : Type 0 where
  pub not_blank : is_blank (get_or line at 0) ≡ false
  pub no_token : StartsNoToken line at

stop_at_end : (line : List ℕ) → IsStop line (length line)
stop_at_end line = record {
  not_blank = ap is_blank (get_or_past line (length line) 0 (omega arith));
  no_token = λ t starts token. let rises = token_rises line t token in let within = token.within in omega arith;
}

stop_at_bad : (line : List ℕ) (at : ℕ) → IsBadByte line at → IsStop line at
stop_at_bad line at bad = record { not_blank = bad.not_blank; no_token = bad.no_token }

token_not_blank : (line : List ℕ) (t : Token) → IsToken line t → is_blank (get_or line t.start 0) ≡ false
token_not_blank line t token =
    false_from_ne_true (is_blank (get_or line t.start 0)) (λ blank.
    let first : get_or (drop t.start line) 0 0 ≡ get_or line t.start 0 = get_or-drop t.start line 0 0 ∙ ap (λ n. get_or line n 0) (add-zero t.start) in
    let none = blank_front (drop t.start line) (ap is_blank first ∙ blank) in
    let no : ◌≡◌ {A = Option (TokenKind × ℕ)} None (Some (t.kind, t.end - t.start)) = sym none ∙ front_of_token line t token in
    cc)

-- two places behind the same blanks are one
same_place : (line : List ℕ) (from x y : ℕ) → AreBlanks line from x → AreBlanks line from y → is_blank (get_or line x 0) ≡ false → is_blank (get_or line y 0) ≡ false → x ≡ y
same_place line from x y to_x to_y at_x at_y =
    ⊎_elim
    (λ same. same)
    (λ apart.
    absurd (⊎_elim
    (λ below. false≢true (sym at_x ∙ to_y.blank x to_x.ordered below))
    (λ above. false≢true (sym at_y ∙ to_x.blank y to_y.ordered above))
    apart))
    (cases_order x y)

-- two tokens of one start are one
same_token : (line : List ℕ) (t u : Token) → t.start ≡ u.start → IsToken line t → IsToken line u → t ≡ u
same_token line t u starts is_t is_u =
    let found = subst (λ n. front_of (drop n line) ≡ Some (t.kind, t.end - t.start)) starts (front_of_token line t is_t) in
    let same = some_pair_parts t.kind u.kind (t.end - t.start) (u.end - u.start) (sym found ∙ front_of_token line u is_u) in
    let t_rises = token_rises line t is_t in
    let u_rises = token_rises line u is_u in
    let width = same.1 in
    let kind = same.0 in
    let end : t.end ≡ u.end = omega arith in
    λ i. record { start = starts i; end = end i; kind = kind i }

pub one_stop : (line : List ℕ) (from : ℕ) (ts us : List Token) (x y : ℕ) → IsStop line x → IsStop line y → IsCut line from ts x → IsCut line from us y → (ts ≡ us) × (x ≡ y)
one_stop line from [] [] x y stop_x stop_y to_x to_y = (refl, same_place line from x y to_x to_y stop_x.not_blank stop_y.not_blank)
one_stop line from [] (u ∷ us) x y stop_x stop_y to_x cut_y =
    absurd (stop_x.no_token u (same_place line from u.start x cut_y.0 to_x (token_not_blank line u cut_y.1) stop_x.not_blank) cut_y.1)
one_stop line from (t ∷ ts) [] x y stop_x stop_y cut_x to_y =
    absurd (stop_y.no_token t (same_place line from t.start y cut_x.0 to_y (token_not_blank line t cut_x.1) stop_y.not_blank) cut_x.1)
one_stop line from (t ∷ ts) (u ∷ us) x y stop_x stop_y cut_x cut_y =
    let starts = same_place line from t.start u.start cut_x.0 cut_y.0 (token_not_blank line t cut_x.1) (token_not_blank line u cut_y.1) in
    let same = same_token line t u starts cut_x.1 cut_y.1 in
    let rest = one_stop line t.end ts us x y stop_x stop_y cut_x.2 (subst (λ v. IsCut line v us y) (ap (λ v. v.end) (sym same)) cut_y.2) in
    (λ i. same i ∷ rest.0 i, rest.1)

pub one_cut : (line : List ℕ) (ts us : List Token) → IsCutInto line ts → IsCutInto line us → ts ≡ us
one_cut line ts us first second = (one_stop line 0 ts us (length line) (length line) (stop_at_end line) (stop_at_end line) first second).0

pub one_bad_byte : (line : List ℕ) (at other : ℕ) → IsBadByte line at → IsBadByte line other → at ≡ other
one_bad_byte line at other first second =
    (one_stop line 0 first.before second.before at other (stop_at_bad line at first) (stop_at_bad line other second) first.cut second.cut).1

pub cut_or_bad : (line : List ℕ) (ts : List Token) (at : ℕ) → IsCutInto line ts → IsBadByte line at → ⊥
cut_or_bad line ts at cut bad =
    let end = (one_stop line 0 ts bad.before (length line) at (stop_at_end line) (stop_at_bad line at bad) cut bad.cut).1 in
    let inside = bad.within in
    omega arith

-- one step from a cut so far: the token at the front and the blanks after it, or a bad byte
answer_at : (line : List ℕ) (at : ℕ) (ts : List Token) → IsCutSoFar line ts at → at < length line → ((to : ℕ) (us : List Token) → at < to → IsCutSoFar line us to → HasAnswer line) → (front : Option (TokenKind × ℕ)) → front_of (drop at line) ≡ front → HasAnswer line
answer_at line at ts so_far inside next None is = inr (at, cut_bad line ts at inside so_far (none_at_front line at is))
answer_at line at ts so_far inside next (Some front) is =
    let t : Token = record { start = at; end = at + front.1; kind = front.0 } in
    let within = so_far.within in
    let token : IsToken line t = token_at_front line at front.1 front.0 within is in
    let rises : at < at + front.1 = token_rises line t token in
    let to : ℕ = t.end + length (take_while is_blank (drop t.end line)) in
    next to (ts ++ t ∷ []) (omega arith) (cut_more line ts at t to so_far refl token (blanks_end_at line t.end token.within))

-- from a cut so far on, the line goes on to its end or to a bad byte
answer_from : (line : List ℕ) (fuel at : ℕ) (ts : List Token) → length line ≤ at + fuel → IsCutSoFar line ts at → HasAnswer line
answer_from line zero at ts enough so_far = inl (ts, cut_all line ts at (omega arith) so_far)
answer_from line (suc fuel) at ts enough so_far =
    ⊎_elim
    (λ inside. answer_at line at ts so_far inside (λ to us rises later. answer_from line fuel to us (omega arith) later) (front_of (drop at line)) refl)
    (λ past. inl (ts, cut_all line ts at past so_far))
    (cases_lt at (length line))

pub has_answer : (line : List ℕ) → HasAnswer line
has_answer line =
    let to : ℕ = 0 + length (take_while is_blank (drop 0 line)) in
    answer_from line (length line) to [] (omega arith) (cut_none line to (blanks_end_at line 0 (omega arith)))
