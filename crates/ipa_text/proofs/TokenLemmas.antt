-- A token of a line is the token at the front of what the line has from its start on.
use Rattle.std.proofs.Common.{◌≡◌, ℕ, ◌+◌, ◌-◌, ◌<◌, ◌≤◌, List, [], ◌∷◌, length, get_or, take, drop, Option, None, Some, sym, ap, ◌∙◌, subst, arith, get_or-drop, length-drop, length-take}
use Rattle.std.proofs.lemmas.Bool.{false≢true}
use Rattle.ipa_text.specs.Bytes.{is_name_byte}
use Rattle.ipa_text.specs.Tokens.{IsOfKind, IsToken, StartsNoToken, text_of}
use Rattle.ipa_text.specs.Fronts.{front_of}
use Rattle.ipa_text.specs.declared.tokens.Token.{Token}
use Rattle.ipa_text.specs.declared.tokens.TokenKind.{TokenKind}
use Rattle.ipa_text.specs.declared.tokens.TokenKind.TheVariants.{Word, Number, Open, Close, Comma, Colon, Star, Equal, Unequal}
use Rattle.ipa_text.proofs.FrontLemmas.{front_given, front_is}

-- every kind's bytes are at least one
kind_nonempty : (kind : TokenKind) (text : List ℕ) → IsOfKind kind text → 0 < length text
kind_nonempty Word [] h = absurd (false≢true h)
kind_nonempty Number [] h = absurd (false≢true h)
kind_nonempty Open [] h = cc
kind_nonempty Close [] h = cc
kind_nonempty Comma [] h = cc
kind_nonempty Colon [] h = cc
kind_nonempty Star [] h = cc
kind_nonempty Equal [] h = cc
kind_nonempty Unequal [] h = cc
kind_nonempty _ (b ∷ bs) h = omega arith

-- a token has a byte
pub token_rises : (line : List ℕ) (t : Token) → IsToken line t → t.start < t.end
token_rises line t token =
    let some = kind_nonempty t.kind (text_of line t) token.of_kind in
    let ordered = token.ordered in
    let left = length-drop t.start line in
    let most = length-take (t.end - t.start) (drop t.start line) in
    omega arith

-- the token at the front, from the token
pub front_of_token : (line : List ℕ) (t : Token) → IsToken line t → front_of (drop t.start line) ≡ Some (t.kind, t.end - t.start)
front_of_token line t token =
    let rises = token_rises line t token in
    let within = token.within in
    let size = length-drop t.start line in
    let joined : t.start + (t.end - t.start) ≡ t.end = omega arith in
    front_given (drop t.start line) t.kind (t.end - t.start) (omega arith) token.of_kind
    (λ run before_end. ap is_name_byte (get_or-drop t.start line (t.end - t.start) 0 ∙ ap (λ n. get_or line n 0) joined) ∙ token.longest run (omega arith))

-- and the token, from the one at the front
pub token_at_front : (line : List ℕ) (at n : ℕ) (kind : TokenKind) → at ≤ length line → front_of (drop at line) ≡ Some (kind, n) → IsToken line (record { start = at; end = at + n; kind = kind })
token_at_front line at n kind within h =
    let front = front_is (drop at line) kind n h in
    let fits = front.within in
    let size = length-drop at line in
    let width : at + n - at ≡ n = omega arith in
    record {
      ordered = omega arith;
      within = omega arith;
      of_kind = subst (λ m. IsOfKind kind (take m (drop at line))) (sym width) front.of_kind;
      longest = λ run before_end. ap is_name_byte (sym (get_or-drop at line n 0)) ∙ front.longest run (omega arith);
    }

pub none_at_front : (line : List ℕ) (at : ℕ) → front_of (drop at line) ≡ None → StartsNoToken line at
none_at_front line at none t starts token =
    let found = subst (λ n. front_of (drop n line) ≡ Some (t.kind, t.end - t.start)) starts (front_of_token line t token) in
    let no : ◌≡◌ {A = Option (TokenKind × ℕ)} None (Some (t.kind, t.end - t.start)) = sym none ∙ found in
    cc
