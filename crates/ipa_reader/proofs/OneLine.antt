-- A line is read in one way, and refused in one.
--
--   AreOne          a text has no two cuts, no cut beside a bad byte, and no two forms
--   says_one        the form that a text says
--   refused_one     a line's refusal, given what stands before it
--   said_one        the forms that lines say
--   no_refusal      a line among those that are accepted is not refused
use Rattle.std.proofs.Common.{◌≡◌, ℕ, false, true, List, [], ◌∷◌, length, take, Some, None, refl, sym, ap, subst, ◌∙◌, zero, suc}
use Rattle.std.specs.List.{slice_get}
use Rattle.std.proofs.lemmas.Bool.{false≢true}
use Rattle.std.proofs.lemmas.Option.{same_Some}
use Rattle.ipa_text.specs.Lines.{line_text}
use Rattle.ipa_text.specs.Tokens.{IsCutInto, IsBadByte}
use Rattle.ipa_text.specs.declared.numbering.Line.{Line}
use Rattle.ipa_text.specs.declared.tokens.Token.{Token}
use Rattle.ipa_forms.specs.Forms.{HasForm, is_existential}
use Rattle.ipa_forms.specs.declared.forms.Form.{Form}
use Rattle.ipa_reader.specs.Standings.{standing_of}
use Rattle.ipa_reader.specs.Refusals.{refusal_at}
use Rattle.ipa_reader.specs.Documents.{Says, SayEach, AreAccepted, IsExistentialText, IsFormless, IsUnread, IsRefusedLine}
use Rattle.ipa_reader.specs.Documents.IsRefusedLine.{unread, refused}
use Rattle.ipa_reader.specs.declared.standing.Standing.{Standing}
use Rattle.ipa_reader.specs.declared.refusals.DocKind.{DocKind}
use Rattle.ipa_reader.specs.declared.refusals.DocKind.TheVariants.{BadByte, Existential, BadLine, Spec, Order, UnknownElement, SetupLimit, BaseClause, BaseOver}

pub record AreOne : Type 0 where
  pub tokens : (line : List ℕ) (tokens others : List Token) → IsCutInto line tokens → IsCutInto line others → tokens ≡ others
  pub apart : (line : List ℕ) (tokens : List Token) (at : ℕ) → IsCutInto line tokens → IsBadByte line at → ⊥
  pub forms : (line : List ℕ) (ts : List Token) (f g : Form) → HasForm line ts f → HasForm line ts g → f ≡ g

-- why a text is unread, by its kind
data Unread (text : List ℕ) (kind : DocKind) : Type 0 where
  byte : (at : ℕ) → IsBadByte text at → kind ≡ BadByte → Unread text kind
  existential : IsExistentialText text → kind ≡ Existential → Unread text kind
  formless : IsFormless text → kind ≡ BadLine → Unread text kind

cause : (text : List ℕ) (kind : DocKind) → IsUnread text kind → Unread text kind
cause text BadByte h = byte h.0 h.1 refl
cause text Existential h = existential h refl
cause text BadLine h = formless h refl
cause text (Spec fault) h = absurd h
cause text Order h = absurd h
cause text UnknownElement h = absurd h
cause text (SetupLimit which found) h = absurd h
cause text (BaseClause broken clause elements) h = absurd h
cause text (BaseOver n name) h = absurd h

module _ (one : AreOne) where
  pub says_one : (text : List ℕ) (f g : Form) → Says text f → Says text g → f ≡ g
  says_one text f g a b = one.forms text a.tokens f g a.form_is (subst (λ ts. HasForm text ts g) (one.tokens text b.tokens a.tokens b.cut a.cut) b.form_is)

  -- what is cut into words without `exists` is no existential clause
  plain_only : (text : List ℕ) (tokens : List Token) → IsCutInto text tokens → is_existential text tokens ≡ false → IsExistentialText text → ⊥
  plain_only text tokens cut plain h = false≢true (sym plain ∙ subst (λ ts. is_existential text ts ≡ true) (one.tokens text h.tokens tokens h.cut cut) h.existential)

  unread_one : (text : List ℕ) (kind other : DocKind) → Unread text kind → Unread text other → kind ≡ other
  unread_one text kind other (byte at h e) (byte to g d) = e ∙ sym d
  unread_one text kind other (byte at h e) (existential g d) = absurd (one.apart text g.tokens at g.cut h)
  unread_one text kind other (byte at h e) (formless g d) = absurd (one.apart text g.tokens at g.cut h)
  unread_one text kind other (existential h e) (byte at g d) = absurd (one.apart text h.tokens at h.cut g)
  unread_one text kind other (existential h e) (existential g d) = e ∙ sym d
  unread_one text kind other (existential h e) (formless g d) = absurd (plain_only text g.tokens g.cut g.plain h)
  unread_one text kind other (formless h e) (byte at g d) = absurd (one.apart text h.tokens at h.cut g)
  unread_one text kind other (formless h e) (existential g d) = absurd (plain_only text h.tokens h.cut h.plain g)
  unread_one text kind other (formless h e) (formless g d) = e ∙ sym d

  -- what says a form is read
  unsaid : (text : List ℕ) (form : Form) (kind : DocKind) → Says text form → Unread text kind → ⊥
  unsaid text form kind a (byte at h e) = one.apart text a.tokens at a.cut h
  unsaid text form kind a (existential h e) = plain_only text a.tokens a.cut a.plain h
  unsaid text form kind a (formless h e) = h.formless form (subst (λ ts. HasForm text ts form) (one.tokens text a.tokens h.tokens a.cut h.cut) a.form_is)

  pub refused_one : (s : Standing) (text : List ℕ) (kind other : DocKind) → IsRefusedLine s text kind → IsRefusedLine s text other → kind ≡ other
  refused_one s text kind other (unread a) (unread b) = unread_one text kind other (cause text kind a) (cause text other b)
  refused_one s text kind other (unread a) (refused b) = absurd (unsaid text b.form kind b.says (cause text kind a))
  refused_one s text kind other (refused a) (unread b) = absurd (unsaid text a.form other a.says (cause text other b))
  refused_one s text kind other (refused a) (refused b) =
      same_Some kind other (sym a.refused ∙ ap (refusal_at s) (says_one text a.form b.form a.says b.says) ∙ b.refused)

  accepted_only : (s : Standing) (text : List ℕ) (form : Form) (kind : DocKind) → Says text form → refusal_at s form ≡ None → IsRefusedLine s text kind → ⊥
  accepted_only s text form kind says accepted (unread a) = unsaid text form kind says (cause text kind a)
  accepted_only s text form kind says accepted (refused a) =
      let both : None ≡ Some kind = sym accepted ∙ ap (refusal_at s) (says_one text form a.form says a.says) ∙ a.refused in
      cc

  pub said_one : (bytes : List ℕ) (lines : List Line) (forms others : List Form) → SayEach bytes lines forms → SayEach bytes lines others → forms ≡ others
  said_one bytes [] [] [] h g = refl
  said_one bytes [] [] (y ∷ ys) h g = absurd g
  said_one bytes [] (x ∷ xs) ys h g = absurd h
  said_one bytes (l ∷ ls) [] ys h g = absurd h
  said_one bytes (l ∷ ls) (x ∷ xs) [] h g = absurd g
  said_one bytes (l ∷ ls) (x ∷ xs) (y ∷ ys) h g =
      let first : x ≡ y = says_one (line_text bytes l) x y h.0 g.0 in
      let later : xs ≡ ys = said_one bytes ls xs ys h.1 g.1 in
      λ i. first i ∷ later i

  said_take : (bytes : List ℕ) (n : ℕ) (lines : List Line) (forms : List Form) → SayEach bytes lines forms → SayEach bytes (take n lines) (take n forms)
  said_take bytes zero lines forms h = tt
  said_take bytes (suc n) [] [] h = tt
  said_take bytes (suc n) [] (x ∷ xs) h = absurd h
  said_take bytes (suc n) (l ∷ ls) [] h = absurd h
  said_take bytes (suc n) (l ∷ ls) (x ∷ xs) h = (h.0, said_take bytes n ls xs h.1)

  said_at : (bytes : List ℕ) (n : ℕ) (line : Line) (lines : List Line) (forms : List Form) → SayEach bytes lines forms → slice_get lines n ≡ Some line → (form : Form) × (slice_get forms n ≡ Some form) × Says (line_text bytes line) form
  said_at bytes n line [] forms h e = cc
  said_at bytes n line (l ∷ ls) [] h e = absurd h
  said_at bytes zero line (l ∷ ls) (x ∷ xs) h e = (x, refl, subst (λ z. Says (line_text bytes z) x) (same_Some l line e) h.0)
  said_at bytes (suc n) line (l ∷ ls) (x ∷ xs) h e = said_at bytes n line ls xs h.1 e

  pub no_refusal : (bytes : List ℕ) (lines : List Line) (forms before : List Form) (line : Line) (kind : DocKind) → SayEach bytes lines forms → AreAccepted forms → SayEach bytes (take (length before) lines) before → slice_get lines (length before) ≡ Some line → IsRefusedLine (standing_of before) (line_text bytes line) kind → ⊥
  no_refusal bytes lines forms before line kind said accepted front here why =
      let at = said_at bytes (length before) line lines forms said here in
      let same : take (length before) forms ≡ before = said_one bytes (take (length before) lines) (take (length before) forms) before (said_take bytes (length before) lines forms said) front in
      accepted_only (standing_of before) (line_text bytes line) at.0 kind at.2 (subst (λ fs. refusal_at (standing_of fs) at.0 ≡ None) same (accepted.each (length before) at.0 at.1)) why
