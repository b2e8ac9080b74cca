-- Parts in parentheses, read from the front.
use Rattle.std.proofs.Common.{◌≡◌, List, [], ◌∷◌, ◌++◌, refl, sym, ap, ◌∙◌, append_assoc, arith}
use Rattle.std.specs.List.{flat_map, join_by}
use Rattle.ipa_text.specs.declared.tokens.TokenKind.TheVariants.{Open, Close, Comma}
use Rattle.ipa_forms.specs.Words.{Word, sign}
use Rattle.ipa_forms.specs.Forms.{listed}
use Rattle.ipa_forms.specs.Parts.{HasNone, IsJoined, IsOpen, IsUnmixed, Lacks}
use Rattle.ipa_forms.specs.JoiningLaws.{joined_once}

module _ {A : Type 0} (said : A → List Word) where
  -- what stands behind the opening sign
  behind_open : (rest : List Word) (xs : List A) (left : List Word) → sign Open ∷ rest ≡ listed said xs ++ left →
      rest ≡ join_by said (sign Comma ∷ []) xs ++ (sign Close ∷ left)
  behind_open rest xs left e =
      let tail : rest ≡ (join_by said (sign Comma ∷ []) xs ++ sign Close ∷ []) ++ left = cc in
      tail ∙ append_assoc (join_by said (sign Comma ∷ []) xs) (sign Close ∷ []) left

  -- parts with commas, up to the closing sign
  closed : (rest : List Word) (x : A) (xs : List A) (left : List Word) →
      rest ≡ join_by said (sign Comma ∷ []) (x ∷ xs) ++ (sign Close ∷ left) →
      IsJoined said (sign Comma) rest (x ∷ xs) (sign Close ∷ left)
  closed rest x xs left e = record {
    some = omega arith;
    words_are = e;
    ended = λ later h. absurd (cc);
  }

  none_inside : (rest : List Word) → Lacks (sign Close) rest →
      ((xs : List A) (left : List Word) → IsJoined said (sign Comma) rest xs left → ⊥) →
      (xs : List A) (left : List Word) → rest ≡ join_by said (sign Comma ∷ []) xs ++ (sign Close ∷ left) → ⊥
  none_inside rest lacks none [] left e = lacks left e
  none_inside rest lacks none (x ∷ xs) left e = none (x ∷ xs) (sign Close ∷ left) (closed rest x xs left e)

  -- where no part stands and no closing sign, there is no list
  pub none_listed : (all rest : List Word) → all ≡ sign Open ∷ rest → Lacks (sign Close) rest →
      ((xs : List A) (left : List Word) → IsJoined said (sign Comma) rest xs left → ⊥) → HasNone (listed said) all
  none_listed all rest e lacks none xs left h =
      none_inside rest lacks none xs left (behind_open rest xs left (sym e ∙ h))

  not_inside : IsUnmixed said → (rest after : List Word) (xs : List A) → Lacks (sign Close) rest →
      IsJoined said (sign Comma) rest xs after → Lacks (sign Close) after → (ys : List A) (left : List Word) →
      rest ≡ join_by said (sign Comma ∷ []) ys ++ (sign Close ∷ left) → ⊥
  not_inside unmixed rest after xs lacks joined ended [] left e = lacks left e
  not_inside unmixed rest after xs lacks joined ended (y ∷ ys) left e =
      ended left ((joined_once said (sign Comma) unmixed xs (y ∷ ys) rest after (sign Close ∷ left) joined (closed rest y ys left e)).1)

  -- where the parts end without a closing sign, there is no list
  pub none_closed : IsUnmixed said → (all rest after : List Word) (xs : List A) → all ≡ sign Open ∷ rest →
      Lacks (sign Close) rest → IsJoined said (sign Comma) rest xs after → Lacks (sign Close) after →
      HasNone (listed said) all
  none_closed unmixed all rest after xs e lacks joined ended ys left h =
      not_inside unmixed rest after xs lacks joined ended ys left (behind_open rest ys left (sym e ∙ h))

  pub same_inside : IsUnmixed said → IsOpen said → (xs ys : List A) (after before : List Word) → join_by said (sign Comma ∷ []) xs ++ (sign Close ∷ after) ≡ join_by said (sign Comma ∷ []) ys ++ (sign Close ∷ before) → (join_by said (sign Comma ∷ []) xs ≡ join_by said (sign Comma ∷ []) ys) × (after ≡ before)
  same_inside unmixed opens [] [] after before e = (refl, cc)
  same_inside unmixed opens [] (y ∷ ys) after before e =
      absurd (opens y _ after (sym (append_assoc (said y) (flat_map (λ x. (sign Comma ∷ []) ++ said x) ys) (sign Close ∷ before)) ∙ sym e))
  same_inside unmixed opens (x ∷ xs) [] after before e =
      absurd (opens x _ before (sym (append_assoc (said x) (flat_map (λ y. (sign Comma ∷ []) ++ said y) xs) (sign Close ∷ after)) ∙ e))
  same_inside unmixed opens (x ∷ xs) (y ∷ ys) after before e =
      let once = joined_once said (sign Comma) unmixed (x ∷ xs) (y ∷ ys) (join_by said (sign Comma ∷ []) (x ∷ xs) ++ (sign Close ∷ after)) (sign Close ∷ after) (sign Close ∷ before) (closed _ x xs after refl) (closed _ y ys before e) in
      (once.0, cc (once.1))

  -- where a list ends is seen from the words before
  pub IsUnmixed-listed : IsUnmixed said → IsOpen said → IsUnmixed (listed said)
  IsUnmixed-listed unmixed opens xs ys after before e =
      let tail : (join_by said (sign Comma ∷ []) xs ++ sign Close ∷ []) ++ after ≡ (join_by said (sign Comma ∷ []) ys ++ sign Close ∷ []) ++ before = cc in
      let same = same_inside unmixed opens xs ys after before (sym (append_assoc (join_by said (sign Comma ∷ []) xs) (sign Close ∷ []) after) ∙ tail ∙ append_assoc (join_by said (sign Comma ∷ []) ys) (sign Close ∷ []) before) in
      (ap (λ t. sign Open ∷ t ++ sign Close ∷ []) same.0, same.1)
