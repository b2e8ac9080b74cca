-- Parts with separators between them, read from the front.
--
--   followed said between xs   the words of xs, each with the separator behind it
use Rattle.std.proofs.Common.{◌≡◌, List, [], ◌∷◌, ◌++◌, refl, sym, ap, ◌∙◌, append_assoc, append-nil, arith, length-append}
use Rattle.std.specs.List.{flat_map, join_by}
use Rattle.ipa_forms.specs.Words.{Word}
use Rattle.ipa_forms.specs.Parts.{IsJoined, IsUnmixed, HasNone, Lacks}

abbrev pub followed : {A : Type 0} → (A → List Word) → Word → List A → List Word
followed said between xs = flat_map (λ x. said x ++ between ∷ []) xs

module _ {A : Type 0} (said : A → List Word) (between : Word) where
  -- the later parts, each with the separator before it
  abbrev led : List A → List Word
  led xs = flat_map (λ x. (between ∷ []) ++ said x) xs

  regroup : (x : A) (xs : List A) (after : List Word) →
      followed said between (x ∷ xs) ++ after ≡ said x ++ (between ∷ (followed said between xs ++ after))
  regroup x xs after =
      append_assoc (said x ++ between ∷ []) (followed said between xs) after ∙ append_assoc (said x) (between ∷ []) (followed said between xs ++ after)

  -- a separator and the parts that were read, and a last one
  before_last : (xs : List A) (x : A) → between ∷ (followed said between xs ++ said x) ≡ led (xs ++ x ∷ [])
  before_last [] x = ap (λ t. between ∷ t) (sym (append-nil (said x)))
  before_last (y ∷ ys) x = ap (λ t. between ∷ t) (regroup y ys (said x) ∙ ap (λ t. said y ++ t) (before_last ys x))

  -- the parts that were read, and a last one
  join_by-push : (xs : List A) (x : A) → followed said between xs ++ said x ≡ join_by said (between ∷ []) (xs ++ x ∷ [])
  join_by-push [] x = sym (append-nil (said x))
  join_by-push (y ∷ ys) x = regroup y ys (said x) ∙ ap (λ t. said y ++ t) (before_last ys x)

  pub IsJoined-push : (all left : List Word) (xs : List A) (x : A) →
      all ≡ followed said between xs ++ (said x ++ left) → Lacks between left →
      IsJoined said between all (xs ++ x ∷ []) left
  IsJoined-push all left xs x e ended = record {
    some = omega (arith, length-append xs (x ∷ []));
    words_are =
        e ∙ sym (append_assoc (followed said between xs) (said x) left) ∙ ap (λ t. t ++ left) (join_by-push xs x);
    ended = ended;
  }

  -- no further part stands where one has to
  pub none_joined : IsUnmixed said → (xs : List A) (all w : List Word) → all ≡ followed said between xs ++ w →
      HasNone said w → (ys : List A) (left : List Word) → IsJoined said between all ys left → ⊥
  none_joined unmixed [] all w e none [] left h = omega (arith, h.some)
  none_joined unmixed [] all w e none (y ∷ ys) left h =
      none y (led ys ++ left) (sym e ∙ h.words_are ∙ append_assoc (said y) (led ys) left)
  none_joined unmixed (x ∷ xs) all w e none [] left h = omega (arith, h.some)
  none_joined unmixed (x ∷ xs) all w e none (y ∷ []) left h =
      let cut = unmixed x y (between ∷ (followed said between xs ++ w)) left (sym (regroup x xs w) ∙ sym e ∙ h.words_are ∙ append_assoc (said y) [] left) in
      h.ended (followed said between xs ++ w) (sym cut.1)
  none_joined unmixed (x ∷ xs) all w e none (y ∷ z ∷ zs) left h =
      let cut = unmixed x y (between ∷ (followed said between xs ++ w)) (led (z ∷ zs) ++ left) (sym (regroup x xs w) ∙ sym e ∙ h.words_are ∙ append_assoc (said y) (led (z ∷ zs)) left) in
      let same : followed said between xs ++ w ≡ join_by said (between ∷ []) (z ∷ zs) ++ left = cc in
      none_joined unmixed xs (followed said between xs ++ w) w refl none (z ∷ zs) left (record { some = omega arith; words_are = same; ended = h.ended })

  -- such parts are cut from the front in one way
  pub joined_once : IsUnmixed said → (xs ys : List A) (all after before : List Word) →
      IsJoined said between all xs after → IsJoined said between all ys before →
      (join_by said (between ∷ []) xs ≡ join_by said (between ∷ []) ys) × (after ≡ before)
  joined_once unmixed [] ys all after before h k = absurd (omega (arith, h.some))
  joined_once unmixed (x ∷ xs) [] all after before h k = absurd (omega (arith, k.some))
  joined_once unmixed (x ∷ []) (y ∷ []) all after before h k =
      let cut = unmixed x y after before (sym (append_assoc (said x) [] after) ∙ sym h.words_are ∙ k.words_are ∙ append_assoc (said y) [] before) in
      (ap (λ t. t ++ []) cut.0, cut.1)
  joined_once unmixed (x ∷ []) (y ∷ z ∷ zs) all after before h k =
      let cut = unmixed x y after (led (z ∷ zs) ++ before) (sym (append_assoc (said x) [] after) ∙ sym h.words_are ∙ k.words_are ∙ append_assoc (said y) (led (z ∷ zs)) before) in
      absurd (h.ended _ cut.1)
  joined_once unmixed (x ∷ w ∷ ws) (y ∷ []) all after before h k =
      let cut = unmixed x y (led (w ∷ ws) ++ after) before (sym (append_assoc (said x) (led (w ∷ ws)) after) ∙ sym h.words_are ∙ k.words_are ∙ append_assoc (said y) [] before) in
      absurd (k.ended _ (sym cut.1))
  joined_once unmixed (x ∷ w ∷ ws) (y ∷ z ∷ zs) all after before h k =
      let cut = unmixed x y (led (w ∷ ws) ++ after) (led (z ∷ zs) ++ before) (sym (append_assoc (said x) (led (w ∷ ws)) after) ∙ sym h.words_are ∙ k.words_are ∙ append_assoc (said y) (led (z ∷ zs)) before) in
      let same : join_by said (between ∷ []) (w ∷ ws) ++ after ≡ join_by said (between ∷ []) (z ∷ zs) ++ before = cc in
      let later = joined_once unmixed (w ∷ ws) (z ∷ zs) (join_by said (between ∷ []) (w ∷ ws) ++ after) after before (record { some = omega arith; words_are = refl; ended = h.ended }) (record { some = omega arith; words_are = same; ended = k.ended }) in
      (cc (cut.0, later.0), later.1)
