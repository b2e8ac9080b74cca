-- Walks along a list: what has been found of the items so far.
use Rattle.std.proofs.Common.{◌≡◌, ℕ, ◌+◌, ◌<◌, ◌≤◌, List, length, sym, ◌∙◌, ap, subst, arith, Some, slice_get, inl, inr, get_or}
use Rattle.std.proofs.lemmas.Bool.{cases_lt}
use Rattle.std.proofs.lemmas.Option.{slice_get-get_or, slice_get_within}
use Rattle.ipa_history.specs.Histories.{IsMember}
use Rattle.ipa_gate.specs.Fronts.{UpTo}

-- and of one more
pub one_more : {X : Type 0} (P : X → Type 0) (items : List X) (k : ℕ) (d : X) → k < length items →
    P (get_or items k d) → UpTo P items k → UpTo P items (k + 1)
one_more P items k d inside here before j x l at = elim (cases_lt j k) [
  | inl less ↦ before j x less at
  | inr last ↦
      let same : j ≡ k = omega (arith, l, last) in
      let both : Some (get_or items k d) ≡ Some x = sym (slice_get-get_or items k d inside)
      ∙ (ap (slice_get items) (sym same) ∙ at) in
      let equal : get_or items k d ≡ x = cc in
      subst P equal here
]

module _ {X : Type 0} (h items : List X) (k : ℕ) (same : items ≡ h) where
  -- an item of the list that the walk goes along
  pub item_at : (d : X) → k < length items → slice_get h k ≡ Some (get_or items k d)
  item_at d inside = ap (λ (xs : List X). slice_get xs k) (sym same) ∙ slice_get-get_or items k d inside

  module _ {P : X → Type 0} where
    -- it holds of the earlier items
    pub earlier : UpTo P items k → (j : ℕ) (x : X) → j < k → slice_get h j ≡ Some x → P x
    earlier before j x l at = before j x l (ap (λ (xs : List X). slice_get xs j) same ∙ at)

    -- and of all at the end
    pub each_member : length items ≤ k → UpTo P items k → (x : X) → IsMember h x → P x
    each_member past before x m =
        let at : slice_get items m.place ≡ Some x = ap (λ (xs : List X). slice_get xs m.place) same ∙ m.at in
        let inside = slice_get_within items m.place x at in
        before m.place x (omega (arith, inside, past)) at
