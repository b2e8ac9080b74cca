-- The fronts of a history.
--
--   front_none       the front of no places is empty
--   history_front    a front of a history is one
--   history_next     a front of it with the next transaction is one
use Rattle.std.proofs.Common.{◌≡◌, ℕ, zero, suc, ◌+◌, ◌<◌, List, [], ◌∷◌, ◌++◌, length, take, get_or, slice_get, Some, None, refl, sym, ◌∙◌, ap, subst, arith}
use Rattle.std.proofs.lemmas.List.{length-take, take_more}
use Rattle.ipa_history.specs.Histories.{IsHistory, StandsIn, number_of}
use Rattle.ipa_history.specs.HistoryLaws.{member-take}
use Rattle.ipa_history.specs.declared.history.Tx.{Tx}

-- what stands in a front
front_at : (k : ℕ) (h : List Tx) (j : ℕ) (t : Tx) → slice_get (take k h) j ≡ Some t → (j < k) × (slice_get h j ≡ Some t)
front_at zero h j t e = absurd (let none : None ≡ Some t = e in cc)
front_at (suc k) [] j t e = absurd (let none : None ≡ Some t = e in cc)
front_at (suc k) (x ∷ xs) zero t e = (omega arith, e)
front_at (suc k) (x ∷ xs) (suc j) t e = let rest = front_at k xs j t e in (omega (arith, rest.0), rest.1)

-- the front of no places
pub front_none : (h : List Tx) → [] ≡ take 0 h
front_none [] = refl
front_none (x ∷ xs) = refl

-- a front of a front
take_front : (j k : ℕ) (h : List Tx) → j < k → take j (take k h) ≡ take j h
take_front zero k h l = refl
take_front (suc j) zero h l = absurd (omega arith)
take_front (suc j) (suc k) [] l = refl
take_front (suc j) (suc k) (x ∷ xs) l = ap (λ (ys : List Tx). x ∷ ys) (take_front j k xs (omega arith))

module _ (h : List Tx) (is : IsHistory h) where
  -- a front of a history is one
  pub history_front : (k : ℕ) → IsHistory (take k h)
  history_front k = record {
    few = let few = is.few in let sized = length-take k h in omega (arith, few, sized);
    origins = λ t m. is.origins t (member-take k h t m);
    numbers = λ j t e.
        let at = front_at k h j t e in
        is.numbers j t at.1 ∙ ap (λ (xs : List Tx). number_of t.dot.origin xs + 1) (sym (take_front j k h at.0));
    own = λ t m. is.own t (member-take k h t m);
    seen = λ j t d e some covers.
        let at = front_at k h j t e in
        subst (λ (xs : List Tx). StandsIn xs d t.cut) (sym (take_front j k h at.0)) (is.seen j t d at.1 some covers);
  }

  -- a front of it with the next transaction is one
  pub history_next : (k : ℕ) (d : Tx) → k < length h → (old : List Tx) → old ≡ take k h →
      IsHistory (old ++ get_or h k d ∷ [])
  history_next k d inside old same =
      subst IsHistory (take_more h k d inside ∙ ap (λ (xs : List Tx). xs ++ get_or h k d ∷ []) (sym same))
      (history_front (k + 1))
