-- What is told of each item of a list, in its place.
--
--   AreTold xs f told            of each item it is told whether it passes the test
--   AreBreakable s action told   of each clause it is told whether the action could make a literal of it false
--   told_more                    one more answer in its place
use Rattle.std.specs.Prelude.{◌≡◌, ℕ, ◌+◌, ◌<◌, Bool, false, List, length, slice_get, slice_index_or, slice_set, Some}
use Rattle.std.proofs.Common.{sym, ap, ◌∙◌, subst, inl, inr, arith}
use Rattle.std.proofs.lemmas.Bool.{cases_lt}
use Rattle.std.proofs.lemmas.List.{get_or-set_same, get_or-set_other}
use Rattle.std.proofs.lemmas.Option.{same_Some}
use Rattle.ipa_spec.specs.declared.specification.Specification.{Specification}
use Rattle.ipa_spec.specs.declared.operations.Action.{Action}
use Rattle.ipa_logic.specs.Conflicts.{can_break}

-- of each item, in its place, it is told whether it passes the test
pub record AreTold {X : Type 0} (xs : List X) (f : X → Bool) (told : List Bool) : Type 0 where
  pub each : (k : ℕ) (x : X) → slice_get xs k ≡ Some x → slice_index_or told k false ≡ f x

-- of each clause, in its place, it is told whether the action could make a literal of it false, by predicates and kinds
abbrev pub AreBreakable : Specification → Action → List Bool → Type 0
AreBreakable s action told = AreTold s.clauses (can_break s action) told

-- of the items in earlier places it is told, and now of the next one
pub told_more : {X : Type 0} (xs : List X) (f : X → Bool) (told : List Bool) (i : ℕ) (x : X) (b : Bool) → i < length told → slice_get xs i ≡ Some x → b ≡ f x →
    ((k : ℕ) (y : X) → k < i → slice_get xs k ≡ Some y → slice_index_or told k false ≡ f y) →
    (k : ℕ) (y : X) → k < i + 1 → slice_get xs k ≡ Some y → slice_index_or (slice_set told i b) k false ≡ f y
told_more xs f told i x b l here is h k y m e = elim (cases_lt k i) [
  | inl before ↦ get_or-set_other told i k b false (λ (same : k ≡ i). absurd (omega (arith, before, same))) ∙ h k y before e
  | inr past ↦
      let same : i ≡ k = omega (arith, m, past) in
      let found : x ≡ y = same_Some x y (sym here ∙ subst (λ n. slice_get xs n ≡ Some y) (sym same) e) in
      subst (λ n. slice_index_or (slice_set told i b) n false ≡ f y) same (get_or-set_same told i b false l ∙ (is ∙ ap f found))
]
