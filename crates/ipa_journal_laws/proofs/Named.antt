-- A name means the place where it stands, where no name stands twice.
--
--   position_named   of things with names
--   named_element    of an element of a list
use Rattle.std.proofs.Common.{◌≡◌, ℕ, zero, suc, ◌+◌, ◌<◌, false, cond, not, nat_lt, List, [], ◌∷◌, length, None, Some, refl, ap, ◌∙◌, arith}
use Rattle.std.specs.List.{slice_get, list_any, prefix_len, position}
use Rattle.std.proofs.lemmas.Bool.{lt-ltb, or_parts}
use Rattle.std.proofs.lemmas.Option.{same_Some, slice_get_within}
use Rattle.ipa_spec.specs.Faults.{same_name, has_repeat}
use Rattle.ipa_spec.specs.FoundLaws.{list_any-false}
use Rattle.ipa_spec.specs.NameLaws.{same_name-refl}
use Rattle.ipa_spec.specs.declared.names.Name.{Name}
use Rattle.ipa_names.specs.Naming.{number_in}

module _ {X : Type 0} (name_of : X → Name) where
  prefix_named : (xs : List X) (k : ℕ) (x : X) → slice_get xs k ≡ Some x → has_repeat name_of xs ≡ false →
      prefix_len (λ y. not (same_name (name_of y) (name_of x))) xs ≡ k
  prefix_named [] k x e apart = cc
  prefix_named (y ∷ ys) zero x e apart =
      let same : y ≡ x = same_Some y x e in
      ap (λ z. cond (not (same_name (name_of z) (name_of x))) (1 + prefix_len (λ w. not (same_name (name_of w) (name_of x))) ys) 0) same
      ∙ ap (λ b. cond (not b) (1 + prefix_len (λ w. not (same_name (name_of w) (name_of x))) ys) 0) (same_name-refl (name_of x))
  prefix_named (y ∷ ys) (suc k) x e apart =
      let parts = or_parts (list_any (λ z. same_name (name_of y) (name_of z)) ys) (has_repeat name_of ys) apart in
      let other = list_any-false (λ z. same_name (name_of y) (name_of z)) ys parts.0 k x e in
      let rest = prefix_named ys k x e parts.1 in
      ap (λ b. cond (not b) (1 + prefix_len (λ w. not (same_name (name_of w) (name_of x))) ys) 0) other
      ∙ omega (arith, rest)

  pub position_named : (xs : List X) (k : ℕ) (x : X) → slice_get xs k ≡ Some x → has_repeat name_of xs ≡ false →
      position (λ y. same_name (name_of y) (name_of x)) xs ≡ Some k
  position_named xs k x e apart =
      let at = prefix_named xs k x e apart in
      ap (λ n. cond (nat_lt n (length xs)) (Some n) None) at
      ∙ ap (λ b. cond b (Some k) None) (lt-ltb k (length xs) (slice_get_within xs k x e))

-- the name in a place, and the place of the name
pub record IsAt (names : List Name) (k : ℕ) : Type 0 where
  pub name : Name
  pub at : slice_get names k ≡ Some name
  pub means : number_in names name ≡ Some k

pub item_at : {X : Type 0} (xs : List X) (k : ℕ) → k < length xs → (x : X) × (slice_get xs k ≡ Some x)
item_at [] k l = absurd (omega arith)
item_at (x ∷ xs) zero l = (x, refl)
item_at (x ∷ xs) (suc k) l = item_at xs k (omega arith)

pub named_element : (names : List Name) (k : ℕ) → k < length names → has_repeat (λ n. n) names ≡ false → IsAt names k
named_element names k l apart =
    let it = item_at names k l in
    record { name = it.0; at = it.1; means = position_named (λ n. n) names k it.0 it.1 apart }
