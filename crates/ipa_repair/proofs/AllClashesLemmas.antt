-- All triples of two actions and a clause, and those of them that are in conflict.
--
--   listed-number, listed-flat   what stands among numbers, and in what each item of a list gives
--   place_of, action-at-place    the place of an action among all, and the action there
--   action_at-declared           the action in a place is declared
--   listed-clash                 each triple is among all
--   clashes-from                 those chosen from all are those in conflict
use Rattle.std.proofs.Common.{◌≡◌, ℕ, zero, suc, ◌+◌, ◌-◌, ◌<◌, Bool, true, false, cond, ltb, List, [], ◌∷◌, ◌++◌, length, Some, refl, sym, ap, ◌∙◌, subst, inl, inr, arith}
use Rattle.std.specs.List.{flat_map, slice_get}
use Rattle.std.proofs.lemmas.Bool.{cases_lt, lt-ltb, le-ltb}
use Rattle.std.proofs.lemmas.Option.{same_Some, slice_get_within}
use Rattle.ipa_spec.specs.Actions.{IsAction}
use Rattle.ipa_spec.specs.declared.specification.Specification.{Specification}
use Rattle.ipa_spec.specs.declared.operations.Action.{Action}
use Rattle.ipa_spec.specs.declared.operations.Action.TheVariants.{Op, Drop}
use Rattle.ipa_logic.specs.Conflicts.{Conflict}
use Rattle.ipa_ground.specs.Enumeration.{numbers, IsListed}
use Rattle.ipa_ground.specs.ListLaws.{Listed-cons, Listed-append_left, Listed-append_right}
use Rattle.ipa_pairs.specs.Width.{action_place}
use Rattle.ipa_repair.specs.Chosen.{Those, AreThose}
use Rattle.ipa_repair.specs.Greedy.{action_count, action_at}
use Rattle.ipa_repair.specs.Showing.{clash, IsClash, AreClashes, clashes_of_pair, clashes_of_left, all_clashes}
use Rattle.ipa_repair.specs.declared.clashes.Clash.{Clash}
use Rattle.ipa_repair.proofs.ChosenLemmas.{AreThose-all}
use Rattle.ipa_repair.proofs.ShownLemmas.{All-at}

listed-first : {X : Type 0} (x : X) (xs : List X) → IsListed (x ∷ xs) x
listed-first x xs = record { place = 0; there = refl }

-- a number below another stands among those below it
listed-number : (n k : ℕ) → k < n → IsListed (numbers n) k
unfolding numbers
listed-number zero k l = absurd (omega (arith, l))
listed-number (suc n) k l = elim (cases_lt k n) [
  | inl before ↦ Listed-append_left (numbers n) (n ∷ []) k (listed-number n k before)
  | inr here ↦
      let same : n ≡ k = omega (arith, l, here) in
      Listed-append_right (numbers n) (n ∷ []) k (subst (IsListed (n ∷ [])) same (listed-first n []))
]

-- what one item of a list gives stands in what all give
listed-flat : {X Y : Type 0} (f : X → List Y) (xs : List X) (x : X) (y : Y) → IsListed xs x → IsListed (f x) y → IsListed (flat_map f xs) y
listed-flat {X = X} {Y = Y} f xs x y h here = at xs h.place h.there
  where
    at : (zs : List X) (k : ℕ) → slice_get zs k ≡ Some x → IsListed (flat_map f zs) y
    at [] k e = cc
    at (z ∷ zs) zero e = Listed-append_left (f z) (flat_map f zs) y (subst (λ w. IsListed (f w) y) (sym (same_Some z x e)) here)
    at (z ∷ zs) (suc k) e = Listed-append_right (f z) (flat_map f zs) y (at zs k e)

place-below : (s : Specification) (a : Action) → IsAction s a → action_place s a < action_count s
place-below s (Op n) h = omega (arith, h)
place-below s (Drop n) h = omega (arith, h)

-- the action in an action's place
action-at-place : (s : Specification) (a : Action) → IsAction s a → action_at s (action_place s a) ≡ a
action-at-place s (Op n) h = ap (λ b. cond b (Op n) (Drop (n - length s.operations))) (lt-ltb n (length s.operations) h)
action-at-place s (Drop n) h =
    let m = length s.operations in
    let past : m + n - m ≡ n = omega arith in
    ap (λ b. cond b (Op (m + n)) (Drop (m + n - m))) (le-ltb (m + n) m (omega arith)) ∙ ap (λ k. Drop k) past

-- the action in a place is declared
pub action_at-declared : (s : Specification) (k : ℕ) → k < action_count s → IsAction s (action_at s k)
action_at-declared s k l = elim (cases_lt k (length s.operations)) [
  | inl low ↦ subst (λ b. IsAction s (cond b (Op k) (Drop (k - length s.operations)))) (sym (lt-ltb k (length s.operations) low)) low
  | inr high ↦
      let below : k - length s.operations < length s.bounds = omega (arith, l, high) in
      subst (λ b. IsAction s (cond b (Op k) (Drop (k - length s.operations)))) (sym (le-ltb k (length s.operations) (omega (arith, high)))) below
]

-- each triple is among all
listed-clash : (s : Specification) (left right : Action) (k : ℕ) → IsAction s left → IsAction s right → k < length s.clauses →
    IsListed (all_clashes s) (clash left right k)
listed-clash s left right k l r m =
    let on_clause = listed-flat (λ j. clash left right j ∷ []) (numbers (length s.clauses)) k (clash left right k) (listed-number (length s.clauses) k m)
    (listed-first (clash left right k) []) in
    let of_right = listed-flat (λ j. clashes_of_pair s left (action_at s j)) (numbers (action_count s)) (action_place s right) (clash left right k)
    (listed-number (action_count s) (action_place s right) (place-below s right r))
    (subst (λ a. IsListed (clashes_of_pair s left a) (clash left right k)) (sym (action-at-place s right r)) on_clause) in
    listed-flat (λ i. clashes_of_left s (action_at s i)) (numbers (action_count s)) (action_place s left) (clash left right k)
    (listed-number (action_count s) (action_place s left) (place-below s left l))
    (subst (λ a. IsListed (clashes_of_left s a) (clash left right k)) (sym (action-at-place s left l)) of_right)

Those-listed : {X : Type 0} (P : X → Type 0) (xs ys : List X) → Those P xs ys → (k : ℕ) (x : X) → slice_get xs k ≡ Some x → P x → IsListed ys x
unfolding Those
Those-listed P [] ys a k x e h = cc
Those-listed P (z ∷ xs) ys (inl t) zero x e h =
    subst (λ zs. IsListed zs x) (sym t.is) (subst (IsListed (z ∷ t.others)) (same_Some z x e) (listed-first z t.others))
Those-listed P (z ∷ xs) ys (inl t) (suc k) x e h =
    subst (λ zs. IsListed zs x) (sym t.is) (Listed-cons z t.others x (Those-listed P xs t.others t.are k x e h))
Those-listed P (z ∷ xs) ys (inr t) zero x e h = absurd (t.fails (subst P (sym (same_Some z x e)) h))
Those-listed P (z ∷ xs) ys (inr t) (suc k) x e h = Those-listed P xs ys t.are k x e h

-- those chosen from all triples are those in conflict
pub clashes-from : (s : Specification) (cs : List Clash) → AreThose (IsClash s) (all_clashes s) cs → AreClashes s cs
clashes-from s cs a = record {
  each = All-at (IsClash s) cs (AreThose-all (IsClash s) (all_clashes s) cs a);
  complete = λ left right k h.
      let listed = listed-clash s left right k h.left_declared h.right_declared (slice_get_within s.clauses k h.clause h.declared) in
      Those-listed (IsClash s) (all_clashes s) cs a.those listed.place (clash left right k) listed.there h;
}
