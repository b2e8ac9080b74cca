-- Those of a list that are chosen: more of them, all of them, and that there is one choice.
--
--   Those-append, Those-all, Those-same   of two lists after each other; P holds of all; there is one choice
--   AreThose-all, AreThose-same           the same
--   AreThose-none                         none are chosen where P holds of none
--   gains-nothing, gains-taken, gains-passed   of no item, of one that is chosen, and of one that is not
--   gains-both                            of two lists
--   gains-start, gains-more               of what each of some numbers gives
--   gains-numbers                         of the numbers themselves
--   gains-alone                           of a list that was empty
use Rattle.std.proofs.Common.{◌≡◌, ℕ, ◌+◌, ◌<◌, List, [], ◌∷◌, ◌++◌, length, map, take, get_or, refl, sym, ap, ◌∙◌, subst, inl, inr, append-nil, append_assoc}
use Rattle.std.specs.List.{All, flat_map}
use Rattle.std.proofs.lemmas.List.{map_more}
use Rattle.std.proofs.lemmas.List.Elements.{All-nil, All-cons, All-same}
use Rattle.std.proofs.lemmas.Grind.{flat_map-append}
use Rattle.ipa_ground.specs.Enumeration.{numbers}
use Rattle.ipa_repair.specs.Chosen.{Those, AreThose, Gains}
use Rattle.ipa_repair.proofs.Growing.{numbers-more}

Those-append : {X : Type 0} (P : X → Type 0) (xs xs' ys ys' : List X) → Those P xs ys → Those P xs' ys' → Those P (xs ++ xs') (ys ++ ys')
unfolding Those
Those-append P [] xs' ys ys' a b = subst (λ zs. Those P xs' (zs ++ ys')) (sym a) b
Those-append P (x ∷ xs) xs' ys ys' (inl t) b = inl (record {
  holds = t.holds;
  others = t.others ++ ys';
  are = Those-append P xs xs' t.others ys' t.are b;
  is = ap (λ zs. zs ++ ys') t.is;
})
Those-append P (x ∷ xs) xs' ys ys' (inr t) b = inr (record { fails = t.fails; are = Those-append P xs xs' ys ys' t.are b })

Those-all : {X : Type 0} (P : X → Type 0) (xs ys : List X) → Those P xs ys → All P ys
unfolding Those
Those-all P [] ys a = All-same P ys [] a (All-nil P)
Those-all P (x ∷ xs) ys (inl t) = All-same P ys (x ∷ t.others) t.is (All-cons P x t.others t.holds (Those-all P xs t.others t.are))
Those-all P (x ∷ xs) ys (inr t) = Those-all P xs ys t.are

Those-same : {X : Type 0} (P : X → Type 0) (xs ys zs : List X) → Those P xs ys → Those P xs zs → ys ≡ zs
unfolding Those
Those-same P [] ys zs a b = a ∙ sym b
Those-same P (x ∷ xs) ys zs (inl t) (inl u) = t.is ∙ (ap (λ ws. x ∷ ws) (Those-same P xs t.others u.others t.are u.are) ∙ sym u.is)
Those-same P (x ∷ xs) ys zs (inl t) (inr u) = absurd (u.fails t.holds)
Those-same P (x ∷ xs) ys zs (inr t) (inl u) = absurd (t.fails u.holds)
Those-same P (x ∷ xs) ys zs (inr t) (inr u) = Those-same P xs ys zs t.are u.are

-- P holds of all that are chosen
pub AreThose-all : {X : Type 0} (P : X → Type 0) (xs ys : List X) → AreThose P xs ys → All P ys
AreThose-all P xs ys a = Those-all P xs ys a.those

-- there is one choice
pub AreThose-same : {X : Type 0} (P : X → Type 0) (xs ys zs : List X) → AreThose P xs ys → AreThose P xs zs → ys ≡ zs
AreThose-same P xs ys zs a b = Those-same P xs ys zs a.those b.those

Those-none : {X : Type 0} (P : X → Type 0) (xs : List X) → ((x : X) → P x → ⊥) → Those P xs []
unfolding Those
Those-none P [] none = refl
Those-none P (x ∷ xs) none = inr (record { fails = none x; are = Those-none P xs none })

-- none are chosen where P holds of none
pub AreThose-none : {X : Type 0} (P : X → Type 0) (xs : List X) → ((x : X) → P x → ⊥) → AreThose P xs []
AreThose-none P xs none = record { those = Those-none P xs none }

pub gains-nothing : {X : Type 0} (P : X → Type 0) (old : List X) → Gains P [] old old
unfolding Those
gains-nothing P old = record { found = []; are = record { those = refl }; grown = sym (append-nil old) }

pub gains-taken : {X : Type 0} (P : X → Type 0) (x : X) (old new : List X) → P x → new ≡ old ++ x ∷ [] → Gains P (x ∷ []) old new
unfolding Those
gains-taken P x old new h e = record {
  found = x ∷ [];
  are = record { those = inl (record { holds = h; others = []; are = refl; is = refl }) };
  grown = e;
}

pub gains-passed : {X : Type 0} (P : X → Type 0) (x : X) (old : List X) → (P x → ⊥) → Gains P (x ∷ []) old old
unfolding Those
gains-passed P x old h = record {
  found = [];
  are = record { those = inr (record { fails = h; are = refl }) };
  grown = sym (append-nil old);
}

pub gains-both : {X : Type 0} (P : X → Type 0) (xs ys a b c : List X) → Gains P xs a b → Gains P ys b c → Gains P (xs ++ ys) a c
gains-both P xs ys a b c g h = record {
  found = g.found ++ h.found;
  are = record { those = Those-append P xs ys g.found h.found g.are.those h.are.those };
  grown = h.grown ∙ (ap (λ zs. zs ++ h.found) g.grown ∙ append_assoc a g.found h.found);
}

-- what no number gives
pub gains-start : {X : Type 0} (P : X → Type 0) (f : ℕ → List X) (old : List X) → Gains P (flat_map f (numbers 0)) old old
unfolding numbers
gains-start P f old = gains-nothing P old

one_more : {X : Type 0} (f : ℕ → List X) (n : ℕ) → flat_map f (numbers (n + 1)) ≡ flat_map f (numbers n) ++ f n
one_more f n = ap (flat_map f) (numbers-more n) ∙ (flat_map-append f (numbers n) (n ∷ []) ∙ ap (λ zs. flat_map f (numbers n) ++ zs) (append-nil (f n)))

-- what one more number gives
pub gains-more : {X : Type 0} (P : X → Type 0) (f : ℕ → List X) (n : ℕ) (a b c : List X) →
    Gains P (flat_map f (numbers n)) a b → Gains P (f n) b c → Gains P (flat_map f (numbers (n + 1))) a c
gains-more P f n a b c g h = subst (λ zs. Gains P zs a c) (sym (one_more f n)) (gains-both P _ _ a b c g h)

-- no number, and one more
pub gains-no_number : (P : ℕ → Type 0) (old : List ℕ) → Gains P (numbers 0) old old
unfolding numbers
gains-no_number P old = gains-nothing P old

pub gains-number : (P : ℕ → Type 0) (n : ℕ) (a b c : List ℕ) → Gains P (numbers n) a b → Gains P (n ∷ []) b c → Gains P (numbers (n + 1)) a c
gains-number P n a b c g h = subst (λ zs. Gains P zs a c) (sym (numbers-more n)) (gains-both P _ _ a b c g h)

-- one more item, where each stands for another
pub gains-mapped : {X Y : Type 0} (P : Y → Type 0) (f : X → Y) (xs : List X) (i : ℕ) (d : X) (a b c : List Y) → i < length xs →
    Gains P (map f (take i xs)) a b → Gains P (f (get_or xs i d) ∷ []) b c → Gains P (map f (take (i + 1) xs)) a c
gains-mapped P f xs i d a b c l g h = subst (λ zs. Gains P zs a c) (sym (map_more f xs i d l)) (gains-both P _ _ a b c g h)

-- the list was empty
pub gains-alone : {X : Type 0} (P : X → Type 0) (xs new : List X) → Gains P xs [] new → AreThose P xs new
gains-alone P xs new g = subst (AreThose P xs) (sym g.grown) g.are
