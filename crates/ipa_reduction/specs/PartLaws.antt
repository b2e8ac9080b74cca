-- A pattern's classes as arguments and values of the parts of its variables.
--
--   IsPart whole from part   the part stands in the list from a place on
--   IsPart-front, IsPart-second, IsPart-middle, IsPart-last   the parts of two and of three joined lists
--   padded-at             places past a pattern's classes hold 0
--   args_at-at            an argument is the class of its variable
--   args_at-past          past the part's variables the arguments are 0
--   args_at-only          there is no other such list
--   args_at-padded        they are the same of the classes in twelve places
--   IsOver-args_at        arguments and values are over the pattern's universe
use Rattle.std.proofs.Common.{◌≡◌, ℕ, zero, suc, ◌+◌, ◌-◌, ◌<◌, ◌≤◌, List, [], ◌∷◌, ◌++◌, length, take, drop, replicate, refl, sym, ap, ◌∙◌, subst, arith, Some, slice_get, inl, inr}
use Rattle.std.specs.List.{slice_index}
use Rattle.std.proofs.lemmas.Bool.{cases_lt}
use Rattle.std.proofs.lemmas.List.{get_or-take, get_or-drop, get_or_past, get_or_append_left, get_or-append_right, length-take}
use Rattle.std.proofs.lemmas.Option.{slice_get_within}
use Rattle.std.proofs.lemmas.Grind.{same_number_lists}
use Rattle.ipa_logic.specs.Facts.{Universe, size_of}
use Rattle.ipa_logic.specs.Truth.{IsOver}
use Rattle.ipa_ground.specs.Patterns.{AreConstants, AreSorts, IsPattern, pattern_universe, padded, four, args_at}
use Rattle.ipa_ground.specs.ListLaws.{get-left, get-right, replicate-zero}
use Rattle.ipa_ground.specs.SamePattern.{pattern-within}

-- the part stands in the list from this place on
pub record IsPart {X : Type 0} (whole : List X) (from : ℕ) (part : List X) : Type 0 where
  pub at : (v : ℕ) (x : X) → slice_get part v ≡ Some x → slice_get whole (from + v) ≡ Some x

-- a list is a part of itself
IsPart-all : {X : Type 0} (xs : List X) → IsPart xs 0 xs
IsPart-all xs = record { at = λ v x e. ap (slice_get xs) (let same : 0 + v ≡ v = omega arith in same) ∙ e }

-- the first of two joined lists is a part of them
pub IsPart-front : {X : Type 0} (xs ys : List X) → IsPart (xs ++ ys) 0 xs
IsPart-front xs ys = record { at = λ v x e. ap (slice_get (xs ++ ys)) (let same : 0 + v ≡ v = omega arith in same) ∙ get-left xs ys v x e }

-- and so is each part of the second
IsPart-behind : {X : Type 0} (xs ys part : List X) (from place : ℕ) → place ≡ length xs + from → IsPart ys from part → IsPart (xs ++ ys) place part
IsPart-behind xs ys part from place is h = record {
  at = λ v x e. ap (slice_get (xs ++ ys)) (let is_at : place + v ≡ length xs + (from + v) = omega arith in is_at) ∙ (get-right xs ys (from + v) ∙ h.at v x e);
}

-- the second of two joined lists
pub IsPart-second : {X : Type 0} (xs ys : List X) (n : ℕ) → length xs ≡ n → IsPart (xs ++ ys) n ys
IsPart-second xs ys n is = IsPart-behind xs ys ys 0 n (omega (arith, is)) (IsPart-all ys)

-- the second and the third of three
pub IsPart-middle : {X : Type 0} (xs ys zs : List X) (n : ℕ) → length xs ≡ n → IsPart (xs ++ (ys ++ zs)) n ys
IsPart-middle xs ys zs n is = IsPart-behind xs (ys ++ zs) ys 0 n (omega (arith, is)) (IsPart-front ys zs)

pub IsPart-last : {X : Type 0} (xs ys zs : List X) (n m : ℕ) → length xs ≡ n → length ys ≡ m → IsPart (xs ++ (ys ++ zs)) (n + m) zs
IsPart-last xs ys zs n m xs_is ys_is = IsPart-behind xs (ys ++ zs) zs m (n + m) (omega (arith, xs_is)) (IsPart-second ys zs m ys_is)

-- places past a pattern's classes hold 0
pub padded-at : (classes : List ℕ) (i : ℕ) → slice_index (padded classes) i ≡ slice_index classes i
padded-at classes i = elim (cases_lt i (length classes)) [
  | inl within ↦ get_or_append_left classes (replicate (12 - length classes) 0) 0 i within
  | inr past ↦ (get_or-append_right classes (replicate (12 - length classes) 0) (length classes) i 0 refl past ∙ (replicate-zero (12 - length classes) (i - length classes) ∙ sym (get_or_past classes i 0 past)))
]

-- four numbers of a list
four-at : (xs : List ℕ) (v : ℕ) → v < 4 → slice_index (four xs) v ≡ slice_index xs v
four-at xs zero l = refl
four-at xs (suc zero) l = refl
four-at xs (suc (suc zero)) l = refl
four-at xs (suc (suc (suc zero))) l = refl
four-at xs (suc (suc (suc (suc v)))) l = absurd (omega arith)

-- an argument is the class of its variable
pub args_at-at : (from count : ℕ) (classes : List ℕ) (v : ℕ) → count ≤ 4 → v < count → slice_index (args_at from count classes) v ≡ slice_index classes (from + v)
args_at-at from count classes v few l =
    four-at (take count (drop from classes)) v (omega arith) ∙ (get_or-take count (drop from classes) v 0 l ∙ get_or-drop from classes v 0)

-- past the part's variables the arguments are 0
pub args_at-past : (from count : ℕ) (classes : List ℕ) (v : ℕ) → count ≤ v → slice_index (args_at from count classes) v ≡ 0
args_at-past from count classes v past = elim (cases_lt v 4) [
  | inl l ↦ (four-at (take count (drop from classes)) v l ∙ get_or_past (take count (drop from classes)) v 0 (omega (arith, length-take count (drop from classes))))
  | inr m ↦ get_or_past (args_at from count classes) v 0 m
]

-- and there is no other such list
pub args_at-only : (from count : ℕ) (classes xs : List ℕ) → count ≤ 4 → length xs ≡ 4 → ((v : ℕ) → v < count → slice_index xs v ≡ slice_index classes (from + v)) → ((v : ℕ) → count ≤ v → slice_index xs v ≡ 0)
    → xs ≡ args_at from count classes
args_at-only from count classes xs few wide at past = same_number_lists xs (args_at from count classes) wide (λ v l. elim (cases_lt v count) [
  | inl within ↦ (at v within ∙ sym (args_at-at from count classes v few within))
  | inr behind ↦ (past v behind ∙ sym (args_at-past from count classes v behind))
])

-- the arguments are the same of the classes in twelve places
pub args_at-padded : (from count : ℕ) (classes : List ℕ) → args_at from count (padded classes) ≡ args_at from count classes
args_at-padded from count classes = λ i. same 0 i ∷ same 1 i ∷ same 2 i ∷ same 3 i ∷ []
  where
    same : (v : ℕ) → slice_index (take count (drop from (padded classes))) v ≡ slice_index (take count (drop from classes)) v
    same v = elim (cases_lt v count) [
      | inl l ↦ (get_or-take count (drop from (padded classes)) v 0 l ∙ (get_or-drop from (padded classes) v 0 ∙ (padded-at classes (from + v)
          ∙ (sym (get_or-drop from classes v 0) ∙ sym (get_or-take count (drop from classes) v 0 l)))))
      | inr m ↦ (get_or_past (take count (drop from (padded classes))) v 0 (omega (arith, length-take count (drop from (padded classes))))
          ∙ sym (get_or_past (take count (drop from classes)) v 0 (omega (arith, length-take count (drop from classes)))))
    ]

-- the classes of a part's variables are over the pattern's universe
pub IsOver-args_at : (constants : Universe) (sorts classes : List ℕ) (from : ℕ) (part : List ℕ) →
    AreConstants constants → AreSorts sorts → IsPattern constants sorts classes → IsPart sorts from part →
    length part ≤ 4 → IsOver (pattern_universe constants sorts classes) part (args_at from (length part) classes)
IsOver-args_at constants sorts classes from part fixed are is_pattern is_part few = record {
  elements = λ v sort e. subst (λ (x : ℕ). x < size_of (pattern_universe constants sorts classes) sort)
      (sym (args_at-at from (length part) classes v few (slice_get_within part v sort e)))
      (pattern-within constants sorts classes fixed are is_pattern (from + v) sort (is_part.at v sort e));
  unused = λ v past. args_at-past from (length part) classes v past;
  width = refl;
}
