-- Numbers that are said by names and read again.
--
--   number_back        the number of the name of a number, among names of which none stands twice
--   find_back          what is found by the name of a number
--   first_three        the items in three places
--   three_back         these are read again
--   names_back         the names in three places
--   found_at           the item at a place below the length
--   typed_names        the names of variables with the sorts of places
--   among_first        what stands among the first of a list
use Rattle.std.proofs.Common.{◌≡◌, ℕ, zero, suc, ◌+◌, ◌<◌, ◌≤◌, Bool, true, false, cond, not, ltb, List, [], ◌∷◌, length, map, take, Option, Some, None, unwrap_or, refl, sym, ap, subst, ◌∙◌, arith}
use Rattle.std.specs.List.{slice_get, slice_index_or, list_any, find, prefix_len}
use Rattle.std.proofs.lemmas.Bool.{lt-ltb, or_parts}
use Rattle.std.proofs.lemmas.Option.{same_Some}
use Rattle.ipa_spec.specs.Faults.{same_name, has_repeat}
use Rattle.ipa_spec.specs.declared.names.Name.{Name}
use Rattle.ipa_names.specs.Naming.{number_or_count}
use Rattle.ipa_names.specs.Scopes.{typed_by_places}
use Rattle.ipa_names.specs.Meaning.{three_names}
use Rattle.ipa_spec.specs.NameLaws.{same_name-refl}

-- of things of which none has another's name, the first has no later one's
other_name : {X : Type 0} (name_of : X → Name) (x : X) (xs : List X) → list_any (λ y. same_name (name_of x) (name_of y)) xs ≡ false → (n : ℕ) → n < length xs → (own : X) → same_name (name_of x) (name_of (slice_index_or xs n own)) ≡ false
other_name name_of x [] h n l own = absurd (omega arith)
other_name name_of x (y ∷ xs) h zero l own = (or_parts _ _ h).0
other_name name_of x (y ∷ xs) h (suc n) l own = other_name name_of x xs (or_parts _ _ h).1 n (omega arith) own

counted : (b : Bool) (n : ℕ) → b ≡ false → cond (not b) (1 + n) 0 ≡ suc n
counted false n h = omega arith
counted true n h = cc

stopped : (b : Bool) (n : ℕ) → b ≡ true → cond (not b) (1 + n) 0 ≡ 0
stopped true n h = refl
stopped false n h = cc

prefix_back : (names : List Name) → has_repeat (λ name. name) names ≡ false → (n : ℕ) → n < length names → (own : Name) → prefix_len (λ other. not (same_name other (slice_index_or names n own))) names ≡ n
prefix_back [] h n l own = absurd (omega arith)
prefix_back (x ∷ xs) h zero l own = stopped (same_name x x) _ (same_name-refl x)
prefix_back (x ∷ xs) h (suc n) l own =
    let parts = or_parts (list_any (λ y. same_name x y) xs) (has_repeat (λ name. name) xs) h in
    counted (same_name x (slice_index_or xs n own)) _ (other_name (λ name. name) x xs parts.0 n (omega arith) own)
    ∙ ap suc (prefix_back xs parts.1 n (omega arith) own)

pub number_back : (names : List Name) → has_repeat (λ name. name) names ≡ false → (n : ℕ) → n < length names → (own : Name) → number_or_count names (slice_index_or names n own) ≡ n
number_back names h n l own =
    step (prefix_len (λ other. not (same_name other (slice_index_or names n own))) names) (prefix_back names h n l own)
  where
    step : (m : ℕ) → m ≡ n → unwrap_or (cond (ltb m (length names)) (Some m) None) (length names) ≡ n
    step m e = ap (λ k. unwrap_or (cond (ltb k (length names)) (Some k) None) (length names)) e ∙ ap (λ b. unwrap_or (cond b (Some n) None) (length names)) (lt-ltb n (length names) l)

passed : {X : Type 0} (b : Bool) (x : X) (rest : Option X) → b ≡ false → cond b (Some x) rest ≡ rest
passed false x rest h = refl
passed true x rest h = cc

taken : {X : Type 0} (b : Bool) (x : X) (rest : Option X) → b ≡ true → cond b (Some x) rest ≡ Some x
taken true x rest h = refl
taken false x rest h = cc

pub find_back : {X : Type 0} (name_of : X → Name) (xs : List X) → has_repeat name_of xs ≡ false → (n : ℕ) (x : X) → slice_get xs n ≡ Some x → find (λ y. same_name (name_of y) (name_of x)) xs ≡ Some x
find_back name_of [] h n x e = cc
find_back name_of (y ∷ xs) h zero x e =
    let here : y ≡ x = same_Some _ _ e in
    taken (same_name (name_of y) (name_of x)) y _ (subst (λ z. same_name (name_of y) (name_of z) ≡ true) here (same_name-refl (name_of y))) ∙ ap (λ z. Some z) here
find_back name_of (y ∷ xs) h (suc n) x e =
    let parts = or_parts (list_any (λ z. same_name (name_of y) (name_of z)) xs) (has_repeat name_of xs) h in
    passed (same_name (name_of y) (name_of x)) y _ (not_there xs parts.0 n e) ∙ find_back name_of xs parts.1 n x e
  where
    not_there : (zs : List _) → list_any (λ z. same_name (name_of y) (name_of z)) zs ≡ false → (k : ℕ) → slice_get zs k ≡ Some x → same_name (name_of y) (name_of x) ≡ false
    not_there [] none k is = cc
    not_there (z ∷ zs) none zero is = subst (λ w. same_name (name_of y) (name_of w) ≡ false) (same_Some _ _ is) (or_parts _ _ none).0
    not_there (z ∷ zs) none (suc k) is = not_there zs (or_parts _ _ none).1 k is

same_three : {X : Type 0} {a b c x y z : X} → a ≡ x → b ≡ y → c ≡ z → ◌≡◌ {A = List X} (a ∷ b ∷ c ∷ []) (x ∷ y ∷ z ∷ [])
same_three e f g = λ i. e i ∷ f i ∷ g i ∷ []

-- the items in three places, and another past the end
abbrev pub first_three : {Y : Type 0} → Y → List Y → List Y
first_three other ys = slice_index_or ys 0 other ∷ slice_index_or ys 1 other ∷ slice_index_or ys 2 other ∷ []

-- items up to a count, and another past it
pub three_back : {X Y : Type 0} (f : X → Y) (g : Y → X) (other : Y) (ns : List Y) (a : ℕ) → length ns ≡ 3 → a ≤ 3 →
    ((k : ℕ) → k < a → f (g (slice_index_or ns k other)) ≡ slice_index_or ns k other) →
    ((k : ℕ) → a ≤ k → k < 3 → slice_index_or ns k other ≡ other) → first_three other (map f (map g (take a ns))) ≡ ns
three_back f g other [] a e l h u = absurd (omega arith)
three_back f g other (x ∷ []) a e l h u = absurd (omega arith)
three_back f g other (x ∷ y ∷ []) a e l h u = absurd (omega arith)
three_back f g other (x ∷ y ∷ z ∷ w ∷ ns) a e l h u = absurd (omega arith)
three_back f g other (x ∷ y ∷ z ∷ []) zero e l h u = same_three (sym (u 0 (omega arith) (omega arith))) (sym (u 1 (omega arith) (omega arith))) (sym (u 2 (omega arith) (omega arith)))
three_back f g other (x ∷ y ∷ z ∷ []) (suc zero) e l h u = same_three (h 0 (omega arith)) (sym (u 1 (omega arith) (omega arith))) (sym (u 2 (omega arith) (omega arith)))
three_back f g other (x ∷ y ∷ z ∷ []) (suc (suc zero)) e l h u = same_three (h 0 (omega arith)) (h 1 (omega arith)) (sym (u 2 (omega arith) (omega arith)))
three_back f g other (x ∷ y ∷ z ∷ []) (suc (suc (suc zero))) e l h u = same_three (h 0 (omega arith)) (h 1 (omega arith)) (h 2 (omega arith))
three_back f g other (x ∷ y ∷ z ∷ []) (suc (suc (suc (suc a)))) e l h u = absurd (omega arith)

-- one name or more up to a count, and the first of them past it
pub names_back : (own : Name) (ns : List Name) (a : ℕ) → length ns ≡ 3 → a ≤ 3 → 0 < a → ((k : ℕ) → a ≤ k → k < 3 → slice_index_or ns k own ≡ slice_index_or ns 0 own) → three_names own (take a ns) ≡ ns
names_back own [] a e l p u = absurd (omega arith)
names_back own (x ∷ []) a e l p u = absurd (omega arith)
names_back own (x ∷ y ∷ []) a e l p u = absurd (omega arith)
names_back own (x ∷ y ∷ z ∷ w ∷ ns) a e l p u = absurd (omega arith)
names_back own (x ∷ y ∷ z ∷ []) zero e l p u = absurd (omega arith)
names_back own (x ∷ y ∷ z ∷ []) (suc zero) e l p u = same_three refl (sym (u 1 (omega arith) (omega arith))) (sym (u 2 (omega arith) (omega arith)))
names_back own (x ∷ y ∷ z ∷ []) (suc (suc zero)) e l p u = same_three refl refl (sym (u 2 (omega arith) (omega arith)))
names_back own (x ∷ y ∷ z ∷ []) (suc (suc (suc zero))) e l p u = refl
names_back own (x ∷ y ∷ z ∷ []) (suc (suc (suc (suc a)))) e l p u = absurd (omega arith)

-- things that are each said and read again
pub each_back : {X Y : Type 0} (f : Y → X) (g : X → Y) (xs : List X) → ((n : ℕ) (x : X) → slice_get xs n ≡ Some x → f (g x) ≡ x) → map f (map g xs) ≡ xs
each_back f g [] h = refl
each_back f g (x ∷ xs) h = λ i. h 0 x refl i ∷ each_back f g xs (λ n y e. h (suc n) y e) i

-- the item at a place below the length
pub found_at : {X : Type 0} (xs : List X) (k : ℕ) (own : X) → k < length xs → slice_get xs k ≡ Some (slice_index_or xs k own)
found_at [] k own l = absurd (omega arith)
found_at (x ∷ xs) zero own l = refl
found_at (x ∷ xs) (suc k) own l = found_at xs k own (omega arith)

pub typed_names : (vars places : List Name) → length vars ≤ length places → map (λ v. v.name) (typed_by_places vars places) ≡ vars
typed_names [] places l = refl
typed_names (v ∷ vars) [] l = absurd (omega arith)
typed_names (v ∷ vars) (p ∷ places) l = ap (λ later. v ∷ later) (typed_names vars places (omega arith))

-- what stands among the first of a list
pub among_first : {X : Type 0} (a : ℕ) (xs : List X) (k : ℕ) (own : X) → k < a → slice_index_or (take a xs) k own ≡ slice_index_or xs k own
among_first zero xs k own l = absurd (omega arith)
among_first (suc a) [] k own l = refl
among_first (suc a) (x ∷ xs) zero own l = refl
among_first (suc a) (x ∷ xs) (suc k) own l = among_first a xs k own (omega arith)
