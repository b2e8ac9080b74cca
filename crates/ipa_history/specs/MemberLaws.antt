-- Members of lists.
--
--   member_cases, member_later     members of a list and of its rest
--   Found                          a member that passes a test
--   found, any_from                a test passes somewhere exactly where a member passes it
--   none_from                      it passes nowhere where no member passes it
--   any_both                       two tests find the same in two lists with the same members that pass
--   member-append_left .. member-append_cases   members of two lists together
--   member-filter, filter_member   members of a filtered list
--   length-filter_le, length-filter_less   a filter keeps fewer where a member fails it
--   filter_all                     a filter that all members pass keeps all
use Rattle.std.proofs.Common.{◌≡◌, ℕ, zero, suc, ◌<◌, ◌≤◌, Bool, true, false, cond, List, [], ◌∷◌, ◌++◌, length, refl, sym, ◌∙◌, ap, arith, Some, None, slice_get, ◌⊎◌, inl, inr}
use Rattle.std.specs.Prelude.{filter}
use Rattle.std.specs.List.{list_any}
use Rattle.std.proofs.lemmas.Bool.{false≢true, or_cases, or_left, or_right, false_from_ne_true}
use Rattle.ipa_history.specs.Histories.{IsMember}

-- a member of a list is its first or one of the rest
pub member_cases : {X : Type 0} (x : X) (xs : List X) (y : X) → IsMember (x ∷ xs) y → (x ≡ y) ⊎ IsMember xs y
member_cases x xs y m = by_place m.place m.at
  where
    by_place : (k : ℕ) → slice_get (x ∷ xs) k ≡ Some y → (x ≡ y) ⊎ IsMember xs y
    by_place zero e = inl (let s : Some x ≡ Some y = e in cc)
    by_place (suc k) e = inr (record { place = k; at = e })

pub member_first : {X : Type 0} (x : X) (xs : List X) → IsMember (x ∷ xs) x
member_first x xs = record { place = 0; at = refl }

pub member_later : {X : Type 0} (x : X) (xs : List X) (y : X) → IsMember xs y → IsMember (x ∷ xs) y
member_later x xs y m = record { place = suc m.place; at = m.at }

-- none is a member of the empty list
pub member_none : {X : Type 0} (y : X) → IsMember [] y → ⊥
member_none y m = let e : None ≡ Some y = m.at in absurd cc

-- a member that passes the test
pub record Found {X : Type 0} (p : X → Bool) (xs : List X) : Type 0 where
  pub one : X
  pub member : IsMember xs one
  pub passes : p one ≡ true

pub found : {X : Type 0} (p : X → Bool) (xs : List X) → list_any p xs ≡ true → Found p xs
found p [] h = absurd (false≢true h)
found p (x ∷ xs) h = elim (or_cases (p x) (list_any p xs) h) [
  | inl here ↦ record { one = x; member = member_first x xs; passes = here }
  | inr there ↦ let f = found p xs there in record { one = f.one; member = member_later x xs f.one f.member; passes = f.passes }
]

pub any_from : {X : Type 0} (p : X → Bool) (xs : List X) (y : X) → IsMember xs y → p y ≡ true → list_any p xs ≡ true
any_from p [] y m h = absurd (member_none y m)
any_from p (x ∷ xs) y m h = elim (member_cases x xs y m) [
  | inl e ↦ or_left (p x) (list_any p xs) (ap p e ∙ h)
  | inr r ↦ or_right (p x) (list_any p xs) (any_from p xs y r h)
]

pub none_from : {X : Type 0} (p : X → Bool) (xs : List X) → ((y : X) → IsMember xs y → p y ≡ true → ⊥) →
    list_any p xs ≡ false
none_from p xs none = false_from_ne_true (list_any p xs) (λ h. let f = found p xs h in none f.one f.member f.passes)

-- no member passes where the test passes nowhere
pub none_found : {X : Type 0} (p : X → Bool) (xs : List X) → list_any p xs ≡ false → (y : X) → IsMember xs y →
    p y ≡ true → ⊥
none_found p xs none y m h = false≢true (sym none ∙ any_from p xs y m h)

-- two implications between tests
pub same_bool : (a b : Bool) → (a ≡ true → b ≡ true) → (b ≡ true → a ≡ true) → a ≡ b
same_bool true b f g = sym (f refl)
same_bool false true f g = g refl
same_bool false false f g = refl

-- two tests find the same where each one found by one is found by the other
pub any_both : {X : Type 0} (p q : X → Bool) (xs ys : List X)
    → ((x : X) → IsMember xs x → p x ≡ true → list_any q ys ≡ true)
    → ((y : X) → IsMember ys y → q y ≡ true → list_any p xs ≡ true)
    → list_any p xs ≡ list_any q ys
any_both p q xs ys there back = same_bool (list_any p xs) (list_any q ys)
    (λ h. let f = found p xs h in there f.one f.member f.passes)
    (λ h. let f = found q ys h in back f.one f.member f.passes)

-- members of two lists together
pub member-append_left : {X : Type 0} (xs ys : List X) (z : X) → IsMember xs z → IsMember (xs ++ ys) z
member-append_left [] ys z m = absurd (member_none z m)
member-append_left (x ∷ xs) ys z m = elim (member_cases x xs z m) [
  | inl e ↦ record { place = 0; at = ap (λ w. Some w) e }
  | inr r ↦ member_later x (xs ++ ys) z (member-append_left xs ys z r)
]

pub member-append_right : {X : Type 0} (xs ys : List X) (z : X) → IsMember ys z → IsMember (xs ++ ys) z
member-append_right [] ys z m = m
member-append_right (x ∷ xs) ys z m = member_later x (xs ++ ys) z (member-append_right xs ys z m)

pub member-append_cases : {X : Type 0} (xs ys : List X) (z : X) → IsMember (xs ++ ys) z → IsMember xs z ⊎ IsMember ys z
member-append_cases [] ys z m = inr m
member-append_cases (x ∷ xs) ys z m = elim (member_cases x (xs ++ ys) z m) [
  | inl e ↦ inl (record { place = 0; at = ap (λ w. Some w) e })
  | inr r ↦ elim (member-append_cases xs ys z r) [
    | inl a ↦ inl (member_later x xs z a)
    | inr b ↦ inr b
  ]
]

-- a member that passes stays in a filtered list
filter_step : {X : Type 0} (p : X → Bool) (x : X) (xs kept : List X) (y : X) → (b : Bool) → p x ≡ b → p y ≡ true
    → (IsMember xs y → IsMember kept y) → IsMember (x ∷ xs) y → IsMember (cond b (x ∷ kept) kept) y
filter_step p x xs kept y true e h rest m = elim (member_cases x xs y m) [
  | inl s ↦ record { place = 0; at = ap (λ w. Some w) s }
  | inr r ↦ member_later x kept y (rest r)
]
filter_step p x xs kept y false e h rest m = elim (member_cases x xs y m) [
  | inl s ↦ absurd (false≢true (sym e ∙ (ap p s ∙ h)))
  | inr r ↦ rest r
]

pub member-filter : {X : Type 0} (p : X → Bool) (xs : List X) (y : X) → IsMember xs y → p y ≡ true →
    IsMember (filter p xs) y
member-filter p [] y m h = absurd (member_none y m)
member-filter p (x ∷ xs) y m h = filter_step p x xs (filter p xs) y (p x) refl h (λ r. member-filter p xs y r h) m

-- a member of a filtered list is one of the list, and passes
pub record Kept {X : Type 0} (p : X → Bool) (xs : List X) (y : X) : Type 0 where
  pub member : IsMember xs y
  pub passes : p y ≡ true

kept_step : {X : Type 0} (p : X → Bool) (x : X) (xs kept : List X) (y : X) → (b : Bool) → p x ≡ b
    → (IsMember kept y → Kept p xs y) → IsMember (cond b (x ∷ kept) kept) y → Kept p (x ∷ xs) y
kept_step p x xs kept y true e rest m = elim (member_cases x kept y m) [
  | inl s ↦ record { member = record { place = 0; at = ap (λ w. Some w) s }; passes = sym (ap p s) ∙ e }
  | inr r ↦ let k = rest r in record { member = member_later x xs y k.member; passes = k.passes }
]
kept_step p x xs kept y false e rest m = let k = rest m in record { member = member_later x xs y k.member; passes = k.passes }

pub filter_member : {X : Type 0} (p : X → Bool) (xs : List X) (y : X) → IsMember (filter p xs) y → Kept p xs y
filter_member p [] y m = absurd (member_none y m)
filter_member p (x ∷ xs) y m = kept_step p x xs (filter p xs) y (p x) refl (λ r. filter_member p xs y r) m

-- a filter keeps no more, and fewer where a member fails it
pub length-filter_le : {X : Type 0} (p : X → Bool) (xs : List X) → length (filter p xs) ≤ length xs
length-filter_le p [] = omega arith
length-filter_le p (x ∷ xs) = by_test (p x) (length-filter_le p xs)
  where
    by_test : (b : Bool) → length (filter p xs) ≤ length xs →
        length (cond b (x ∷ filter p xs) (filter p xs)) ≤ length (x ∷ xs)
    by_test true rest = omega (arith, rest)
    by_test false rest = omega (arith, rest)

less_step : {X : Type 0} (p : X → Bool) (x : X) (xs kept : List X) (y : X) → (b : Bool) → p x ≡ b → p y ≡ false →
    length kept ≤ length xs
    → (IsMember xs y → length kept < length xs) → IsMember (x ∷ xs) y →
    length (cond b (x ∷ kept) kept) < length (x ∷ xs)
less_step p x xs kept y true e h le rest m = elim (member_cases x xs y m) [
  | inl s ↦ absurd (false≢true (sym (ap p s ∙ h) ∙ e))
  | inr r ↦ let l = rest r in omega (arith, l)
]
less_step p x xs kept y false e h le rest m = omega (arith, le)

pub length-filter_less : {X : Type 0} (p : X → Bool) (xs : List X) (y : X) → IsMember xs y → p y ≡ false →
    length (filter p xs) < length xs
length-filter_less p [] y m h = absurd (member_none y m)
length-filter_less p (x ∷ xs) y m h = less_step p x xs (filter p xs) y (p x) refl h (length-filter_le p xs)
    (λ r. length-filter_less p xs y r h) m

-- a filter that all members pass keeps all
pub filter_all : {X : Type 0} (p : X → Bool) (xs : List X) → ((x : X) → IsMember xs x → p x ≡ true) → filter p xs ≡ xs
filter_all p [] all = refl
filter_all p (x ∷ xs) all =
    kept (p x) (all x (member_first x xs)) (filter_all p xs (λ y m. all y (member_later x xs y m)))
  where
    kept : (b : Bool) → b ≡ true → filter p xs ≡ xs → cond b (x ∷ filter p xs) (filter p xs) ≡ (x ∷ xs)
    kept true h e = ap (λ (ys : List _). x ∷ ys) e
    kept false h e = absurd (false≢true h)
