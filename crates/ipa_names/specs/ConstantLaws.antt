-- How many constants there are, where each sort keeps within its limit.
--
--   constants_few    at most four for each declared sort
--   constants_more   each sort keeps within its limit with one more constant of a sort that has room
--   numbered_few     at most four are of the sort of a number
use Rattle.std.proofs.Common.{◌≡◌, ℕ, ◌+◌, ◌*◌, ◌≤◌, Bool, true, false, cond, not, ◌||◌, ◌==◌, List, [], ◌∷◌, ◌++◌, length, filter, take, Some, refl, sym, ap, ◌∙◌, arith}
use Rattle.std.specs.List.{slice_get, list_any}
use Rattle.std.specs.Str.{bytes_eq}
use Rattle.std.proofs.lemmas.Bool.{false≢true, eqb-true}
use Rattle.std.proofs.lemmas.List.{length-append}
use Rattle.std.proofs.lemmas.List.Elements.{filter-append}
use Rattle.std.proofs.lemmas.List.Filters.{length-filter_both}
use Rattle.ipa_spec.specs.Faults.{same_name}
use Rattle.ipa_spec.specs.FoundLaws.{found_at}
use Rattle.ipa_spec.specs.NameLaws.{same_bytes}
use Rattle.ipa_spec.specs.declared.names.Name.{Name}
use Rattle.ipa_forms.specs.declared.forms.Typed.{Typed}
use Rattle.ipa_names.specs.Naming.{is_among}
use Rattle.ipa_names.specs.Scopes.{constants_named}
use Rattle.ipa_names.specs.Meaning.{sort_number}
use Rattle.ipa_names.specs.FilterLaws.{passing_at, filter_fewer, filter_weaker, filter_none}
use Rattle.ipa_names.specs.NumberLaws.{same_by_number}
use Rattle.ipa_names.specs.declared.declared.Declared.{Declared}

-- each constant is of one of these sorts
abbrev pub AreOfSorts : List Name → List Typed → Type 0
AreOfSorts sorts cs = (n : ℕ) (c : Typed) → slice_get cs n ≡ Some c → is_among sorts c.sort ≡ true

-- each sort keeps within its limit
abbrev pub KeepLimit : List Typed → Type 0
KeepLimit cs = (sort : Name) → length (constants_named cs sort) ≤ 4

other_half : (a b : Bool) → not a ≡ true → (a || b) ≡ true → b ≡ true
other_half true b n h = cc
other_half false b n h = h

pub constants_few : (sorts : List Name) (cs : List Typed) → AreOfSorts sorts cs → KeepLimit cs →
    length cs ≤ 4 * length sorts
constants_few [] [] declared most = omega arith
constants_few [] (c ∷ cs) declared most = absurd (false≢true (declared 0 c refl))
constants_few (s ∷ ss) cs declared most =
    let rest = constants_few ss (filter (λ c. not (same_name s c.sort)) cs)
    (λ n c e.
    let p = passing_at (λ k. not (same_name s k.sort)) cs n c e in
    other_half (same_name s c.sort) (is_among ss c.sort) p.passes (declared p.place c p.at))
    (λ sort.
    omega (arith, filter_fewer (λ c. same_name sort c.sort) (λ c. not (same_name s c.sort)) cs, most sort)) in
    let both = length-filter_both (λ c. same_name s c.sort) (λ c. not (same_name s c.sort)) (λ c. refl) cs in
    omega (arith, rest, both, most s)

pub constants_more : (cs : List Typed) (c : Typed) → KeepLimit cs → length (constants_named cs c.sort) + 1 ≤ 4 →
    KeepLimit (cs ++ c ∷ [])
constants_more cs c most room sort =
    let parts = ap length (filter-append (λ k. same_name sort k.sort) cs (c ∷ [])) in
    let within = step (same_name sort c.sort) refl in
    omega (arith, parts, within)
  where
    step : (b : Bool) → same_name sort c.sort ≡ b → length (constants_named cs sort ++ cond b (c ∷ []) []) ≤ 4
    step true is =
        let same : constants_named cs sort ≡ constants_named cs c.sort =
        ap (λ bytes. filter (λ (k : Typed). bytes_eq bytes (take k.sort.len k.sort.bytes)) cs) (same_bytes sort c.sort is) in
        omega (arith, length-append (constants_named cs sort) (c ∷ []), ap length same, room)
    step false is = omega (arith, length-append (constants_named cs sort) [], most sort)

pub numbered_few : (d : Declared) → AreOfSorts d.sorts d.constants → KeepLimit d.constants → (k : ℕ) →
    length (filter (λ c. sort_number d c.sort == k) d.constants) ≤ 4
numbered_few d declared most k = step (list_any (λ c. sort_number d c.sort == k) d.constants) refl
  where
    step : (b : Bool) → list_any (λ c. sort_number d c.sort == k) d.constants ≡ b →
        length (filter (λ c. sort_number d c.sort == k) d.constants) ≤ 4
    step false e = omega (arith, filter_none (λ c. sort_number d c.sort == k) d.constants e)
    step true e =
        let f = found_at (λ c. sort_number d c.sort == k) d.constants e in
        let weaker = filter_weaker (λ c. sort_number d c.sort == k) (λ c. same_name f.item.sort c.sort) d.constants
        (λ n c at is.
        same_by_number d.sorts f.item.sort c.sort (declared f.place f.item f.at) (declared n c at)
        (eqb-true (sort_number d f.item.sort) k f.passes ∙ sym (eqb-true (sort_number d c.sort) k is))) in
        omega (arith, weaker, most f.item.sort)
