-- The drop that is due, by the tests of the plain program.
--
--   over_at, within_at   a bound is exceeded by some group, or by none
--   tested_found, tested_none, tested_next   the search for the first bound that is over
--   first_over_found     the first bound that is over by the tests is the first that a group exceeds
--   first_same           the first bound that is exceeded is one
--   due_from, due_to     the drop of a fact is due just where the tests say so
use Rattle.std.proofs.Common.{◌≡◌, ℕ, ◌+◌, ◌<◌, ◌≤◌, Bool, true, false, not, ◌&&◌, List, length, get_or, refl, sym, ◌∙◌, ap, subst, arith, Option, Some, None, slice_get, inl, inr}
use Rattle.std.specs.Prelude.{◌==◌, MatchOption}
use Rattle.std.specs.List.{list_any}
use Rattle.std.specs.Ordering.{nat_cmp, is_lt, is_le, is_eq}
use Rattle.std.specs.Cmp.Lexicographic.{slice_cmp, nat_list_cmp_total}
use Rattle.std.specs.Cmp.{tied_itself}
use Rattle.std.specs.declared.cmp.Ordering.{Ordering}
use Rattle.std.specs.declared.cmp.Ordering.TheVariants.{Less, Equal, Greater}
use Rattle.std.proofs.lemmas.Bool.{false≢true, and_parts, and_from, both_ways, cases_lt, cases_order, lt-ltb, ltb-true, not-true, not_from_false, true_from_ne_false}
use Rattle.std.proofs.lemmas.Option.{slice_get-get_or, slice_get_within}
use Rattle.std.proofs.lemmas.Map.Lookups.{exact_bytes}
use Rattle.ipa_spec.specs.declared.specification.Specification.{Specification}
use Rattle.ipa_spec.specs.declared.bounds.Bound.{Bound}
use Rattle.ipa_spec.specs.declared.bounds.Pick.{Pick}
use Rattle.ipa_spec.specs.declared.bounds.Pick.TheVariants.{Greatest, Youngest}
use Rattle.ipa_logic.specs.Facts.{has, fact_cmp}
use Rattle.ipa_logic.specs.FactLaws.{same_fact, fact_itself}
use Rattle.ipa_logic.specs.Groups.{key_of, is_in_group, group_of, Within}
use Rattle.ipa_logic.specs.DueDrops.{Exceeds, IsWithin, IsFirstOver, IsLeastOver, aged_cmp, IsPicked, IsDueDrop}
use Rattle.ipa_logic.specs.DropLaws.{has-filter}
use Rattle.ipa_logic.specs.Acceptance.{drop_fact}
use Rattle.ipa_logic.specs.declared.facts.Age.{Age}
use Rattle.ipa_logic.specs.declared.facts.Fact.{Fact}
use Rattle.ipa_history.specs.Histories.{IsMember}
use Rattle.ipa_history.specs.MemberLaws.{found, any_from, none_from, none_found, member-filter, filter_member}
use Rattle.ipa_history.specs.PushLaws.{at_place}
use Rattle.ipa_history.specs.Ages.{age_of}
use Rattle.ipa_history.specs.Legality.{IsDropOf}
use Rattle.ipa_history.specs.declared.history.Tx.{Tx}
use Rattle.ipa_history.specs.PlainDrops.{is_exceeded, is_over, NoneOver, IsFirstTested, has_lesser, comes_after, has_later, is_due}

-- a fact that is among some is one of them
member-has : (facts : List Fact) (f : Fact) → has facts f ≡ true → IsMember facts f
member-has facts f h =
    let g = found (λ (x : Fact). is_eq (fact_cmp f x)) facts h in
    subst (λ (x : Fact). IsMember facts x) (sym (same_fact f g.one g.passes)) g.member

has-member : (facts : List Fact) (f : Fact) → IsMember facts f → has facts f ≡ true
has-member facts f m = any_from (λ (x : Fact). is_eq (fact_cmp f x)) facts f m (fact_itself f)

equal_from : (r : Ordering) → is_eq r ≡ true → r ≡ Equal
equal_from Less h = absurd (false≢true h)
equal_from Equal h = refl
equal_from Greater h = absurd (false≢true h)

-- a fact of the group of a key has this key
key-in_group : (b : Bound) (key : List ℕ) (f : Fact) → is_in_group b key f ≡ true → key_of b f ≡ key
key-in_group b key f h =
    let parts = and_parts (f.predicate == b.predicate) (is_eq (slice_cmp nat_cmp (key_of b f) key)) h in
    exact_bytes (key_of b f) key (equal_from (slice_cmp nat_cmp (key_of b f) key) parts.1)

-- a group that exceeds a bound has a fact
record HasFact (b : Bound) (key : List ℕ) (facts : List Fact) : Type 0 where
  fact : Fact
  member : IsMember facts fact
  key_is : key_of b fact ≡ key

exceeding_fact : (b : Bound) (key : List ℕ) (facts : List Fact) → Exceeds b key facts → HasFact b key facts
exceeding_fact b key facts over =
    let x = at_place (group_of b key facts) 0 (omega (arith, over)) in
    let k = filter_member (is_in_group b key) facts x.0 (record { place = 0; at = x.1 }) in
    record { fact = x.0; member = k.member; key_is = key-in_group b key x.0 k.passes }

exceeds_there : (b : Bound) (key : List ℕ) (facts : List Fact) (f : Fact) → key_of b f ≡ key → Exceeds b key facts →
    is_exceeded b (key_of b f) facts ≡ true
exceeds_there b key facts f e over =
    lt-ltb b.most (length (group_of b (key_of b f) facts)) (subst (λ (k : List ℕ). b.most < length (group_of b k facts))
    (sym e) over)

-- a bound is exceeded by some group, or by none
pub over_at : (b : Bound) (facts : List Fact) → is_over b facts ≡ true → (key : List ℕ) × Exceeds b key facts
over_at b facts h =
    let f = found (λ (x : Fact). is_exceeded b (key_of b x) facts) facts h in
    (key_of b f.one, ltb-true b.most (length (group_of b (key_of b f.one) facts)) f.passes)

pub within_at : (b : Bound) (facts : List Fact) → is_over b facts ≡ false → IsWithin b facts
within_at b facts none = record {
  groups = λ key. elim (cases_lt b.most (length (group_of b key facts))) [
    | inr few ↦ few
    | inl over ↦
        let x = exceeding_fact b key facts over in
        absurd (none_found (λ (f : Fact). is_exceeded b (key_of b f) facts) facts none x.fact x.member
        (exceeds_there b key facts x.fact x.key_is over))
  ];
}

-- none of the first n bounds is over
abbrev pub NoneUpTo : List Bound → List Fact → ℕ → Type 0
NoneUpTo bounds facts n = (m : ℕ) (b : Bound) → m < n → slice_get bounds m ≡ Some b → is_over b facts ≡ false

module _ (bounds items : List Bound) (facts : List Fact) (same : items ≡ bounds) (n : ℕ)
    (none : NoneUpTo items facts n) where
  -- the first that is over ends the search
  pub tested_found : (x : Bound) → slice_get items n ≡ Some x → is_over x facts ≡ true → IsFirstTested bounds facts n
  tested_found x at over = record {
    bound = x;
    declared = ap (λ (bs : List Bound). slice_get bs n) (sym same) ∙ at;
    over = over;
    earlier = λ m b l e. none m b l (ap (λ (bs : List Bound). slice_get bs m) same ∙ e);
  }

  -- past the last bound none is
  pub tested_none : length items ≤ n → NoneOver bounds facts
  tested_none past = record {
    each = λ m b e.
        let at : slice_get items m ≡ Some b = ap (λ (bs : List Bound). slice_get bs m) same ∙ e in
        let inside : m < length items = slice_get_within items m b at in
        none m b (omega (arith, inside, past)) at;
  }

-- one more that is not over
pub tested_next : (items : List Bound) (facts : List Fact) (n : ℕ) (x : Bound) → slice_get items n ≡ Some x →
    is_over x facts ≡ false → NoneUpTo items facts n → NoneUpTo items facts (n + 1)
tested_next items facts n x at away none m b l e = elim (cases_lt m n) [
  | inl less ↦ none m b less e
  | inr last ↦
      let here : m ≡ n = omega (arith, l, last) in
      let both : Some x ≡ Some b = sym at ∙ (ap (slice_get items) (sym here) ∙ e) in
      let equal : x ≡ b = cc in
      subst (λ (c : Bound). is_over c facts ≡ false) equal away
]

-- the item of a place
pub item-at : (items : List Bound) (n : ℕ) (x : Bound) → n < length items → x ≡ get_or items n x →
    slice_get items n ≡ Some x
item-at items n x l is = slice_get-get_or items n x l ∙ ap (λ (b : Bound). Some b) (sym is)

-- the first bound that is over by the tests is the first that a group exceeds
pub first_over_found : (bounds : List Bound) (facts : List Fact) (r : Option ℕ) →
    MatchOption r (NoneOver bounds facts) (IsFirstTested bounds facts) →
    MatchOption r (Within bounds facts) (IsFirstOver bounds facts)
first_over_found bounds facts None h = record {
  groups = λ n b key at. let within = within_at b facts (h.each n b at) in within.groups key;
}
first_over_found bounds facts (Some n) h = let o = over_at h.bound facts h.over in
    record {
      bound = h.bound;
      declared = h.declared;
      key = o.0;
      over = o.1;
      earlier = λ m b l at. within_at b facts (h.earlier m b l at);
    }

-- the first bound that is exceeded is one
not_earlier : (bounds : List Bound) (facts : List Fact) (n m : ℕ) → IsFirstOver bounds facts n →
    IsFirstOver bounds facts m → n < m → ⊥
not_earlier bounds facts n m one two l =
    let within = two.earlier n one.bound l one.declared in
    let few = within.groups one.key in
    let many = one.over in
    absurd (omega (arith, few, many))

pub first_same : (bounds : List Bound) (facts : List Fact) (n m : ℕ) → IsFirstOver bounds facts n →
    IsFirstOver bounds facts m → n ≡ m
first_same bounds facts n m one two = elim (cases_order n m) [
  | inl same ↦ same
  | inr other ↦ elim other [
    | inl less ↦ absurd (not_earlier bounds facts n m one two less)
    | inr more ↦ absurd (not_earlier bounds facts m n two one more)
  ]
]

-- the key of the least group over the bound
least_from : (b : Bound) (key : List ℕ) (facts : List Fact) → is_exceeded b key facts ≡ true →
    has_lesser b key facts ≡ false → IsLeastOver b key facts
least_from b key facts over none = record {
  over = ltb-true b.most (length (group_of b key facts)) over;
  least = λ other before. elim (cases_lt b.most (length (group_of b other facts))) [
    | inr few ↦ few
    | inl many ↦
        let x = exceeding_fact b other facts many in
        absurd (none_found (λ (f : Fact). is_lt (slice_cmp nat_cmp (key_of b f) key) && is_exceeded b
        (key_of b f) facts) facts none x.fact x.member
        (and_from (is_lt (slice_cmp nat_cmp (key_of b x.fact) key)) (is_exceeded b (key_of b x.fact) facts)
        (subst (λ (k : List ℕ). is_lt (slice_cmp nat_cmp k key) ≡ true) (sym x.key_is) before)
        (exceeds_there b other facts x.fact x.key_is many)))
  ];
}

no_lesser : (b : Bound) (key : List ℕ) (facts : List Fact) → IsLeastOver b key facts → has_lesser b key facts ≡ false
no_lesser b key facts is =
    none_from (λ (f : Fact). is_lt (slice_cmp nat_cmp (key_of b f) key) && is_exceeded b (key_of b f) facts) facts
    (λ f m h.
    let parts = and_parts (is_lt (slice_cmp nat_cmp (key_of b f) key)) (is_exceeded b (key_of b f) facts) h in
    let few = is.least (key_of b f) parts.0 in
    let many = ltb-true b.most (length (group_of b (key_of b f) facts)) parts.1 in
    absurd (omega (arith, few, many)))

module _ (b : Bound) (ages : Fact → Age) (key : List ℕ) (facts : List Fact) (g : Fact) where
  -- a fact of the group is picked before g
  abbrev later_in : Pick → Bool
  later_in pick = list_any (λ f. is_in_group b key f && comes_after pick ages f g) facts

  none_after : (pick : Pick) → later_in pick ≡ false → (f : Fact) → has (group_of b key facts) f ≡ true →
      comes_after pick ages f g ≡ true → ⊥
  none_after pick none f h after =
      let there = has-filter (is_in_group b key) facts f h in
      none_found (λ (x : Fact). is_in_group b key x && comes_after pick ages x g) facts none f
      (member-has facts f there.0)
      (and_from (is_in_group b key f) (comes_after pick ages f g) there.1 after)

  picked_from : (pick : Pick) → has (group_of b key facts) g ≡ true → later_in pick ≡ false →
      IsPicked pick ages (group_of b key facts) g
  picked_from Greatest among none = record {
    among = among;
    greatest = λ f h. true_from_ne_false (is_le (fact_cmp f g))
        (λ e. none_after Greatest none f h (not_from_false (is_le (fact_cmp f g)) e));
  }
  picked_from Youngest among none = record {
    among = among;
    youngest = λ f h. true_from_ne_false (is_le (aged_cmp ages f g))
        (λ e. none_after Youngest none f h (not_from_false (is_le (aged_cmp ages f g)) e));
  }

  not_after : (pick : Pick) → IsPicked pick ages (group_of b key facts) g → (f : Fact) →
      has (group_of b key facts) f ≡ true → comes_after pick ages f g ≡ true → ⊥
  not_after Greatest is f h after = both_ways (is_le (fact_cmp f g)) (not-true (is_le (fact_cmp f g)) after)
      (is.greatest f h)
  not_after Youngest is f h after = both_ways (is_le (aged_cmp ages f g)) (not-true (is_le (aged_cmp ages f g)) after)
      (is.youngest f h)

  among : (pick : Pick) → IsPicked pick ages (group_of b key facts) g → has (group_of b key facts) g ≡ true
  among Greatest is = is.among
  among Youngest is = is.among

  none_later : (pick : Pick) → IsPicked pick ages (group_of b key facts) g → later_in pick ≡ false
  none_later pick is = none_from (λ (x : Fact). is_in_group b key x && comes_after pick ages x g) facts (λ f m h.
      let parts = and_parts (is_in_group b key f) (comes_after pick ages f g) h in
      not_after pick is f (has-member (group_of b key facts) f
      (member-filter (is_in_group b key) facts f m parts.0)) parts.1)

-- the tests are those of the definition
module _ (b : Bound) (ages : Fact → Age) (facts : List Fact) (g : Fact) where
  abbrev first_part : Bool
  first_part = ((g.predicate == b.predicate) && has facts g) && is_exceeded b (key_of b g) facts

  abbrev second_part : Bool
  second_part = not (has_lesser b (key_of b g) facts) && not (has_later b ages (key_of b g) facts g)

  own_group : g.predicate == b.predicate ≡ true → is_in_group b (key_of b g) g ≡ true
  own_group h = and_from (g.predicate == b.predicate) (is_eq (slice_cmp nat_cmp (key_of b g) (key_of b g))) h
      (ap is_eq (tied_itself nat_list_cmp_total (key_of b g)))

  pub due_from : (bounds : List Bound) (n : ℕ) → IsFirstOver bounds facts n → slice_get bounds n ≡ Some b →
      is_due b ages facts g ≡ true → IsDueDrop bounds facts ages n g
  due_from bounds n first declared h =
      let halves = and_parts first_part second_part h in
      let one = and_parts ((g.predicate == b.predicate) && has facts g) (is_exceeded b (key_of b g) facts) halves.0 in
      let here = and_parts (g.predicate == b.predicate) (has facts g) one.0 in
      let two = and_parts (not (has_lesser b (key_of b g) facts))
      (not (has_later b ages (key_of b g) facts g)) halves.1 in
      record {
        bound = b;
        key = key_of b g;
        group = record {
          first = first;
          declared = declared;
          least = least_from b (key_of b g) facts one.1 (not-true (has_lesser b (key_of b g) facts) two.0);
        };
        removed = picked_from b ages (key_of b g) facts g b.pick
            (has-member (group_of b (key_of b g) facts) g
            (member-filter (is_in_group b (key_of b g)) facts g (member-has facts g here.1) (own_group here.0)))
            (not-true (has_later b ages (key_of b g) facts g) two.1);
      }

  at_key : has (group_of b (key_of b g) facts) g ≡ true → IsLeastOver b (key_of b g) facts →
      IsPicked b.pick ages (group_of b (key_of b g) facts) g → is_due b ages facts g ≡ true
  at_key inside least picked =
      let there = has-filter (is_in_group b (key_of b g)) facts g inside in
      let parts = and_parts (g.predicate == b.predicate) (is_eq
      (slice_cmp nat_cmp (key_of b g) (key_of b g))) there.1 in
      and_from first_part second_part
      (and_from ((g.predicate == b.predicate) && has facts g) (is_exceeded b (key_of b g) facts)
      (and_from (g.predicate == b.predicate) (has facts g) parts.0 there.0)
      (lt-ltb b.most (length (group_of b (key_of b g) facts)) least.over))
      (and_from (not (has_lesser b (key_of b g) facts)) (not (has_later b ages (key_of b g) facts g))
      (not_from_false (has_lesser b (key_of b g) facts) (no_lesser b (key_of b g) facts least))
      (not_from_false (has_later b ages (key_of b g) facts g) (none_later b ages (key_of b g) facts g b.pick picked)))

  at_any_key : (key : List ℕ) → IsLeastOver b key facts → IsPicked b.pick ages (group_of b key facts) g →
      is_due b ages facts g ≡ true
  at_any_key key least picked =
      let inside = among b ages key facts g b.pick picked in
      let there = has-filter (is_in_group b key) facts g inside in
      let own : key_of b g ≡ key = key-in_group b key g there.1 in
      at_key (subst (λ (k : List ℕ). has (group_of b k facts) g ≡ true) (sym own) inside)
      (subst (λ (k : List ℕ). IsLeastOver b k facts) (sym own) least)
      (subst (λ (k : List ℕ). IsPicked b.pick ages (group_of b k facts) g) (sym own) picked)

pub due_to : (b : Bound) (ages : Fact → Age) (facts : List Fact) (g : Fact) (bounds : List Bound) (n : ℕ) →
    slice_get bounds n ≡ Some b → IsDueDrop bounds facts ages n g → is_due b ages facts g ≡ true
due_to b ages facts g bounds n declared is =
    let both : Some is.bound ≡ Some b = sym is.group.declared ∙ declared in
    let same : is.bound ≡ b = cc in
    subst (λ (c : Bound). is_due c ages facts g ≡ true) same
    (at_any_key is.bound ages facts g is.key is.group.least is.removed)

-- whether the drop of bound n is the transaction's, where the first bound that is over is known
module _ (s : Specification) (members : List Tx) (t : Tx) (facts : List Fact) (n : ℕ) (b : Bound)
    (declared : slice_get s.bounds n ≡ Some b) where
  abbrev fact : Fact
  fact = drop_fact s b t.args

  pub drop_from : (first : ℕ) → IsFirstTested s.bounds facts first → first ≡ n →
      is_due b (age_of s members) facts fact ≡ true → IsDropOf s n members t facts
  drop_from first is same due = record {
    bound = b;
    declared = declared;
    due = due_from b (age_of s members) facts fact s.bounds n
        (subst (λ (m : ℕ). IsFirstOver s.bounds facts m) same
        (first_over_found s.bounds facts (Some first) is)) declared due;
  }

  -- the bound of such a drop is this one
  own-fact : (d : IsDropOf s n members t facts) → IsDueDrop s.bounds facts (age_of s members) n fact
  own-fact d =
      let both : Some d.bound ≡ Some b = sym d.declared ∙ declared in
      let same : d.bound ≡ b = cc in
      subst (λ (c : Bound). IsDueDrop s.bounds facts (age_of s members) n (drop_fact s c t.args)) same d.due

  pub drop_to : IsDropOf s n members t facts → is_due b (age_of s members) facts fact ≡ true
  drop_to d = due_to b (age_of s members) facts fact s.bounds n declared (own-fact d)

  pub drop_first : (first : ℕ) → IsFirstTested s.bounds facts first → IsDropOf s n members t facts → first ≡ n
  drop_first first is d = first_same s.bounds facts first n (first_over_found s.bounds facts
      (Some first) is) d.due.group.first

-- within the bounds no drop is due
pub none_due : (s : Specification) (members : List Tx) (t : Tx) (facts : List Fact) (n : ℕ) → NoneOver s.bounds facts →
    IsDropOf s n members t facts → ⊥
none_due s members t facts n none d =
    let first = d.due.group.first in
    let within = first_over_found s.bounds facts None none in
    let few = within.groups n first.bound first.key first.declared in
    let many = first.over in
    absurd (omega (arith, few, many))

-- nor that of a bound that is not declared
pub none_declared : (s : Specification) (members : List Tx) (t : Tx) (facts : List Fact) (n : ℕ) →
    slice_get s.bounds n ≡ None → IsDropOf s n members t facts → ⊥
none_declared s members t facts n none d = let e : None ≡ Some d.bound = sym none ∙ d.declared in absurd cc
