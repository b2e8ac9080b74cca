-- The choice of the fact of a group that a drop removes.
use Rattle.std.proofs.Common.{◌≡◌, ℕ, Bool, true, false, ◌||◌, ◌&&◌, ◌==◌, List, [], ◌∷◌, Option, None, Some, refl, sym, ◌∙◌, ap, subst, inl, inr}
use Rattle.std.proofs.lemmas.Bool.{cases_Bool, and_parts, false≢true}
use Rattle.std.proofs.lemmas.List.Kept.{IsStrictlySortedBy-filter}
use Rattle.std.specs.Ordering.{is_lt, is_le, ordering_then, ordering_reverse}
use Rattle.std.specs.Cmp.{IsTotalOrder, on_total, then_total, nat_cmp_total}
use Rattle.std.specs.declared.cmp.Ordering.{Ordering}
use Rattle.std.specs.declared.cmp.Ordering.TheVariants.{Less, Equal, Greater}
use Rattle.ipa_spec.specs.declared.bounds.Bound.{Bound}
use Rattle.ipa_spec.specs.declared.bounds.Pick.{Pick}
use Rattle.ipa_spec.specs.declared.bounds.Pick.TheVariants.{Greatest, Youngest}
use Rattle.ipa_logic.specs.Facts.{fact_cmp, has, IsRising}
use Rattle.ipa_logic.specs.FactLaws.{fact_cmp_total, fact_itself}
use Rattle.ipa_logic.specs.OrderLaws.{Less-from_lt, lt-itself, lt-turned, lt-past}
use Rattle.ipa_logic.specs.Views.{is_left, next_fact, IsNextOf}
use Rattle.ipa_logic.specs.NextLaws.{next-found}
use Rattle.ipa_logic.specs.Groups.{is_in_group, group_of}
use Rattle.ipa_logic.specs.DueDrops.{age_cmp, aged_cmp, IsYoungest, IsPicked}
use Rattle.ipa_logic.specs.declared.facts.Age.{Age}
use Rattle.ipa_logic.specs.declared.facts.Fact.{Fact}
use Rattle.ipa_bounds.specs.Picks.{pick_ages, aged_order, IsYoungerOf, IsAgedOf, IsBestOf}
use Rattle.ipa_bounds.specs.declared.picks.Aged.{Aged}
use Rattle.ipa_logic.specs.EitherLaws.{same-from_neither}
use Rattle.ipa_logic.specs.DropLaws.{has-filter}

-- ages are in a total order
age_cmp_total : IsTotalOrder age_cmp
age_cmp_total = then_total (on_total (λ (a : Age). a.size) nat_cmp_total) (on_total (λ (a : Age). a.origin) nat_cmp_total)

-- and so are facts by their ages
aged_cmp_total : (ages : Fact → Age) → IsTotalOrder (aged_cmp ages)
aged_cmp_total ages = then_total (on_total ages age_cmp_total) fact_cmp_total

-- and facts with their ages
aged_order_total : IsTotalOrder aged_order
aged_order_total = then_total (on_total (λ (a : Aged). a.age) age_cmp_total) (on_total (λ (a : Aged). a.fact) fact_cmp_total)

-- the later of two
pub younger-first : (best : Option Aged) (a : Aged) → best ≡ None → IsYoungerOf best a a
younger-first best a e = record {
  either = inr refl;
  old = λ b k. absurd (let both : None ≡ Some b = sym e ∙ k in cc);
  new = lt-itself aged_order_total a;
}

pub younger-old : (best : Option Aged) (a b : Aged) → best ≡ Some b → is_lt (aged_order a b) ≡ true → IsYoungerOf best a b
younger-old best a b e l = record {
  either = inl e;
  old = λ c k. let both : Some b ≡ Some c = sym e ∙ k in let same : b ≡ c = cc in subst (λ (x : Aged). is_lt (aged_order b x) ≡ false) same (lt-itself aged_order_total b);
  new = lt-turned aged_order_total a b (Less-from_lt _ l);
}

pub younger-new : (best : Option Aged) (a b : Aged) → best ≡ Some b → is_lt (aged_order a b) ≡ false → IsYoungerOf best a a
younger-new best a b e l = record {
  either = inr refl;
  old = λ c k. let both : Some b ≡ Some c = sym e ∙ k in let same : b ≡ c = cc in subst (λ (x : Aged). is_lt (aged_order a x) ≡ false) same l;
  new = lt-itself aged_order_total a;
}

-- the best so far is not older than the fact
abbrev pub IsUpTo : (Fact → Age) → Option Aged → Fact → Type 0
IsUpTo ages None f = ⊥
IsUpTo ages (Some a) f = is_lt (aged_cmp ages a.fact f) ≡ false

-- the best so far, if there is one, is of the group and has its age
abbrev pub IsOwn : (Fact → Age) → List Fact → Option Aged → Type 0
IsOwn ages group None = Unit {0}
IsOwn ages group (Some a) = IsAgedOf ages group a

-- what is known of the facts of a group where those above `last` are left of the walk
pub record Walked (ages : Fact → Age) (group : List Fact) (p : ℕ) (last : Option Fact) (best : Option Aged) : Type 0 where
  pub own : IsOwn ages group best
  pub passed : (f : Fact) → has group f ≡ true → is_left p last f ≡ false → IsUpTo ages best f

-- the order of facts with their own ages
own-order : (ages : Fact → Age) (a b : Aged) → a.age ≡ ages a.fact → b.age ≡ ages b.fact → is_lt (aged_order a b) ≡ false → is_lt (aged_cmp ages a.fact b.fact) ≡ false
own-order ages a b e k l = sym (λ i. is_lt (ordering_then (age_cmp (e i) (k i)) (fact_cmp a.fact b.fact))) ∙ l

le-turned : (ages : Fact → Age) (f g : Fact) → is_lt (aged_cmp ages g f) ≡ false → is_le (aged_cmp ages f g) ≡ true
le-turned ages f g l = ap is_le ((aged_cmp_total ages).antisymm f g) ∙ here (aged_cmp ages g f) l
  where
    here : (r : Ordering) → is_lt r ≡ false → is_le (ordering_reverse r) ≡ true
    here Less h = absurd (false≢true (sym h))
    here Equal h = refl
    here Greater h = refl

module _ (ages : Fact → Age) (b : Bound) (key : List ℕ) (state : List Fact) where
  in-predicate : (f : Fact) → has (group_of b key state) f ≡ true → (f.predicate == b.predicate) ≡ true
  in-predicate f h = (and_parts (f.predicate == b.predicate) _ (has-filter (is_in_group b key) state f h).1).0

  -- before the first all facts are left
  pub walked-start : Walked ages (group_of b key state) b.predicate None None
  walked-start = record {
    own = tt;
    passed = λ f h l. false≢true (sym l ∙ ap (λ (c : Bool). c && true) (in-predicate f h));
  }

  rising-group : IsRising state → IsRising (group_of b key state)
  rising-group r = IsStrictlySortedBy-filter fact_cmp (is_in_group b key) state r

  next-in_group : (last r : Option Fact) → IsRising state → r ≡ next_fact (group_of b key state) b.predicate last → IsNextOf (has (group_of b key state)) b.predicate last r
  next-in_group last r rising e = subst (IsNextOf (has (group_of b key state)) b.predicate last) (sym e) (next-found b.predicate last (group_of b key state) (rising-group rising))

  -- the next fact of the group is true
  pub next-true : (last : Option Fact) (f : Fact) → IsRising state → Some f ≡ next_fact (group_of b key state) b.predicate last → has state f ≡ true
  next-true last f rising e = (has-filter (is_in_group b key) state f (next-in_group last (Some f) rising e).passes).0

  -- one more fact
  pub walked-next : (last : Option Fact) (best : Option Aged) (f : Fact) (age : Age) (r : Aged) → IsRising state → Some f ≡ next_fact (group_of b key state) b.predicate last
      → age ≡ ages f → Walked ages (group_of b key state) b.predicate last best → IsYoungerOf best (record { age = age; fact = f }) r
      → Walked ages (group_of b key state) b.predicate (Some f) (Some r)
  walked-next last best f age r rising e at w y = record {
    own = elim y.either [
      | inl same ↦ subst (IsOwn ages (group_of b key state)) same w.own
      | inr same ↦ subst (IsAgedOf ages (group_of b key state)) (sym same) here
    ];
    passed = λ g h l. elim (cases_Bool (is_left b.predicate last g)) [
      | inl left ↦
          let above : is_lt (fact_cmp f g) ≡ false = sym (ap (λ (c : Bool). c && is_lt (fact_cmp f g)) (in-predicate g h)) ∙ l in
          let same : g ≡ f = same-from_neither g f (next.least g h left) above in
          subst (λ (x : Fact). is_lt (aged_cmp ages r.fact x) ≡ false) (sym same) (own-order ages r (record { age = age; fact = f }) own.own at y.new)
      | inr gone ↦ older best g refl (w.passed g h gone) w.own
    ];
  }
    where
      next : IsNextOf (has (group_of b key state)) b.predicate last (Some f)
      next = next-in_group last (Some f) rising e

      here : IsAgedOf ages (group_of b key state) (record { age = age; fact = f })
      here = record { among = next.passes; own = at }

      own : IsAgedOf ages (group_of b key state) r
      own = elim y.either [
        | inl same ↦ subst (IsOwn ages (group_of b key state)) same w.own
        | inr same ↦ subst (IsAgedOf ages (group_of b key state)) (sym same) here
      ]

      older : (c : Option Aged) (g : Fact) → best ≡ c → IsUpTo ages c g → IsOwn ages (group_of b key state) c → is_lt (aged_cmp ages r.fact g) ≡ false
      older None g k h o = absurd h
      older (Some a) g k h o = lt-past (aged_cmp_total ages) r.fact a.fact g (own-order ages r a own.own o.own (y.old a k)) h

  -- all facts are passed
  pub walked-end : (last : Option Fact) (best : Option Aged) → IsRising state → None ≡ next_fact (group_of b key state) b.predicate last
      → Walked ages (group_of b key state) b.predicate last best → IsBestOf ages (group_of b key state) best
  walked-end last best rising e w = done best w.own (λ f h. w.passed f h ((next-in_group last None rising e).none f h))
    where
      empty : (s : List Fact) → ((f : Fact) → has s f ≡ true → ⊥) → s ≡ []
      empty [] h = refl
      empty (x ∷ xs) h = absurd (h x (ap (λ (c : Bool). c || has xs x) (fact_itself x)))

      done : (best : Option Aged) → IsOwn ages (group_of b key state) best → ((f : Fact) → has (group_of b key state) f ≡ true → IsUpTo ages best f)
          → IsBestOf ages (group_of b key state) best
      done None o h = empty (group_of b key state) h
      done (Some a) o h = record { among = o.among; youngest = λ f k. le-turned ages f a.fact (h f k) }

-- the youngest, by the ages that facts have to a bound, is the one that the bound picks
pub picked-youngest : (pick : Pick) (ages : Fact → Age) (group : List Fact) (f : Fact) → IsYoungest (pick_ages pick ages) group f → IsPicked pick ages group f
picked-youngest Greatest ages group f y = record { among = y.among; greatest = y.youngest }
picked-youngest Youngest ages group f y = y

pub picked-none : (ages : Fact → Age) (group : List Fact) (best : Option Aged) → None ≡ best → IsBestOf ages group best → group ≡ []
picked-none ages group None e h = h
picked-none ages group (Some a) e h = cc
