-- The choice of the group of least key.
use Rattle.std.proofs.Common.{◌≡◌, ℕ, ◌<◌, Bool, true, false, cond, ◌||◌, ◌&&◌, ◌==◌, ◌↔◌, List, [], ◌∷◌, length, filter, find, Option, None, Some, refl, sym, ◌∙◌, ap, subst, arith, ◌⊎◌, inl, inr}
use Rattle.std.proofs.lemmas.Bool.{cases_lt, and_parts, or_right, false≢true}
use Rattle.std.proofs.lemmas.Map.Lookups.{exact_bytes}
use Rattle.std.specs.Option.{MatchOption}
use Rattle.std.specs.Ordering.{nat_cmp, is_eq}
use Rattle.std.specs.Cmp.{Equal-is}
use Rattle.std.specs.Cmp.Lexicographic.{slice_cmp, nat_list_cmp_total}
use Rattle.ipa_spec.specs.declared.bounds.Bound.{Bound}
use Rattle.ipa_logic.specs.Facts.{fact_cmp, has}
use Rattle.ipa_logic.specs.FactLaws.{same_fact, fact_itself}
use Rattle.ipa_logic.specs.OrderLaws.{lt-itself, lt-through}
use Rattle.ipa_logic.specs.Views.{is_left}
use Rattle.ipa_logic.specs.Groups.{key_of, is_in_group, group_of}
use Rattle.ipa_logic.specs.DueDrops.{Exceeds, IsWithin, IsLeastOver}
use Rattle.ipa_logic.specs.declared.facts.Fact.{Fact}
use Rattle.ipa_logic.specs.Walks.{facts_after}
use Rattle.ipa_bounds.specs.Choices.{comes_before, first_of, LeadsExcess, IsUpTo, IsOverBest, Improves}
use Rattle.ipa_bounds.proofs.GroupLemmas.{group-walk}

-- the fact is chosen
pub better-new : (b : Bound) (state : List Fact) (best : Option Fact) (f : Fact) → comes_before b f best ≡ true → LeadsExcess b state f → Improves b state best f (Some f)
better-new b state best f l e = record { over = λ _. e.over; own = λ _. lt-itself nat_list_cmp_total (key_of b f); others = others best l }
  where
    others : (best : Option Fact) → comes_before b f best ≡ true → (key : List ℕ) → IsUpTo b best key → IsUpTo b (Some f) key
    others None l key h = absurd h
    others (Some g) l key h = lt-through nat_list_cmp_total key (key_of b f) (key_of b g) l h

-- the key of a fact of a group
pub key-in_group : (b : Bound) (key : List ℕ) (f : Fact) → is_in_group b key f ≡ true → key_of b f ≡ key
key-in_group b key f h = exact_bytes _ _ ((Equal-is (slice_cmp nat_cmp (key_of b f) key)).0 ((and_parts (f.predicate == b.predicate) _ h).1))

-- the first of the facts that pass a filter is among those filtered, and passes
found-filtered : (r q : Fact → Bool) (s : List Fact) (f : Fact) → find r (filter q s) ≡ Some f → (q f ≡ true) × (has s f ≡ true)
found-filtered r q [] f e = absurd (let no : None ≡ Some f = e in cc)
found-filtered r q (x ∷ xs) f e = here (q x) (r x) refl e (found-filtered r q xs f)
  where
    here : (a b : Bool) → q x ≡ a → find r (cond a (x ∷ filter q xs) (filter q xs)) ≡ Some f
        → (find r (filter q xs) ≡ Some f → (q f ≡ true) × (has xs f ≡ true)) → (q f ≡ true) × (has (x ∷ xs) f ≡ true)
    here false b k e rest = let more = rest e in (more.0, or_right (is_eq (fact_cmp f x)) (has xs f) more.1)
    here true b k e rest = met (r x) e
      where
        met : (b : Bool) → cond b (Some x) (find r (filter q xs)) ≡ Some f → (q f ≡ true) × (has (x ∷ xs) f ≡ true)
        met true e = let same : x ≡ f = cc in (ap q (sym same) ∙ k, ap (λ (g : Fact). is_eq (fact_cmp g x) || has xs g) (sym same) ∙ ap (λ (b : Bool). b || has xs x) (fact_itself x))
        met false e = let more = rest e in (more.0, or_right (is_eq (fact_cmp f x)) (has xs f) more.1)

-- the first of a group, where there is one
record IsFirst (b : Bound) (key : List ℕ) (state : List Fact) : Type 0 where
  pub fact : Fact
  pub first : first_of b key state ≡ Some fact
  pub member : is_in_group b key fact ≡ true

first-exists : (b : Bound) (key : List ℕ) (state : List Fact) → 0 < length (group_of b key state) → IsFirst b key state
first-exists b key [] h = absurd (omega arith)
first-exists b key (x ∷ xs) h = here (is_in_group b key x) refl h (first-exists b key xs)
  where
    here : (a : Bool) → is_in_group b key x ≡ a → 0 < length (cond a (x ∷ group_of b key xs) (group_of b key xs)) → (0 < length (group_of b key xs) → IsFirst b key xs) → IsFirst b key (x ∷ xs)
    here true e l more = record {
      fact = x;
      first = ap (λ (a : Bool). find (is_left b.predicate None) (cond a (x ∷ group_of b key xs) (group_of b key xs))) e
          ∙ ap (λ (a : Bool). cond a (Some x) (find (is_left b.predicate None) (group_of b key xs))) (ap (λ (a : Bool). a && true) (and_parts (x.predicate == b.predicate) _ e).0);
      member = e;
    }
    here false e l more = let rest = more l in record {
      fact = rest.fact;
      first = ap (λ (a : Bool). find (is_left b.predicate None) (cond a (x ∷ group_of b key xs) (group_of b key xs))) e ∙ rest.first;
      member = rest.member;
    }

-- what is known where these facts are left of the walk: a group over the bound has its first fact among them, or a key up to the best so far
pub record Searched (b : Bound) (state : List Fact) (best : Option Fact) (left : List Fact) : Type 0 where
  pub over : IsOverBest b state best
  pub found : (f : Fact) → LeadsExcess b state f → (has left f ≡ true) ⊎ IsUpTo b best (key_of b f)

pub searched-start : (b : Bound) (state left : List Fact) → left ≡ facts_after state b.predicate None → Searched b state None left
searched-start b state left e = record {
  over = tt;
  found = λ f leads. inl (ap (λ (t : List Fact). has t f) e ∙ (found-filtered (is_left b.predicate None) (is_in_group b (key_of b f)) (facts_after state b.predicate None) f
      (ap (find (is_left b.predicate None)) (group-walk b (key_of b f) state) ∙ leads.first)).1);
}

pub searched-step : (b : Bound) (state : List Fact) (best new : Option Fact) (f : Fact) (left rest : List Fact) → left ≡ f ∷ rest → Searched b state best left → Improves b state best f new → Searched b state new rest
searched-step b state best new f left rest e s i = record {
  over = i.over s.over;
  found = λ g leads. elim (s.found g leads) [
    | inl among ↦ here g leads (is_eq (fact_cmp g f)) refl (sym (ap (λ (t : List Fact). has t g) e) ∙ among)
    | inr old ↦ inr (i.others (key_of b g) old)
  ];
}
  where
    here : (g : Fact) → LeadsExcess b state g → (t : Bool) → is_eq (fact_cmp g f) ≡ t → (t || has rest g) ≡ true → (has rest g ≡ true) ⊎ IsUpTo b new (key_of b g)
    here g leads true q h = inr (subst (λ (x : Fact). LeadsExcess b state x → IsUpTo b new (key_of b x)) (sym (same_fact g f q)) i.own leads)
    here g leads false q h = inl h

-- a group over the bound has a first fact, which leads it
up-to : (b : Bound) (state : List Fact) (best : Option Fact) → ((f : Fact) → LeadsExcess b state f → IsUpTo b best (key_of b f)) → (key : List ℕ) → Exceeds b key state → IsUpTo b best key
up-to b state best h key over =
    let first = first-exists b key state (omega arith) in
    let same = key-in_group b key first.fact first.member in
    subst (IsUpTo b best) same (h first.fact (record {
      first = ap (λ (k : List ℕ). first_of b k state) same ∙ first.first;
      over = subst (λ (k : List ℕ). Exceeds b k state) (sym same) over;
    }))

pub searched-end : (b : Bound) (state : List Fact) (best : Option Fact) (left : List Fact) → left ≡ [] → Searched b state best left → MatchOption best (IsWithin b state) (λ f. IsLeastOver b (key_of b f) state)
searched-end b state best left e s = here best s.over
    (up-to b state best (λ f leads. elim (s.found f leads) [ inl among ↦ absurd (false≢true (sym (ap (λ (t : List Fact). has t f) e) ∙ among)) | inr old ↦ old ]))
  where
    here : (best : Option Fact) → IsOverBest b state best → ((key : List ℕ) → Exceeds b key state → IsUpTo b best key) → MatchOption best (IsWithin b state) (λ f. IsLeastOver b (key_of b f) state)
    here None o h = record { groups = λ key. elim (cases_lt b.most (length (group_of b key state))) [ inl over ↦ absurd (h key over) | inr few ↦ few ] }
    here (Some f) o h = record { over = o; least = λ other l. elim (cases_lt b.most (length (group_of b other state))) [ inl over ↦ absurd (false≢true (sym (h other over) ∙ l)) | inr few ↦ few ] }

-- the first of a group is the fact, where the two are the same
pub first-same : (first : Option Fact) (g f : Fact) → Some g ≡ first → (is_eq (fact_cmp g f) ≡ true) ↔ (first ≡ Some f)
first-same first g f e = (λ h. sym e ∙ ap Some (same_fact g f h), λ h. let both : Some g ≡ Some f = e ∙ h in let same : g ≡ f = cc in ap (λ (x : Fact). is_eq (fact_cmp x f)) same ∙ fact_itself f)
