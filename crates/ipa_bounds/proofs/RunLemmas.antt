-- Walks through facts in order of their keys.
use Rattle.std.proofs.Common.{◌≡◌, ℕ, ◌+◌, ◌<◌, ◌≤◌, ◌≢◌, Bool, true, false, cond, ◌&&◌, ◌==◌, List, [], ◌∷◌, ◌++◌, length, filter, nat_cmp, Option, None, Some, refl, sym, ◌∙◌, ap, subst, arith, inl, inr, length-append, append_assoc}
use Rattle.std.proofs.lemmas.List.{append-nil}
use Rattle.std.proofs.lemmas.Bool.{cases_Bool, false≢true}
use Rattle.std.proofs.Math.Bool.{and-true}
use Rattle.std.proofs.lemmas.List.Elements.{filter-append}
use Rattle.std.proofs.lemmas.Map.Lookups.{exact_bytes}
use Rattle.std.specs.Option.{MatchOption, is_some}
use Rattle.std.specs.Ordering.{is_lt, is_eq, match_ordering, ordering_reverse}
use Rattle.std.specs.Cmp.{tied_itself, Equal-is}
use Rattle.std.specs.Cmp.Lexicographic.{slice_cmp, nat_list_cmp_total}
use Rattle.std.specs.declared.cmp.Ordering.{Ordering}
use Rattle.std.specs.declared.cmp.Ordering.TheVariants.{Less, Equal, Greater}
use Rattle.ipa_spec.specs.declared.bounds.Bound.{Bound}
use Rattle.ipa_logic.specs.OrderLaws.{Less-from_lt, lt-itself, lt-from_past, lt-past}
use Rattle.ipa_logic.specs.Views.{is_left}
use Rattle.ipa_logic.specs.Groups.{key_of, group_of}
use Rattle.ipa_logic.specs.DueDrops.{IsWithin, IsLeastOver}
use Rattle.ipa_logic.specs.declared.facts.Fact.{Fact}
use Rattle.ipa_logic.specs.Walks.{facts_after}
use Rattle.ipa_bounds.specs.Runs.{has_key, with_key, count_before, IsHighest, IsRun}
use Rattle.ipa_logic.specs.FilterLaws.{filter-both}

module _ (b : Bound) where
  -- a fact with a key after another has not that one
  other-after : (k : List ℕ) (f : Fact) → is_lt (slice_cmp nat_cmp (key_of b f) k) ≡ true → has_key b k f ≡ false
  other-after k f h = ap is_eq (Less-from_lt _ h)

  -- nor one with a key before another
  other-before : (k : List ℕ) (f : Fact) (g : List ℕ) → is_lt (slice_cmp nat_cmp k g) ≡ true → is_lt (slice_cmp nat_cmp (key_of b f) g) ≡ false → has_key b k f ≡ false
  other-before k f g l n = elim (cases_Bool (has_key b k f)) [
    | inl same ↦ absurd (false≢true (sym n ∙ subst (λ (x : List ℕ). is_lt (slice_cmp nat_cmp x g) ≡ true) (sym (exact_bytes _ _ ((Equal-is _).0 same))) l))
    | inr other ↦ other
  ]

  own-key : (f : Fact) → has_key b (key_of b f) f ≡ true
  own-key f = ap is_eq (tied_itself nat_list_cmp_total (key_of b f))

  -- one more fact
  more : (k : List ℕ) (seen : List Fact) (f : Fact) (t : Bool) → has_key b k f ≡ t → length (with_key b k (seen ++ f ∷ [])) ≡ length (with_key b k seen) + cond t 1 0
  more k seen f t e = ap length (filter-append (has_key b k) seen (f ∷ [])) ∙ (length-append (with_key b k seen) (with_key b k (f ∷ [])) ∙ ap (λ (n : ℕ). length (with_key b k seen) + n) (ap (λ (u : Bool). length (cond u (f ∷ []) [])) e ∙ one t))
    where
      one : (t : Bool) → length (cond t (f ∷ []) []) ≡ cond t 1 0
      one true = refl
      one false = refl

  -- what is known of the facts seen when f comes
  record Before (seen : List Fact) (f : Fact) : Type 0 where
    none_after : (key : List ℕ) → is_lt (slice_cmp nat_cmp (key_of b f) key) ≡ true → length (with_key b key seen) ≡ 0

  highest-next : (seen : List Fact) (f : Fact) → Before seen f → IsHighest b (seen ++ f ∷ []) f
  highest-next seen f h = record { highest = λ k l. let here = more k seen f false (other-after k f l) in let none = h.none_after k l in omega arith }

  -- and the key of the last does not come after it
  risen : (last : Fact) (count n : ℕ) (f : Fact) → Some n ≡ match_ordering (slice_cmp nat_cmp (key_of b f) (key_of b last)) None (Some count) (Some 0) → is_lt (slice_cmp nat_cmp (key_of b f) (key_of b last)) ≡ false
  risen last count n f e = here (slice_cmp nat_cmp (key_of b f) (key_of b last)) e
    where
      here : (r : Ordering) → Some n ≡ match_ordering r None (Some count) (Some 0) → is_lt r ≡ false
      here Less h = cc
      here Equal h = refl
      here Greater h = refl

  -- the facts before f have no key after its own
  before-run : (seen : List Fact) (last : Option Fact) (count n : ℕ) (over : Option Fact) (f : Fact) → IsRun b seen last count over → Some n ≡ count_before b last count f → Before seen f
  before-run seen None count n over f r e = record { none_after = λ k l. ap (λ (s : List Fact). length (with_key b k s)) r.0 }
  before-run seen (Some last) count n over f r e = record { none_after = λ k l. r.0.highest k (lt-from_past nat_list_cmp_total (key_of b last) (key_of b f) k (risen last count n f e) l) }

  -- the number before f, where no group is over so far
  number-before : (seen : List Fact) (last : Option Fact) (count n : ℕ) (f : Fact) → IsRun b seen last count None → Some n ≡ count_before b last count f → n ≡ length (with_key b (key_of b f) seen)
  number-before seen None count n f r e = (let zero : n ≡ 0 = cc in zero) ∙ sym (ap (λ (s : List Fact). length (with_key b (key_of b f) s)) r.0)
  number-before seen (Some last) count n f r e = here (slice_cmp nat_cmp (key_of b f) (key_of b last)) refl e
    where
      here : (o : Ordering) → slice_cmp nat_cmp (key_of b f) (key_of b last) ≡ o → Some n ≡ match_ordering o None (Some count) (Some 0) → n ≡ length (with_key b (key_of b f) seen)
      here Less k h = cc
      here Equal k h = (let same : n ≡ count = cc in same) ∙ (r.1.counted ∙ ap (λ (key : List ℕ). length (with_key b key seen)) (sym (exact_bytes _ _ k)))
      here Greater k h = (let zero : n ≡ 0 = cc in zero) ∙ sym (r.0.highest (key_of b f) (ap is_lt (nat_list_cmp_total.antisymm (key_of b last) (key_of b f) ∙ ap ordering_reverse k)))

  few-before : (seen : List Fact) (last : Option Fact) (count : ℕ) → IsRun b seen last count None → (key : List ℕ) → length (with_key b key seen) ≤ b.most
  few-before seen None count r key = let none : length (with_key b key seen) ≡ 0 = ap (λ (s : List Fact). length (with_key b key s)) r.0 in omega arith
  few-before seen (Some last) count r key = r.1.groups key

  -- the group of f goes over the bound
  pub run-over : (seen : List Fact) (last : Option Fact) (count n m : ℕ) (f : Fact) → IsRun b seen last count None → Some n ≡ count_before b last count f → n ≡ b.most → IsRun b (seen ++ f ∷ []) (Some f) m (Some f)
  run-over seen last count n m f r e full = (
    highest-next seen f (before-run seen last count n None f r e),
    record {
      exceeds = let here = more (key_of b f) seen f true (own-key f) in let before = number-before seen last count n f r e in omega arith;
      least = λ k l. let here = more k seen f false (other-before k f (key_of b f) l (lt-itself nat_list_cmp_total (key_of b f))) in let few = few-before seen last count r k in omega arith;
      passed = lt-itself nat_list_cmp_total (key_of b f);
    },
  )

  -- no group is over the bound
  pub run-within : (seen : List Fact) (last : Option Fact) (count n : ℕ) (f : Fact) → IsRun b seen last count None → Some n ≡ count_before b last count f → n ≢ b.most → IsRun b (seen ++ f ∷ []) (Some f) (n + 1) None
  run-within seen last count n f r e room = (
    highest-next seen f (before-run seen last count n None f r e),
    record {
      groups = λ k. groups k (has_key b k f) refl;
      counted = let here = more (key_of b f) seen f true (own-key f) in let before = number-before seen last count n f r e in omega arith;
    },
  )
    where
      groups : (k : List ℕ) (t : Bool) → has_key b k f ≡ t → length (with_key b k (seen ++ f ∷ [])) ≤ b.most
      groups k true h =
          let here = more k seen f true h in
          let few = few-before seen last count r k in
          let before = number-before seen last count n f r e in
          let same : length (with_key b (key_of b f) seen) ≡ length (with_key b k seen) = ap (λ (key : List ℕ). length (with_key b key seen)) (exact_bytes _ _ ((Equal-is _).0 h)) in
          omega arith
      groups k false h = let here = more k seen f false h in let few = few-before seen last count r k in omega arith

  -- a group is over the bound already
  pub run-passed : (seen : List Fact) (last : Option Fact) (count n m : ℕ) (over f : Fact) → IsRun b seen last count (Some over) → Some n ≡ count_before b last count f → IsRun b (seen ++ f ∷ []) (Some f) m (Some over)
  run-passed seen None count n m over f r e = absurd (let none : Some over ≡ None = r.1 in cc)
  run-passed seen (Some last) count n m over f r e = (
    highest-next seen f (before-run seen (Some last) count n (Some over) f r e),
    record {
      exceeds = grown (has_key b (key_of b over) f) refl;
      least = λ k l. let here = more k seen f false (other-before k f (key_of b over) l not_before) in let few = r.1.least k l in omega arith;
      passed = not_before;
    },
  )
    where
      not_before : is_lt (slice_cmp nat_cmp (key_of b f) (key_of b over)) ≡ false
      not_before = lt-past nat_list_cmp_total (key_of b f) (key_of b last) (key_of b over) (risen last count n f e) r.1.passed

      grown : (t : Bool) → has_key b (key_of b over) f ≡ t → b.most < length (with_key b (key_of b over) (seen ++ f ∷ []))
      grown true h = let here = more (key_of b over) seen f true h in let before = r.1.exceeds in omega arith
      grown false h = let here = more (key_of b over) seen f false h in let before = r.1.exceeds in omega arith

-- a group is what has the key among the facts of its predicate
key-walk : (b : Bound) (key : List ℕ) (s : List Fact) → with_key b key (facts_after s b.predicate None) ≡ group_of b key s
key-walk b key s = filter-both (is_left b.predicate None) (has_key b key) s
    ∙ ap (λ (t : Fact → Bool). filter t s) (λ i f. and-true (f.predicate == b.predicate) i && has_key b key f)

-- what is known at the end of the walk
pub run-end : (b : Bound) (s seen : List Fact) (last : Option Fact) (count : ℕ) (over : Option Fact) → IsRun b seen last count over → seen ≡ facts_after s b.predicate None
    → MatchOption over (IsWithin b s) (λ f. IsLeastOver b (key_of b f) s)
run-end b s seen last count over r e = here last over r
  where
    whole : (key : List ℕ) → length (with_key b key seen) ≡ length (group_of b key s)
    whole key = ap (λ (t : List Fact). length (with_key b key t)) e ∙ ap length (key-walk b key s)

    here : (last over : Option Fact) → IsRun b seen last count over → MatchOption over (IsWithin b s) (λ f. IsLeastOver b (key_of b f) s)
    here None None r = record { groups = λ key. let none : length (with_key b key seen) ≡ 0 = ap (λ (t : List Fact). length (with_key b key t)) r.0 in let all = whole key in omega arith }
    here None (Some f) r = absurd (let none : Some f ≡ None = r.1 in cc)
    here (Some l) None r = record { groups = λ key. let few = r.1.groups key in let all = whole key in omega arith }
    here (Some l) (Some f) r = record { over = (let above = r.1.exceeds in let all = whole (key_of b f) in omega arith); least = λ key h. let few = r.1.least key h in let all = whole key in omega arith }

module _ (b : Bound) (seen : List Fact) (last : Option Fact) (count n : ℕ) (f : Fact) where
  -- the steps of the walk, by whether a group is over the bound so far
  pub step-passed : (over : Option Fact) (m : ℕ) → true ≡ is_some over → IsRun b seen last count over → Some n ≡ count_before b last count f → IsRun b (seen ++ f ∷ []) (Some f) m over
  step-passed None m h r e = cc
  step-passed (Some g) m h r e = run-passed b seen last count n m g f r e

  pub step-over : (over : Option Fact) (m : ℕ) → false ≡ is_some over → IsRun b seen last count over → Some n ≡ count_before b last count f → n ≡ b.most → IsRun b (seen ++ f ∷ []) (Some f) m (Some f)
  step-over None m h r e full = run-over b seen last count n m f r e full
  step-over (Some g) m h r e full = cc

  pub step-within : (over : Option Fact) → false ≡ is_some over → IsRun b seen last count over → Some n ≡ count_before b last count f → n ≢ b.most → IsRun b (seen ++ f ∷ []) (Some f) (n + 1) None
  step-within None h r e room = run-within b seen last count n f r e room
  step-within (Some g) h r e room = cc

-- the facts seen and those left are all
pub split-next : (seen left rest whole : List Fact) (f : Fact) → left ≡ f ∷ rest → seen ++ left ≡ whole → (seen ++ f ∷ []) ++ rest ≡ whole
split-next seen left rest whole f e h = append_assoc seen (f ∷ []) rest ∙ (ap (λ (t : List Fact). seen ++ t) (sym e) ∙ h)

pub split-end : (seen left whole : List Fact) → left ≡ [] → seen ++ left ≡ whole → seen ≡ whole
split-end seen left whole e h = sym (append-nil seen) ∙ (ap (λ (t : List Fact). seen ++ t) (sym e) ∙ h)
