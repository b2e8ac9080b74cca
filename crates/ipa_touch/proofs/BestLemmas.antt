-- The best values so far.
use Rattle.std.proofs.Common.{◌≡◌, ℕ, Bool, true, false, ◌||◌, List, nat_cmp, Option, None, Some, refl, sym, ◌∙◌, ap, subst, arith, inl, inr}
use Rattle.std.proofs.lemmas.Bool.{cases_Bool, or_cases, false≢true}
use Rattle.std.specs.Option.{MatchOption}
use Rattle.std.specs.Ordering.{is_lt}
use Rattle.std.specs.Cmp.Lexicographic.{slice_cmp, nat_list_cmp_total}
use Rattle.ipa_logic.specs.Facts.{Universe}
use Rattle.ipa_logic.specs.OrderLaws.{Less-from_lt, lt-through, lt-past}
use Rattle.ipa_logic.specs.Truth.{IsOver}
use Rattle.ipa_touch.specs.Searches.{Fits, PassPinned, FirstPinned, IsUpTo, IsFailed, IsFailing, Improves, IsFirstFailed, IsEarlierOf}
use Rattle.ipa_touch.proofs.OrderLemmas.{earlier-from_less, less-from_earlier}

-- the earlier of two that are there
pub earlier-second : (one other : Option (List ℕ)) (r s : List ℕ) → one ≡ Some r → other ≡ Some s → is_lt (slice_cmp nat_cmp s r) ≡ true → IsEarlierOf one other other
earlier-second one other r s e k l = record {
  either = inr refl;
  first = λ v h. subst (λ (o : Option (List ℕ)). IsUpTo o v) (sym k) (lt-through nat_list_cmp_total v s r l (subst (λ (o : Option (List ℕ)). IsUpTo o v) e h));
  second = λ v h. h;
}

pub earlier-first : (one other : Option (List ℕ)) (r s : List ℕ) → one ≡ Some r → other ≡ Some s → is_lt (slice_cmp nat_cmp s r) ≡ false → IsEarlierOf one other one
earlier-first one other r s e k l = record {
  either = inl refl;
  first = λ v h. h;
  second = λ v h. subst (λ (o : Option (List ℕ)). IsUpTo o v) (sym e) (lt-past nat_list_cmp_total v s r (subst (λ (o : Option (List ℕ)). IsUpTo o v) k h) l);
}

module _ (p : List ℕ → Bool) (universe : Universe) (sorts : List ℕ) where
  -- nothing more is turned
  pub improves-none : (turned : List ℕ → Bool) (best : Option (List ℕ)) → ((v : List ℕ) → turned v ≡ false) → Improves p universe sorts turned best best
  improves-none turned best none = record {
    failing = λ h. h;
    own = λ v f t. absurd (false≢true (sym (none v) ∙ t));
    others = λ v h. h;
  }

  -- one after the other
  pub improves-both : (a b c : List ℕ → Bool) (best middle new : Option (List ℕ)) → Improves p universe sorts a best middle → Improves p universe sorts b middle new
      → ((v : List ℕ) → c v ≡ (a v || b v)) → Improves p universe sorts c best new
  improves-both a b c best middle new i j e = record {
    failing = λ h. j.failing (i.failing h);
    own = λ v f t. elim (or_cases (a v) (b v) (sym (e v) ∙ t)) [ inl first ↦ j.others v (i.own v f first) | inr second ↦ j.own v f second ];
    others = λ v h. j.others v (i.others v h);
  }

  -- values that fail do not come before the first that fit the pins and fail
  up-to-found : (pins : List (Option ℕ)) (start r v : List ℕ) → FirstPinned p universe sorts pins start 0 r → IsFailed p universe sorts v → Fits pins v → is_lt (slice_cmp nat_cmp v r) ≡ false
  up-to-found pins start r v f h fits = elim (cases_Bool (is_lt (slice_cmp nat_cmp v r))) [
    | inl before ↦ absurd (false≢true (sym h.fails ∙ f.earlier v h.over fits (λ k l. absurd (omega arith)) (earlier-from_less v r (h.over.width ∙ sym f.over.width) (Less-from_lt _ before))))
    | inr not_before ↦ not_before
  ]

  -- the first values that fit the pins are among what is turned
  pub improves-found : (turned : List ℕ → Bool) (pins : List (Option ℕ)) (start : List ℕ) (best found new : Option (List ℕ)) → ((v : List ℕ) → turned v ≡ true → Fits pins v)
      → MatchOption found (PassPinned p universe sorts pins start 0) (FirstPinned p universe sorts pins start 0) → IsEarlierOf best found new → Improves p universe sorts turned best new
  improves-found turned pins start best found new fits f e = record {
    failing = λ h. elim e.either [
      | inl same ↦ subst (IsFailing p universe sorts) (sym same) h
      | inr same ↦ subst (IsFailing p universe sorts) (sym same) (failing found f)
    ];
    own = λ v h t. e.second v (up-to found f v h (fits v t));
    others = e.first;
  }
    where
      failing : (found : Option (List ℕ)) → MatchOption found (PassPinned p universe sorts pins start 0) (FirstPinned p universe sorts pins start 0) → IsFailing p universe sorts found
      failing None f = tt
      failing (Some r) f = record { over = f.over; fails = f.fails }

      up-to : (found : Option (List ℕ)) → MatchOption found (PassPinned p universe sorts pins start 0) (FirstPinned p universe sorts pins start 0)
          → (v : List ℕ) → IsFailed p universe sorts v → Fits pins v → IsUpTo found v
      up-to None f v h fit = absurd (false≢true (sym h.fails ∙ f.passes v h.over fit (λ k l. absurd (omega arith))))
      up-to (Some r) f v h fit = up-to-found pins start r v f h fit

  -- all that fails is turned, so that the best is the first
  pub first-best : (turned : List ℕ → Bool) (best : Option (List ℕ)) → Improves p universe sorts turned None best → ((v : List ℕ) → IsFailed p universe sorts v → turned v ≡ true)
      → MatchOption best ((v : List ℕ) → IsOver universe sorts v → p v ≡ true) (IsFirstFailed p universe sorts)
  first-best turned best i all = here best (i.failing tt) (λ v f. i.own v f (all v f))
    where
      passing : (v : List ℕ) → (IsFailed p universe sorts v → ⊥) → IsOver universe sorts v → p v ≡ true
      passing v holds o = elim (cases_Bool (p v)) [ inl passes ↦ passes | inr fails ↦ absurd (holds (record { over = o; fails = fails })) ]

      here : (best : Option (List ℕ)) → IsFailing p universe sorts best → ((v : List ℕ) → IsFailed p universe sorts v → IsUpTo best v)
          → MatchOption best ((v : List ℕ) → IsOver universe sorts v → p v ≡ true) (IsFirstFailed p universe sorts)
      here None f up = λ v o. passing v (up v) o
      here (Some r) f up = record {
        over = f.over;
        fails = f.fails;
        earlier = λ v o e. passing v (λ h. false≢true (sym (up v h) ∙ ap is_lt (less-from_earlier v r (o.width ∙ sym f.over.width) e))) o;
      }
