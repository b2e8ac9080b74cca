-- Lists of facts that are read one after the other.
--
--   IsBelow last s     what is past the last fact is past each of these
--   FactMore fs i f t  what holds once fact i is read
--   before xs r        these facts before others, if there are others
use Rattle.std.proofs.Common.{◌≡◌, ℕ, suc, ◌+◌, ◌<◌, Bool, true, false, ◌&&◌, ◌||◌, List, [], ◌∷◌, ◌++◌, length, take, drop, get_or, Option, None, Some, refl, sym, ap, subst, ◌∙◌, append_assoc, arith, drop-cons}
use Rattle.std.proofs.lemmas.List.{take_more}
use Rattle.std.specs.List.{AllByRecursion}
use Rattle.std.specs.List.Sorted.{IsStrictlySortedBy}
use Rattle.std.specs.Ordering.{is_eq}
use Rattle.std.specs.declared.cmp.Ordering.TheVariants.{Less}
use Rattle.ipa_logic.specs.Facts.{fact_cmp, has, IsRising}
use Rattle.ipa_logic.specs.FactLaws.{fact_cmp_total, has-append, same_rising, same-turned}
use Rattle.ipa_logic.specs.OrderLaws.{Less-from_lt}
use Rattle.ipa_logic.specs.declared.facts.Fact.{Fact}
use Rattle.ipa_journal.specs.Meaning.{is_past, joined_facts, rises_from}

pub record IsBelow (last : Option Fact) (s : List Fact) : Type 0 where
  pub below : (f : Fact) → is_past last f ≡ true → AllByRecursion (λ g. fact_cmp g f ≡ Less) s

all_push : {X : Type 0} (P : X → Type 0) (xs : List X) (x : X) → AllByRecursion P xs → P x → AllByRecursion P (xs ++ x ∷ [])
all_push P [] x h p = (p, tt)
all_push P (y ∷ xs) x h p = (h.0, all_push P xs x h.1 p)

pub rising-push : (s : List Fact) (f : Fact) → IsRising s → AllByRecursion (λ g. fact_cmp g f ≡ Less) s → IsRising (s ++ f ∷ [])
unfolding IsStrictlySortedBy
rising-push [] f r b = (tt, tt)
rising-push (g ∷ s) f r b = (all_push (λ y. fact_cmp g y ≡ Less) s f r.0 b.0, rising-push s f r.1 b.1)

through : (s : List Fact) (f g : Fact) → AllByRecursion (λ x. fact_cmp x f ≡ Less) s → fact_cmp f g ≡ Less →
    AllByRecursion (λ x. fact_cmp x g ≡ Less) s
through [] f g b h = tt
through (x ∷ s) f g b h = (fact_cmp_total.trans x f g b.0 h, through s f g b.1 h)

pub below-none : IsBelow None []
below-none = record { below = λ f past. tt }

pub below-push : (last : Option Fact) (s : List Fact) (f : Fact) → IsBelow last s → is_past last f ≡ true →
    IsBelow (Some f) (s ++ f ∷ [])
below-push last s f h past = record {
  below = λ g later.
      let less = Less-from_lt (fact_cmp f g) later in
      all_push (λ x. fact_cmp x g ≡ Less) s f (through s f g (h.below f past) less) less;
}

-- the facts with one more behind them, where the state has just these
pub state_push : (s t : List Fact) (last : Option Fact) (f : Fact) → IsRising s → IsRising t →
    ((g : Fact) → has t g ≡ (is_eq (fact_cmp f g) || has s g)) → IsBelow last s → is_past last f ≡ true →
    t ≡ s ++ f ∷ []
state_push s t last f r q h b past =
    same_rising t (s ++ f ∷ []) q (rising-push s f r (b.below f past))
    (λ g. h g ∙ turned g ∙ sym (has-append s (f ∷ []) g))
  where
    single : (b c : Bool) → (b || c) ≡ (c || (b || false))
    single true true = refl
    single true false = refl
    single false true = refl
    single false false = refl

    turned : (g : Fact) → (is_eq (fact_cmp f g) || has s g) ≡ (has s g || has (f ∷ []) g)
    turned g = single (is_eq (fact_cmp f g)) (has s g) ∙ ap (λ b. has s g || (b || false)) (same-turned f g)

abbrev pub before : List Fact → Option (List Fact) → Option (List Fact)
before xs None = None
before xs (Some ys) = Some (xs ++ ys)

pub before-nothing : (r : Option (List Fact)) → r ≡ before [] r
before-nothing None = refl
before-nothing (Some ys) = refl

pub before-push : (xs : List Fact) (f : Fact) (r : Option (List Fact)) →
    before xs (joined_facts (Some f) r) ≡ before (xs ++ f ∷ []) r
before-push xs f None = refl
before-push xs f (Some ys) = ap Some (sym (append_assoc xs (f ∷ []) ys))

pub before-none : (xs : List Fact) (r : Option (List Fact)) → before xs (joined_facts None r) ≡ None
before-none xs None = refl
before-none xs (Some ys) = refl

-- one fact more is read
pub record FactMore (fs : List Fact) (i : ℕ) (f : Fact) (t : List Fact) : Type 0 where
  pub state : t ≡ take (i + 1) fs
  pub below : IsBelow (Some f) (take (i + 1) fs)
  pub rising : IsRising (take (i + 1) fs)
  pub left : rises_from None fs ≡ rises_from (Some f) (drop (i + 1) fs)

pub fact_more : (fs : List Fact) (i : ℕ) (d : Fact) (last : Option Fact) (s t : List Fact) → i < length fs →
    is_past last (get_or fs i d) ≡ true → s ≡ take i fs → IsBelow last (take i fs) → IsRising (take i fs) →
    rises_from None fs ≡ rises_from last (drop i fs) → IsRising t →
    ((g : Fact) → has t g ≡ (is_eq (fact_cmp (get_or fs i d) g) || has s g)) → FactMore fs i (get_or fs i d) t
fact_more fs i d last s t h past e b r left q facts =
    let f : Fact = get_or fs i d in
    let more = take_more fs i d h in
    let next : suc i ≡ i + 1 = omega arith in
    let now : (g : Fact) → has t g ≡ (is_eq (fact_cmp f g) || has (take i fs) g) =
    λ g. facts g ∙ ap (λ u. is_eq (fact_cmp f g) || has u g) e in
    record {
      state = state_push (take i fs) t last f r q now b past ∙ sym more;
      below = subst (IsBelow (Some f)) (sym more) (below-push last (take i fs) f b past);
      rising = subst IsRising (sym more) (rising-push (take i fs) f r (b.below f past));
      left = left ∙ ap (rises_from last) (drop-cons fs i d h ∙ ap (λ k. f ∷ drop k fs) next)
          ∙ ap (λ p. p && rises_from (Some f) (drop (i + 1) fs)) past;
    }
