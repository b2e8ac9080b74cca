-- Fates that are given one part after the other.
--
--   gone_none            none are
--   gone_along           one part after the other
--   gone_link            some on one link
--   gone_link_as, gone_as     the same by whichever names
--   forecast_all         all since the start
use Rattle.std.proofs.Common.{◌≡◌, ℕ, zero, suc, ◌+◌, ◌-◌, ◌<◌, ◌≤◌, ◌^◌, min, List, [], ◌∷◌, ◌++◌, length, get_or, replicate, Some, slice_get, refl, sym, ◌∙◌, ap, subst, arith, append-nil, append_assoc, inl, inr}
use Rattle.std.specs.Prelude.{slice_set}
use Rattle.std.proofs.lemmas.Bool.{cases_lt, cases_eq}
use Rattle.std.proofs.lemmas.Grind.{elements}
use Rattle.std.proofs.lemmas.List.{length-append, length-set, get_or-replicate}
use Rattle.std.proofs.lemmas.Option.{slice_get_within, slice_get-get_or}
use Rattle.ipa_history.specs.PushLaws.{at_place}
use Rattle.ipa_history.specs.declared.outcomes.Fate.{Fate}
use Rattle.ipa_history.specs.declared.outcomes.Fate.TheVariants.{Pass}
use Rattle.ipa_weather.specs.Forecasts.{raised, HasMoved, WereDue}
use Rattle.ipa_schedule.specs.Forecasts.{IsForecast, AreForecast, IsMore, HaveGone}
use Rattle.ipa_schedule.proofs.Places.{set_here, set_there}

-- counts are raised one after the other
raised_along : (m n count : ℕ) → raised n (raised m count) ≡ raised (m + n) count
raised_along m zero count = let same : m ≡ m + 0 = omega arith in ap (λ (k : ℕ). raised k count) same
raised_along zero (suc n) count = let same : suc n ≡ 0 + suc n = omega arith in ap (λ (k : ℕ). raised k count) same
raised_along (suc m) (suc n) count =
    let same : suc (m + suc n) ≡ suc m + suc n = omega arith in capped ∙ ap (λ (k : ℕ). raised k count) same
  where
    capped : min (min (count + suc m) (2 ^ 64 - 1) + suc n) (2 ^ 64 - 1) ≡ min (count + suc (m + suc n)) (2 ^ 64 - 1)
    capped = omega arith

-- the same thing stands in one place
one_at : {X : Type 0} (xs : List X) (i : ℕ) (x y : X) → slice_get xs i ≡ Some x → slice_get xs i ≡ Some y → x ≡ y
one_at xs i x y one two = let both : Some x ≡ Some y = sym one ∙ two in cc

module _ {X : Type 0} (due : X → ℕ → Fate) (asked : X → ℕ) where
  forecast_none : (was : X) → IsForecast due asked was was []
  forecast_none was = record {
    given = record { each = λ k low. absurd (omega (arith, low)) };
    moved = record { later = λ k. ap (due was) (omega arith) };
    counted = refl;
  }

  front_due : (was : X) (fs gs : List Fate) → WereDue (due was) fs → (k : ℕ) → k < length fs →
      get_or (fs ++ gs) k Pass ≡ due was k
  front_due was fs gs were k low = let one = were.each k low in grind (arith, elements, one)

  back_due : (was mid : X) (fs gs : List Fate) → HasMoved (due was) (due mid) (length fs) → WereDue (due mid) gs → (k : ℕ) →
      length fs ≤ k → k < length fs + length gs → get_or (fs ++ gs) k Pass ≡ due was k
  back_due was mid fs gs moved were k low high =
      let j = k - length fs in
      let here : get_or (fs ++ gs) k Pass ≡ get_or gs j Pass = grind (arith, elements, low) in
      here ∙ were.each j (omega (arith, low, high)) ∙ moved.later j ∙ ap (due was) (omega (arith, low))

  forecast_along : (was mid is : X) (fs gs : List Fate) → IsForecast due asked was mid fs → IsForecast due asked mid is gs →
      IsForecast due asked was is (fs ++ gs)
  forecast_along was mid is fs gs one two =
      let size = length-append fs gs in
      record {
        given = record {
          each = λ k low. elim (cases_lt k (length fs)) [
            | inl front ↦ front_due was fs gs one.given k front
            | inr back ↦ back_due was mid fs gs one.moved two.given k back (omega (arith, low, size))
          ];
        };
        moved = record {
          later = λ k. two.moved.later k ∙ one.moved.later (length gs + k) ∙ ap (due was) (omega (arith, size));
        };
        counted = two.counted ∙ ap (raised (length gs)) one.counted ∙ raised_along (length fs) (length gs) (asked was)
            ∙ ap (λ (k : ℕ). raised k (asked was)) (sym size);
      }

  -- none are given
  more_none : (was is : X) (given list : List Fate) → was ≡ is → given ≡ list → IsMore due asked was is given list
  more_none was is given list same still = record {
    fates = [];
    all = sym still ∙ sym (append-nil given);
    forecast = subst (λ (x : X). IsForecast due asked was x []) same (forecast_none was);
  }

  pub gone_none : (were : List X) (old : List (List Fate)) → HaveGone due asked were were old old
  gone_none were old = record {
    weathers = refl;
    links = refl;
    each = λ i was is given list was_at is_at given_at list_at.
        more_none was is given list (one_at were i was is was_at is_at) (one_at old i given list given_at list_at);
  }

  -- one part after the other
  more_along : (was mid is : X) (given between list : List Fate) → IsMore due asked was mid given between →
      IsMore due asked mid is between list → IsMore due asked was is given list
  more_along was mid is given between list one two = record {
    fates = one.fates ++ two.fates;
    all = two.all ∙ ap (λ (fs : List Fate). fs ++ two.fates) one.all ∙ append_assoc given one.fates two.fates;
    forecast = forecast_along was mid is one.fates two.fates one.forecast two.forecast;
  }

  pub gone_along : (were mid are : List X) (old between new : List (List Fate)) → HaveGone due asked were mid old between →
      HaveGone due asked mid are between new → HaveGone due asked were are old new
  gone_along were mid are old between new one two = record {
    weathers = two.weathers ∙ one.weathers;
    links = two.links ∙ one.links;
    each = λ i was is given list was_at is_at given_at list_at.
        let few = slice_get_within were i was was_at in
        let few_fates = slice_get_within old i given given_at in
        let same = one.weathers in
        let same_fates = one.links in
        let x = at_place mid i (omega (arith, few, same)) in
        let fs = at_place between i (omega (arith, few_fates, same_fates)) in
        more_along was x.0 is given fs.0 list (one.each i was x.0 given fs.0 was_at x.1 given_at fs.1)
        (two.each i x.0 is fs.0 list x.1 is_at fs.1 list_at);
  }

  -- some are given on one link
  pub gone_link : (were : List X) (link : ℕ) (was is : X) (old : List (List Fate)) (given fates : List Fate) →
      slice_get were link ≡ Some was → slice_get old link ≡ Some given → IsForecast due asked was is fates →
      HaveGone due asked were (slice_set were link is) old (slice_set old link (given ++ fates))
  gone_link were link was is old given fates was_at given_at forecast = record {
    weathers = length-set were link is;
    links = length-set old link (given ++ fates);
    each = λ i x y fs gs x_at y_at fs_at gs_at. elim (cases_eq i link) [
      | inl here ↦
          let one : was ≡ x = one_at were link was x was_at (ap (slice_get were) (sym here) ∙ x_at) in
          let two : is ≡ y = one_at (slice_set were link is) link is y (set_here were link was is was_at)
          (ap (slice_get (slice_set were link is)) (sym here) ∙ y_at) in
          let three : given ≡ fs = one_at old link given fs given_at (ap (slice_get old) (sym here) ∙ fs_at) in
          let four : given ++ fates ≡ gs = one_at (slice_set old link (given ++ fates)) link (given ++ fates) gs
          (set_here old link given (given ++ fates) given_at)
          (ap (slice_get (slice_set old link (given ++ fates))) (sym here) ∙ gs_at) in
          record {
            fates = fates;
            all = sym four ∙ ap (λ (hs : List Fate). hs ++ fates) three;
            forecast = subst (λ (v : X). IsForecast due asked v y fates) one
                (subst (λ (v : X). IsForecast due asked was v fates) two forecast);
          }
      | inr there ↦ more_none x y fs gs
          (one_at (slice_set were link is) i x y (set_there were link i is x there x_at) y_at)
          (one_at (slice_set old link (given ++ fates)) i fs gs
          (set_there old link i (given ++ fates) fs there fs_at) gs_at)
    ];
  }

  -- by whichever names
  pub gone_link_as : (were : List X) (link : ℕ) (was is : X) (old new : List (List Fate)) (given fates : List Fate) →
      slice_get were link ≡ Some was → slice_get old link ≡ Some given → new ≡ slice_set old link (given ++ fates) →
      IsForecast due asked was is fates → HaveGone due asked were (slice_set were link is) old new
  gone_link_as were link was is old new given fates was_at given_at same forecast =
      subst (λ (fs : List (List Fate)). HaveGone due asked were (slice_set were link is) old fs) (sym same)
      (gone_link were link was is old given fates was_at given_at forecast)

  pub gone_as : (were are : List X) (old between new : List (List Fate)) → HaveGone due asked were are old between →
      new ≡ between → HaveGone due asked were are old new
  gone_as were are old between new gone same =
      subst (λ (fs : List (List Fate)). HaveGone due asked were are old fs) (sym same) gone

  -- all since the start
  pub forecast_all : (were are : List X) (fates : List (List Fate)) → length were ≡ 64 →
      HaveGone due asked were are (replicate 64 []) fates → AreForecast due asked were are fates
  forecast_all were are fates size gone = record {
    links = gone.links;
    weathers = gone.weathers ∙ size;
    each = λ i was is list was_at is_at list_at.
        let few = slice_get_within were i was was_at in
        let nothing : slice_get (replicate 64 []) i ≡ Some [] =
        slice_get-get_or (replicate 64 []) i [] (omega (arith, few, size))
        ∙ ap (λ (fs : List Fate). Some fs) (get_or-replicate 64 i [] [] (omega (arith, few, size))) in
        let more = gone.each i was is [] list was_at is_at nothing list_at in
        subst (λ (fs : List Fate). IsForecast due asked was is fs) (sym more.all) more.forecast;
  }
