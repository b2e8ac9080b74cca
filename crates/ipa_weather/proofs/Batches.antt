-- A batch on its way: what the frames that were sent so far have come to.
use Rattle.std.proofs.Common.{◌≡◌, ℕ, suc, zero, ◌+◌, List, [], ◌∷◌, ◌++◌, length, get_or, ◌∙◌, sym, ap, arith, refl, subst, append_assoc, below_more, min, ◌-◌, ◌^◌}
use Rattle.std.proofs.lemmas.List.{length-append}
use Rattle.std.proofs.lemmas.Grind.{elements}
use Rattle.ipa_history.specs.declared.outcomes.Fate.{Fate}
use Rattle.ipa_history.specs.declared.outcomes.Fate.TheVariants.{Pass}
use Rattle.ipa_weather.specs.Forecasts.{raised, HasMoved, WereDue}
use Rattle.ipa_weather.specs.Arrivals.{Frame, passing, holding, passing_of, held_of}

-- the frames were sent with these fates, which were due first; what is due now and what was asked since go by their number
pub record IsUnderWay (first now : ℕ → Fate) (before since : ℕ) (frames : List Frame) (fates : List Fate) (arrived held : List Frame) : Type 0 where
  pub each : length fates ≡ length frames
  pub were : WereDue first fates
  pub moved : HasMoved first now (length fates)
  pub asked : since ≡ raised (length fates) before
  pub arrives : arrived ≡ passing_of fates frames
  pub holds : held ≡ held_of fates frames

min_more : (n last : ℕ) → min (min n last + 1) last ≡ min (n + 1) last
min_more n last = omega arith

raised_more : (n m count : ℕ) → m ≡ n + 1 → raised 1 (raised n count) ≡ raised m count
raised_more n zero count is = absurd (omega (arith, is))
raised_more zero (suc m) count is = let sum : count + 1 ≡ count + suc m = omega (arith, is) in ap (λ k. min k (2 ^ 64 - 1)) sum
raised_more (suc n) (suc m) count is = let sum : count + suc n + 1 ≡ count + suc m = omega (arith, is) in min_more (count + suc n) (2 ^ 64 - 1) ∙ ap (λ k. min k (2 ^ 64 - 1)) sum

passing_of-push : (fates : List Fate) (frames : List Frame) (fate : Fate) (frame : Frame) → length fates ≡ length frames → passing_of (fates ++ fate ∷ []) (frames ++ frame ∷ []) ≡ passing_of fates frames ++ passing fate frame
passing_of-push [] [] fate frame same = grind (arith, elements)
passing_of-push [] (f ∷ fs) fate frame same = absurd (omega (arith, same))
passing_of-push (x ∷ xs) [] fate frame same = absurd (omega (arith, same))
passing_of-push (x ∷ xs) (f ∷ fs) fate frame same = ap (λ more. passing x f ++ more) (passing_of-push xs fs fate frame (omega (arith, same))) ∙ sym (append_assoc (passing x f) (passing_of xs fs) (passing fate frame))

held_of-push : (fates : List Fate) (frames : List Frame) (fate : Fate) (frame : Frame) → length fates ≡ length frames → held_of (fates ++ fate ∷ []) (frames ++ frame ∷ []) ≡ held_of fates frames ++ holding fate frame
held_of-push [] [] fate frame same = grind (arith, elements)
held_of-push [] (f ∷ fs) fate frame same = absurd (omega (arith, same))
held_of-push (x ∷ xs) [] fate frame same = absurd (omega (arith, same))
held_of-push (x ∷ xs) (f ∷ fs) fate frame same = ap (λ more. holding x f ++ more) (held_of-push xs fs fate frame (omega (arith, same))) ∙ sym (append_assoc (holding x f) (held_of xs fs) (holding fate frame))

WereDue-push : (first now : ℕ → Fate) (fates : List Fate) → WereDue first fates → HasMoved first now (length fates) → WereDue first (fates ++ now 0 ∷ [])
WereDue-push first now fates were moved =
    let next : now 0 ≡ first (length fates) = moved.later 0 ∙ ap first (omega arith) in
    let last : get_or (fates ++ now 0 ∷ []) (length fates) Pass ≡ first (length fates) = grind (arith, elements, next) in record {
      each = λ k low. below_more (λ j. get_or (fates ++ now 0 ∷ []) j Pass ≡ first j) (length fates) (λ j below. let one = were.each j below in grind (arith, elements, one)) last k (grind (arith, elements, low));
    }

HasMoved-more : (first now next : ℕ → Fate) (n : ℕ) → HasMoved first now n → HasMoved now next 1 → HasMoved first next (n + 1)
HasMoved-more first now next n far step = record { later = λ k. step.later k ∙ far.later (1 + k) ∙ ap first (omega arith) }

pub under_way-none : (first : ℕ → Fate) (before : ℕ) → IsUnderWay first first before before [] [] [] []
under_way-none first before = record {
  each = refl;
  were = record { each = λ k low. absurd (omega (arith, low)) };
  moved = record { later = λ k. ap first (omega arith) };
  asked = refl;
  arrives = refl;
  holds = refl;
}

under_way-more : (first now next : ℕ → Fate) (before since then_ : ℕ) (frames : List Frame) (frame : Frame) (fates : List Fate) (arrived held : List Frame) → IsUnderWay first now before since frames fates arrived held → HasMoved now next 1 → then_ ≡ raised 1 since → IsUnderWay first next before then_ (frames ++ frame ∷ []) (fates ++ now 0 ∷ []) (arrived ++ passing (now 0) frame) (held ++ holding (now 0) frame)
under_way-more first now next before since then_ frames frame fates arrived held sofar step counted =
    let more : length (fates ++ now 0 ∷ []) ≡ length fates + 1 = length-append fates (now 0 ∷ []) in
    let more_frames : length (frames ++ frame ∷ []) ≡ length frames + 1 = length-append frames (frame ∷ []) in
    let each = sofar.each in
    record {
      each = omega (arith, more, more_frames, each);
      were = WereDue-push first now fates sofar.were sofar.moved;
      moved = subst (HasMoved first next) (sym more) (HasMoved-more first now next (length fates) sofar.moved step);
      asked = counted ∙ ap (raised 1) sofar.asked ∙ raised_more (length fates) (length (fates ++ now 0 ∷ [])) before more;
      arrives = ap (λ fs. fs ++ passing (now 0) frame) sofar.arrives ∙ sym (passing_of-push fates frames (now 0) frame each);
      holds = ap (λ fs. fs ++ holding (now 0) frame) sofar.holds ∙ sym (held_of-push fates frames (now 0) frame each);
    }

pub under_way-next : (first now next : ℕ → Fate) (before since then_ : ℕ) (frames : List Frame) (frame : Frame) (fates more_fates : List Fate) (arrived more_arrived held more_held : List Frame) → IsUnderWay first now before since frames fates arrived held → HasMoved now next 1 → then_ ≡ raised 1 since → more_fates ≡ fates ++ now 0 ∷ [] → more_arrived ≡ arrived ++ passing (now 0) frame → more_held ≡ held ++ holding (now 0) frame → IsUnderWay first next before then_ (frames ++ frame ∷ []) more_fates more_arrived more_held
under_way-next first now next before since then_ frames frame fates more_fates arrived more_arrived held more_held sofar step counted is_fates is_arrived is_held =
    let all = frames ++ frame ∷ [] in
    let fates_now = fates ++ now 0 ∷ [] in
    let arrived_now = arrived ++ passing (now 0) frame in
    let moved = under_way-more first now next before since then_ frames frame fates arrived held sofar step counted in
    let with_held = subst (λ hs. IsUnderWay first next before then_ all fates_now arrived_now hs) (sym is_held) moved in
    let with_arrived = subst (λ as_. IsUnderWay first next before then_ all fates_now as_ more_held) (sym is_arrived) with_held in
    subst (λ fs. IsUnderWay first next before then_ all fs more_arrived more_held) (sym is_fates) with_arrived
