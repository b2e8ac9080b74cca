-- How a schedule begins.
--
--   round_few            a round has few turns
--   plan_begun           no turn was begun
--   some_new             a new world has a replica
--   replicate_more       one more of the same
--   way_begun            no link holds a frame
use Rattle.std.proofs.Common.{◌≡◌, ℕ, zero, suc, ◌+◌, ◌*◌, ◌^◌, ◌<◌, ◌≤◌, Bool, true, false, not, List, [], ◌∷◌, ◌++◌, length, map, min, replicate, get_or, Some, slice_get, refl, sym, ◌∙◌, ap, subst, arith}
use Rattle.std.specs.Prelude.{filter, ◌==◌, if◌then◌else◌}
use Rattle.std.specs.List.{flat_map, range_with_len}
use Rattle.std.proofs.lemmas.List.{length-append, length-map, length-replicate, get_or-replicate}
use Rattle.std.proofs.lemmas.List.FromFn.{length-range_with_len, length-map-range_with_len}
use Rattle.std.proofs.lemmas.Option.{slice_get_within, get_or_from_slice_get}
use Rattle.std.proofs.Math.Nat.{zero-mul}
use Rattle.ipa_history.specs.Histories.{IsMember}
use Rattle.ipa_history.specs.MemberLaws.{length-filter_le, member_none}
use Rattle.ipa_history.specs.declared.history.Tx.{Tx}
use Rattle.ipa_history.specs.declared.outcomes.Fate.{Fate}
use Rattle.ipa_weather.specs.Arrivals.{Frame}
use Rattle.ipa_world.specs.Worlds.{WorldParts, link_of}
use Rattle.ipa_schedule.specs.Draws.{IsDrawing}
use Rattle.ipa_schedule.specs.Ends.{IsNew}
use Rattle.ipa_schedule.specs.Schedules.{below, links_from, links_of, round_of, drawn_of, drawn}
use Rattle.ipa_schedule.specs.Running.{IsUnderWay, IsFrameOf}
use Rattle.ipa_schedule.specs.Plans.{IsPlanAt}
use Rattle.ipa_schedule.specs.declared.turns.Turn.{Turn}
use Rattle.ipa_schedule.specs.declared.turns.Turn.TheVariants.{Session, Link}
use Rattle.ipa_schedule.specs.declared.plan.Plan.{Plan}
use Rattle.ipa_schedule.specs.declared.progress.Progress.{Progress}

-- a list of short lists, gathered
flat_few : {X Y : Type 0} (f : X → List Y) (xs : List X) → ((x : X) → length (f x) ≤ 8) →
    length (flat_map f xs) ≤ 8 * length xs
flat_few f [] few = omega arith
flat_few f (x ∷ xs) few =
    let size = length-append (f x) (flat_map f xs) in
    let one = few x in
    let rest = flat_few f xs few in
    omega (arith, size, one, rest)

links_few : (n from : ℕ) → n ≤ 8 → length (links_from n from) ≤ 8
links_few n from few =
    let size = length-map (filter (λ (to : ℕ). not (to == from)) (below n)) (λ (to : ℕ). Link from to) in
    let less = length-filter_le (λ (to : ℕ). not (to == from)) (below n) in
    let all = length-range_with_len 0 n in
    omega (arith, few, size, less, all)

-- a round has few turns
pub round_few : (w : WorldParts) → length w.logs ≤ 8 → length w.seats < 256 → length (round_of w) < 2 ^ 32
round_few w few sessions =
    let size = length-append (map Session (below (length w.seats))) (links_of (length w.logs)) in
    let first = length-map-range_with_len Session 0 (length w.seats) in
    let rest = flat_few (links_from (length w.logs)) (below (length w.logs))
    (λ from. links_few (length w.logs) from few) in
    let all = length-range_with_len 0 (length w.logs) in
    omega (arith, few, sessions, size, first, rest, all)

-- a turn is drawn only where a round has turns
some_drawn : (b : Bool) (size most : ℕ) → 0 < (if b then 0 else min 65536 (2 * size * (most + 1))) → 0 < size
some_drawn true size most some = absurd (omega (arith, some))
some_drawn false zero most some = absurd (none (2 * zero * (most + 1)) (zero-mul (most + 1)) some)
  where
    none : (n : ℕ) → n ≡ 0 → 0 < min 65536 n → ⊥
    none n is some = omega (arith, is, some)
some_drawn false (suc size) most some = omega arith

-- no turn was begun
pub plan_begun : (w : WorldParts) (plan : Plan) → plan.round.items ≡ round_of w → plan.left ≡ drawn plan.number w →
    IsDrawing plan.number 0 plan.words → plan.place ≡ 0 → IsPlanAt w 0 plan
plan_begun w plan round left words place = record {
  round = round;
  taken = 0;
  rounds = 0;
  all = (let same : 0 + plan.left ≡ plan.left = omega arith in same) ∙ left;
  words = words;
  turns = begins plan.place place (length plan.round.items);
  unrounded = λ h. refl;
  unplaced = λ h. place;
  some = λ h. subst (λ (turns : List Turn). 0 < length turns) (sym round)
      (some_drawn (plan.number == 0) (length (round_of w)) _ (subst (λ (n : ℕ). 0 < n) left h));
  inside = λ h. absurd (let p = place in omega (arith, p, h));
}
  where
    begins : (place : ℕ) → place ≡ 0 → (size : ℕ) → 0 ≡ 0 + 0 * size + place
    begins place none size = omega (arith, none)

-- one more of the same
pub replicate_more : {X : Type 0} (n : ℕ) (x : X) → replicate n x ++ x ∷ [] ≡ replicate (n + 1) x
replicate_more zero x = refl
replicate_more (suc n) x = subst (λ (m : ℕ). x ∷ replicate n x ++ x ∷ [] ≡ replicate m x) (later n)
    (ap (λ (xs : List _). x ∷ xs) (replicate_more n x))
  where
    later : (n : ℕ) → suc (n + 1) ≡ suc n + 1
    later n = omega arith

-- a new world has a replica
pub some_new : (w : WorldParts) → IsNew w → 0 < length w.logs
some_new w is =
    let nothing : List Tx = [] in
    let size = length-replicate is.replicas nothing in
    let same = ap (λ (v : WorldParts). length v.logs) is.is in
    let some = is.some in
    omega (arith, size, same, some)

-- no link holds a frame
pub way_begun : (w : WorldParts) (p : Progress) → p.held.items ≡ replicate 64 [] → p.fates ≡ replicate 64 [] →
    IsUnderWay w p
way_begun w p held fates = record {
  links = ap (λ (xs : List (List Frame)). length xs) held ∙ refl;
  given = ap (λ (xs : List (List Fate)). length xs) fates ∙ refl;
  held = λ from to log frames frame low log_at held_at m.
      let at : slice_get (replicate 64 []) (link_of from to) ≡ Some frames =
      ap (λ (xs : List (List Frame)). slice_get xs (link_of from to)) (sym held) ∙ held_at in
      let inside = slice_get_within (replicate 64 []) (link_of from to) frames at in
      let nobody : List Frame = [] in
      let size = length-replicate 64 nobody in
      let nothing : frames ≡ [] = sym (get_or_from_slice_get (replicate 64 []) (link_of from to) frames [] at)
      ∙ get_or-replicate 64 (link_of from to) [] [] (omega (arith, inside, size)) in
      absurd (member_none frame (subst (λ (xs : List Frame). IsMember xs frame) nothing m));
}
