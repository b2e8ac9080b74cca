-- How far a schedule has come.
--
--   plan_later           a world with the same sessions and requests has the same schedule
--   plan_next            one turn more was begun
--   over_at_end          at its end a schedule is over
--   on_not_over          where a turn is left, it is not
--   drawn_turn, gone_turn     the next turn is that of the schedule
--   some_turn            where a turn is left, a round has turns
use Rattle.std.proofs.Common.{◌≡◌, ℕ, zero, suc, ◌+◌, ◌-◌, ◌*◌, ◌%◌, ◌<◌, ◌≤◌, Bool, true, false, List, [], ◌∷◌, ◌++◌, length, map, fold, Some, slice_get, get_or, refl, sym, ◌∙◌, ap, subst, arith, inl, inr, ltb}
use Rattle.std.specs.Prelude.{nat_lt, max, if◌then◌else◌}
use Rattle.std.proofs.lemmas.Bool.{cases_lt, cases_eq, lt-ltb, le-ltb}
use Rattle.std.proofs.lemmas.List.Folds.{fold-map}
use Rattle.std.proofs.lemmas.Nat.{mod-mul-add}
use Rattle.std.proofs.lemmas.Option.{slice_get_within}
use Rattle.std.proofs.Math.Nat.{mul-le-mul_right, suc-mul, zero-mul}
use Rattle.ipa_logic.specs.declared.facts.Request.{Request}
use Rattle.ipa_world.specs.Worlds.{SeatParts, WorldParts}
use Rattle.ipa_schedule.specs.Draws.{IsDrawing}
use Rattle.ipa_schedule.specs.Running.{IsLater, requests_of}
use Rattle.ipa_schedule.specs.Schedules.{below, links_of, round_of, longest, drawn_of, drawn, draw, turn_at, IsOver}
use Rattle.ipa_schedule.specs.Plans.{HasOneLeft, place_after, IsPlanAt, IsOn, IsAtEnd, IsDrawn, IsGoneOn, IsNext}
use Rattle.ipa_schedule.specs.Plans.IsOn.{drawing, inside, asked}
use Rattle.ipa_schedule.specs.Plans.IsNext.{draws, goes_on}
use Rattle.ipa_schedule.specs.declared.turns.Turn.{Turn}
use Rattle.ipa_schedule.specs.declared.turns.Turn.TheVariants.{Session}
use Rattle.ipa_schedule.specs.declared.plan.Plan.{Plan}

-- the greatest number of requests of a session, by the lists of requests
most_asked : (w : WorldParts) →
    longest w ≡ fold (λ (n : ℕ) (requests : List Request). max n (length requests)) 0 (requests_of w)
most_asked w = sym (fold-map (λ (n : ℕ) (requests : List Request). max n (length requests))
    (λ (seat : SeatParts). seat.requests) 0 w.seats)

-- a world with the same sessions and requests has the same rounds
round_later : (w after : WorldParts) → IsLater w after → round_of after ≡ round_of w
round_later w after later =
    ap (λ (n : ℕ). map Session (below n) ++ links_of (length after.logs)) later.sessions
    ∙ ap (λ (n : ℕ). map Session (below (length w.seats)) ++ links_of n) later.replicas

longest_later : (w after : WorldParts) → IsLater w after → longest after ≡ longest w
longest_later w after later = most_asked after
    ∙ ap (fold (λ (n : ℕ) (requests : List Request). max n (length requests)) 0) later.requests ∙ sym (most_asked w)

drawn_later : (number : ℕ) (w after : WorldParts) → IsLater w after → drawn number after ≡ drawn number w
drawn_later number w after later =
    ap (λ (turns : List Turn). drawn_of number (length turns) (longest after)) (round_later w after later)
    ∙ ap (drawn_of number (length (round_of w))) (longest_later w after later)

-- and the same schedule
pub plan_later : (w after : WorldParts) (k : ℕ) (plan : Plan) → IsLater w after → IsPlanAt w k plan → IsPlanAt after k plan
plan_later w after k plan later is = record {
  round = is.round ∙ sym (round_later w after later);
  taken = is.taken;
  rounds = is.rounds;
  all = is.all ∙ sym (drawn_later plan.number w after later);
  words = is.words;
  turns = is.turns;
  unrounded = is.unrounded;
  unplaced = is.unplaced;
  some = is.some;
  inside = is.inside;
}

-- no round is whole where none was begun
no_rounds : (rounds n : ℕ) → rounds ≡ 0 → rounds * n ≡ 0
no_rounds rounds n none = ap (λ (r : ℕ). r * n) none ∙ zero-mul n

-- one turn more was drawn
plan_drawn : (w : WorldParts) (k : ℕ) (plan after : Plan) → IsPlanAt w k plan → IsDrawn plan after →
    IsPlanAt w (k + 1) after
plan_drawn w k plan after is one =
    let fewer = one.left in
    let some : 0 < plan.left = omega (arith, fewer) in
    record {
      round = one.round ∙ is.round;
      taken = is.taken + 1;
      rounds = is.rounds;
      all = (let all = is.all in let sum : is.taken + 1 + after.left ≡ is.taken + plan.left = omega (arith, fewer) in
          sum ∙ all) ∙ ap (λ (n : ℕ). drawn n w) (sym one.number);
      words = subst (λ (n : ℕ). IsDrawing n (is.taken + 1) after.words) (sym one.number) (one.words is.taken is.words);
      turns = subst (λ (turns : List Turn). k + 1 ≡ is.taken + 1 + is.rounds * length turns + after.place) (sym one.round)
          (more_drawn k is.taken (is.rounds * length plan.round.items) plan.place after.place is.turns one.place);
      unrounded = λ h. is.unrounded some;
      unplaced = λ h. one.place ∙ is.unplaced some;
      some = λ h. subst (λ (turns : List Turn). 0 < length turns) (sym one.round) (is.some some);
      inside = λ h. absurd (none_placed after.place plan.place h one.place (is.unplaced some));
    }
  where
    more_drawn : (k taken whole place next : ℕ) → k ≡ taken + whole + place → next ≡ place →
        k + 1 ≡ taken + 1 + whole + next
    more_drawn k taken whole place next sum same = omega (arith, sum, same)

    none_placed : (next place : ℕ) → 0 < next → next ≡ place → place ≡ 0 → ⊥
    none_placed next place some same none = omega (arith, some, same, none)

-- the next place, and whether a round is whole
pub data IsWhere (size place next : ℕ) : Type 0 where
  within : place + 1 < size → next ≡ place + 1 → IsWhere size place next
  around : place + 1 ≡ size → next ≡ 0 → IsWhere size place next

pub where_next : (size place next : ℕ) → place < size → next ≡ place_after size place → IsWhere size place next
where_next size place next low is = elim (cases_lt (place + 1) size) [
  | inl more ↦ within more (is ∙ ap (λ (b : Bool). if b then place + 1 else 0) (lt-ltb (place + 1) size more))
  | inr end ↦ around (omega (arith, low, end))
      (is ∙ ap (λ (b : Bool). if b then place + 1 else 0) (le-ltb (place + 1) size end))
]

-- the next turn of a round was begun
plan_on : (w : WorldParts) (k : ℕ) (plan : Plan) (turn : Turn) (after : Plan) → IsPlanAt w k plan →
    IsGoneOn plan turn after → IsWhere (length plan.round.items) plan.place after.place → IsPlanAt w (k + 1) after
plan_on w k plan turn after is one (within more next) = record {
  round = one.round ∙ is.round;
  taken = is.taken;
  rounds = is.rounds;
  all = (let all = is.all in let none = one.none in let still = one.left in
      let sum : is.taken + after.left ≡ is.taken + plan.left = omega (arith, none, still) in sum ∙ all)
      ∙ ap (λ (n : ℕ). drawn n w) (sym one.number);
  words = subst (λ (n : ℕ). IsDrawing n is.taken after.words) (sym one.number)
      (subst (λ (g : _). IsDrawing plan.number is.taken g) (sym one.words) is.words);
  turns = subst (λ (turns : List Turn). k + 1 ≡ is.taken + is.rounds * length turns + after.place) (sym one.round)
      (one_more k is.taken (is.rounds * length plan.round.items) plan.place after.place is.turns next);
  unrounded = λ h. absurd (none_left after.left h one.left);
  unplaced = λ h. absurd (none_left after.left h one.left);
  some = λ h. absurd (none_left after.left h one.left);
  inside = λ h. subst (λ (turns : List Turn). after.place < length turns) (sym one.round) (omega (arith, more, next));
}
  where
    one_more : (k taken whole place next : ℕ) → k ≡ taken + whole + place → next ≡ place + 1 → k + 1 ≡ taken + whole + next
    one_more k taken whole place next sum same = omega (arith, sum, same)

    none_left : (left : ℕ) → 0 < left → left ≡ 0 → ⊥
    none_left left some none = omega (arith, some, none)
plan_on w k plan turn after is one (around end next) = record {
  round = one.round ∙ is.round;
  taken = is.taken;
  rounds = suc is.rounds;
  all = (let all = is.all in let none = one.none in let still = one.left in
      let sum : is.taken + after.left ≡ is.taken + plan.left = omega (arith, none, still) in sum ∙ all)
      ∙ ap (λ (n : ℕ). drawn n w) (sym one.number);
  words = subst (λ (n : ℕ). IsDrawing n is.taken after.words) (sym one.number)
      (subst (λ (g : _). IsDrawing plan.number is.taken g) (sym one.words) is.words);
  turns = subst (λ (turns : List Turn). k + 1 ≡ is.taken + suc is.rounds * length turns + after.place) (sym one.round)
      (one_round k is.taken is.rounds (length plan.round.items) plan.place after.place is.turns end next);
  unrounded = λ h. absurd (none_left after.left h one.left);
  unplaced = λ h. absurd (none_left after.left h one.left);
  some = λ h. absurd (none_left after.left h one.left);
  inside = λ h. absurd (none_left after.place h next);
}
  where
    one_round : (k taken rounds size place next : ℕ) → k ≡ taken + rounds * size + place → place + 1 ≡ size → next ≡ 0 →
        k + 1 ≡ taken + suc rounds * size + next
    one_round k taken rounds size place next sum end zero_next =
        let more = suc-mul rounds size in omega (arith, sum, end, zero_next, more)

    none_left : (left : ℕ) → 0 < left → left ≡ 0 → ⊥
    none_left left some none = omega (arith, some, none)

-- the place of a round that is under way, or that begins
pub place_within : (w : WorldParts) (k : ℕ) (plan : Plan) → IsPlanAt w k plan → 0 < length plan.round.items →
    plan.place < length plan.round.items
place_within w k plan is some = elim (cases_lt 0 plan.place) [
  | inl under ↦ is.inside under
  | inr begins ↦ omega (arith, some, begins)
]

-- one turn more was begun
pub plan_next : (w : WorldParts) (k : ℕ) (plan : Plan) (turn : Turn) (after : Plan) → IsPlanAt w k plan →
    0 < length plan.round.items → IsNext plan turn after → IsPlanAt w (k + 1) after
plan_next w k plan turn after is some (draws one) = plan_drawn w k plan after is one
plan_next w k plan turn after is some (goes_on one) = plan_on w k plan turn after is one
    (where_next (length plan.round.items) plan.place after.place (place_within w k plan is some) one.place)

-- at its end a schedule is over
pub over_at_end : (w : WorldParts) (k : ℕ) (plan : Plan) → IsPlanAt w k plan → IsAtEnd w plan → IsOver plan.number k w
over_at_end w k plan is end = record {
  rounds = is.rounds;
  taken = subst (λ (turns : List Turn). k ≡ drawn plan.number w + is.rounds * length turns) is.round
      (whole k is.taken plan.left (drawn plan.number w) (is.rounds * length plan.round.items) plan.place is.turns is.all
      end.left end.place);
  done = end.done;
}
  where
    whole : (k taken left all rounds place : ℕ) → k ≡ taken + rounds + place → taken + left ≡ all → left ≡ 0 →
        place ≡ 0 → k ≡ all + rounds
    whole k taken left all rounds place sum every none begins = omega (arith, sum, every, none, begins)

-- a round that is under way is not whole
not_whole : (rounds other size place : ℕ) → 0 < place → place < size → rounds * size + place ≡ other * size → ⊥
not_whole rounds other size place some low same = elim (cases_lt rounds other) [
  | inl more ↦
      let times : suc rounds * size ≤ other * size = mul-le-mul_right size (omega (arith, more)) in
      let one = suc-mul rounds size in
      omega (arith, some, low, same, times, one)
  | inr less ↦
      let times : other * size ≤ rounds * size = mul-le-mul_right size less in
      omega (arith, some, same, times)
]

-- where a turn is left, it is not over
pub on_not_over : (w : WorldParts) (k : ℕ) (plan : Plan) → IsPlanAt w k plan → IsOn w plan → IsOver plan.number k w → ⊥
on_not_over w k plan is (drawing some) over =
    let sum = is.turns in
    let every = is.all in
    let none = no_rounds is.rounds (length plan.round.items) (is.unrounded some) in
    let begins = is.unplaced some in
    let taken = over.taken in
    omega (arith, sum, every, none, begins, taken, some)
on_not_over w k plan is (inside last under) over = not_whole is.rounds over.rounds (length plan.round.items) plan.place under
    (is.inside under) (subst (λ (turns : List Turn). is.rounds * length plan.round.items + plan.place
    ≡ over.rounds * length turns) (sym is.round) (let sum = is.turns in let every = is.all in let taken = over.taken in
    same_whole k is.taken plan.left (drawn plan.number w) (is.rounds * length plan.round.items) plan.place
    (over.rounds * length (round_of w)) sum every last taken))
  where
    same_whole : (k taken left all rounds place other : ℕ) → k ≡ taken + rounds + place → taken + left ≡ all → left ≡ 0 →
        k ≡ all + other → rounds + place ≡ other
    same_whole k taken left all rounds place other sum every none is = omega (arith, sum, every, none, is)
on_not_over w k plan is (asked last begins one) over =
    let asks = one.asks in
    let none = over.done.each one.session one.seat one.seat_at in
    omega (arith, asks, none)

-- the drawn turn is that of the schedule
pub drawn_turn : (w : WorldParts) (k : ℕ) (plan : Plan) → IsPlanAt w k plan → 0 < plan.left → (word : ℕ) →
    ((j : ℕ) → IsDrawing plan.number j plan.words → word ≡ draw plan.number j) → (turn : Turn) →
    slice_get plan.round.items (word % length plan.round.items) ≡ Some turn → turn_at plan.number w k ≡ Some turn
drawn_turn w k plan is some word is_drawn turn at =
    let sum = is.turns in
    let every = is.all in
    let none = no_rounds is.rounds (length plan.round.items) (is.unrounded some) in
    let begins = is.unplaced some in
    let same : is.taken ≡ k = omega (arith, sum, none, begins) in
    let low : k < drawn plan.number w = omega (arith, same, every, some) in
    ap (λ (b : Bool). slice_get (round_of w) (if b then draw plan.number k % length (round_of w)
    else (k - drawn plan.number w) % length (round_of w))) (lt-ltb k (drawn plan.number w) low)
    ∙ subst (λ (turns : List Turn). slice_get turns (draw plan.number k % length turns) ≡ Some turn) is.round
    (subst (λ (j : ℕ). slice_get plan.round.items (j % length plan.round.items) ≡ Some turn)
    (is_drawn is.taken is.words ∙ ap (draw plan.number) same) at)

-- the next turn of a round is that of the schedule
pub gone_turn : (w : WorldParts) (k : ℕ) (plan : Plan) → IsPlanAt w k plan → plan.left ≡ 0 →
    plan.place < length plan.round.items → (turn : Turn) → slice_get plan.round.items plan.place ≡ Some turn →
    turn_at plan.number w k ≡ Some turn
gone_turn w k plan is none low turn at =
    let sum = is.turns in
    let every = is.all in
    let high : drawn plan.number w ≤ k = omega (arith, sum, every, none) in
    let since : k - drawn plan.number w ≡ is.rounds * length plan.round.items + plan.place
    = omega (arith, sum, every, none) in
    let place : (k - drawn plan.number w) % length plan.round.items ≡ plan.place
    = ap (λ (j : ℕ). j % length plan.round.items) since ∙ mod-mul-add is.rounds (length plan.round.items) plan.place low in
    ap (λ (b : Bool). slice_get (round_of w) (if b then draw plan.number k % length (round_of w)
    else (k - drawn plan.number w) % length (round_of w))) (le-ltb k (drawn plan.number w) high)
    ∙ subst (λ (turns : List Turn). slice_get turns ((k - drawn plan.number w) % length turns) ≡ Some turn) is.round
    (ap (slice_get plan.round.items) place ∙ at)

-- a session has a turn in each round
one_turn : (w : WorldParts) → 0 < length w.seats → 0 < length (round_of w)
one_turn w some = many (length w.seats) some
  where
    many : (n : ℕ) → 0 < n → 0 < length (map Session (below n) ++ links_of (length w.logs))
    many zero none = absurd (omega (arith, none))
    many (suc n) some = omega arith

-- where a turn is left, a round has turns
pub some_turn : (w : WorldParts) (k : ℕ) (plan : Plan) → IsPlanAt w k plan → IsOn w plan → 0 < length plan.round.items
some_turn w k plan is (drawing some) = is.some some
some_turn w k plan is (inside last under) = let low = is.inside under in omega (arith, low, under)
some_turn w k plan is (asked last begins one) =
    let there = slice_get_within w.seats one.session one.seat one.seat_at in
    subst (λ (turns : List Turn). 0 < length turns) (sym is.round) (one_turn w (omega (arith, there)))
