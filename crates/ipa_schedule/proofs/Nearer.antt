-- Each turn leaves fewer turns to be taken.
--
--   turn_nearer          each turn does
use Rattle.std.proofs.Common.{◌≡◌, ℕ, zero, suc, ◌+◌, ◌-◌, ◌*◌, ◌<◌, ◌≤◌, ◌⊎◌, inl, inr, Bool, true, false, List, [], ◌∷◌, length, Some, None, slice_get, refl, sym, ◌∙◌, ap, subst, arith}
use Rattle.std.specs.Prelude.{nat_lt, if◌then◌else◌}
use Rattle.std.proofs.lemmas.Bool.{cases_lt, cases_eq, lt-ltb, le-ltb}
use Rattle.std.proofs.lemmas.Option.{slice_get_within}
use Rattle.std.proofs.Math.Nat.{mul-le-mul_left, mul-suc}
use Rattle.ipa_history.specs.PushLaws.{at_place}
use Rattle.ipa_world.specs.Worlds.{SeatParts, WorldParts}
use Rattle.ipa_schedule.specs.Going.{RunParts}
use Rattle.ipa_schedule.specs.Turns.{IsTurn}
use Rattle.ipa_schedule.specs.Schedules.{round_of}
use Rattle.ipa_schedule.specs.Plans.{HasOneLeft, IsPlanAt, IsOn, IsDrawn, IsGoneOn, IsNext}
use Rattle.ipa_schedule.specs.Plans.IsOn.{drawing, inside, asked}
use Rattle.ipa_schedule.specs.Plans.IsNext.{draws, goes_on}
use Rattle.ipa_schedule.specs.Remaining.{left_of, rest_at, remaining, until_end, turns_left, IsAhead, IsFewer}
use Rattle.ipa_schedule.specs.declared.turns.Turn.{Turn}
use Rattle.ipa_schedule.specs.declared.plan.Plan.{Plan}
use Rattle.ipa_schedule.proofs.Fewer.{fewer_turn, ahead_turn, sessions_few}
use Rattle.ipa_schedule.proofs.Planning.{IsWhere, within, around, where_next, place_within, some_turn}

-- as many are left where each session has no more left
remaining_less : (place next i : ℕ) (xs ys : List SeatParts) → length ys ≡ length xs →
    ((k : ℕ) (x y : SeatParts) → slice_get xs k ≡ Some x → slice_get ys k ≡ Some y →
    rest_at next (i + k) (left_of y) ≤ rest_at place (i + k) (left_of x)) →
    remaining next i ys ≤ remaining place i xs
remaining_less place next i [] [] size less = omega arith
remaining_less place next i [] (y ∷ ys) size less = absurd (omega (arith, size))
remaining_less place next i (x ∷ xs) [] size less = absurd (omega (arith, size))
remaining_less place next i (x ∷ xs) (y ∷ ys) size less =
    let here = subst (λ (j : ℕ). rest_at next j (left_of y) ≤ rest_at place j (left_of x)) (first i)
    (less 0 x y refl refl) in
    let rest = remaining_less place next (i + 1) xs ys (omega (arith, size)) (λ k a b at_a at_b.
    subst (λ (j : ℕ). rest_at next j (left_of b) ≤ rest_at place j (left_of a)) (later i k) (less (suc k) a b at_a at_b)) in
    omega (arith, here, rest)
  where
    first : (i : ℕ) → i + 0 ≡ i
    first i = omega arith

    later : (i k : ℕ) → i + suc k ≡ i + 1 + k
    later i k = omega arith

-- and fewer where one has fewer left
remaining_fewer : (place next i : ℕ) (xs ys : List SeatParts) → length ys ≡ length xs →
    ((k : ℕ) (x y : SeatParts) → slice_get xs k ≡ Some x → slice_get ys k ≡ Some y →
    rest_at next (i + k) (left_of y) ≤ rest_at place (i + k) (left_of x)) →
    (j : ℕ) (one since : SeatParts) → slice_get xs j ≡ Some one → slice_get ys j ≡ Some since →
    rest_at next (i + j) (left_of since) < rest_at place (i + j) (left_of one) →
    remaining next i ys < remaining place i xs
remaining_fewer place next i [] ys size less j one since at since_at fewer =
    absurd (let e : None ≡ Some one = at in cc)
remaining_fewer place next i (x ∷ xs) [] size less j one since at since_at fewer = absurd (omega (arith, size))
remaining_fewer place next i (x ∷ xs) (y ∷ ys) size less zero one since at since_at fewer =
    let is : Some x ≡ Some one = at in
    let is_since : Some y ≡ Some since = since_at in
    let same : x ≡ one = cc in
    let same_since : y ≡ since = cc in
    let here = subst (λ (k : ℕ). rest_at next k (left_of y) < rest_at place k (left_of x)) (first i)
    (subst (λ (s : SeatParts). rest_at next (i + 0) (left_of s) < rest_at place (i + 0) (left_of x)) (sym same_since)
    (subst (λ (s : SeatParts). rest_at next (i + 0) (left_of since) < rest_at place (i + 0) (left_of s)) (sym same) fewer)) in
    let rest = remaining_less place next (i + 1) xs ys (omega (arith, size)) (λ k a b at_a at_b.
    subst (λ (j : ℕ). rest_at next j (left_of b) ≤ rest_at place j (left_of a)) (later i k) (less (suc k) a b at_a at_b)) in
    omega (arith, here, rest)
  where
    first : (i : ℕ) → i + 0 ≡ i
    first i = omega arith

    later : (i k : ℕ) → i + suc k ≡ i + 1 + k
    later i k = omega arith
remaining_fewer place next i (x ∷ xs) (y ∷ ys) size less (suc j) one since at since_at fewer =
    let here = subst (λ (k : ℕ). rest_at next k (left_of y) ≤ rest_at place k (left_of x)) (first i)
    (less 0 x y refl refl) in
    let rest = remaining_fewer place next (i + 1) xs ys (omega (arith, size)) (λ k a b at_a at_b.
    subst (λ (j : ℕ). rest_at next j (left_of b) ≤ rest_at place j (left_of a)) (later i k) (less (suc k) a b at_a at_b))
    j one since at since_at
    (subst (λ (k : ℕ). rest_at next k (left_of since) < rest_at place k (left_of one)) (later i j) fewer) in
    omega (arith, here, rest)
  where
    first : (i : ℕ) → i + 0 ≡ i
    first i = omega arith

    later : (i k : ℕ) → i + suc k ≡ i + 1 + k
    later i k = omega arith

-- no more is left at the same place, nor at the next one
rest_same : (i left since : ℕ) → since ≤ left → rest_at 0 i since ≤ rest_at 0 i left
rest_same i left since less = less

rest_next : (place i left since : ℕ) → since ≤ left → (i ≡ place → since ≤ left - 1) →
    rest_at (suc place) i since ≤ rest_at place i left
rest_next zero i left since less one = elim (cases_lt 0 i) [
  | inl later ↦
      let rest = ap (λ (b : Bool). if b then since - 1 else since) (lt-ltb 0 i later) in
      omega (arith, rest, less)
  | inr first ↦
      let rest = ap (λ (b : Bool). if b then since - 1 else since) (le-ltb 0 i first) in
      let fewer = one (omega (arith, first)) in
      omega (arith, rest, fewer)
]
rest_next (suc place) i left since less one = elim (cases_lt (suc place) i) [
  | inl later ↦
      let rest = ap (λ (b : Bool). if b then since - 1 else since) (lt-ltb (suc place) i later) in
      let was = ap (λ (b : Bool). if b then left - 1 else left) (lt-ltb place i (omega (arith, later))) in
      omega (arith, rest, was, less)
  | inr before ↦
      let rest = ap (λ (b : Bool). if b then since - 1 else since) (le-ltb (suc place) i before) in
      rest_here rest before
]
  where
    rest_here : (if nat_lt (suc place) i then since - 1 else since) ≡ since → i ≤ suc place →
        rest_at (suc (suc place)) i since ≤ rest_at (suc place) i left
    rest_here rest before = elim (cases_lt place i) [
      | inl now ↦
          let was = ap (λ (b : Bool). if b then left - 1 else left) (lt-ltb place i now) in
          let fewer = one (omega (arith, before, now)) in
          omega (arith, rest, was, fewer)
      | inr passed ↦
          let was = ap (λ (b : Bool). if b then left - 1 else left) (le-ltb place i passed) in
          omega (arith, rest, was, less)
    ]

-- at the beginning of a round one session with a request left has one less once it is over
rest_first : (i left since : ℕ) → 0 < left → since ≤ left → (i ≡ 0 → since ≤ left - 1) →
    rest_at 1 i since < rest_at 0 i left
rest_first i left since some less one = elim (cases_lt 0 i) [
  | inl later ↦
      let rest = ap (λ (b : Bool). if b then since - 1 else since) (lt-ltb 0 i later) in
      omega (arith, rest, some, less)
  | inr first ↦
      let rest = ap (λ (b : Bool). if b then since - 1 else since) (le-ltb 0 i first) in
      let fewer = one (omega (arith, first)) in
      omega (arith, rest, some, fewer)
]

-- once a round is over, no session has its turn in it still to come
rest_last : (place i since : ℕ) → i ≤ place → rest_at 0 i since ≤ rest_at (suc place) i since
rest_last place i since last =
    let rest = ap (λ (b : Bool). if b then since - 1 else since) (le-ltb place i last) in omega (arith, rest)

module _ (w next : WorldParts) (ahead : IsAhead w next) where
  -- the sessions after a turn that is drawn
  drawn_rest : remaining 0 0 next.seats ≤ remaining 0 0 w.seats
  drawn_rest = remaining_less 0 0 0 w.seats next.seats ahead.sessions (λ k x y at_x at_y. ahead.each k x y at_x at_y)

module _ (w next : WorldParts) (place : ℕ) (fewer : IsFewer w place next) where
  one_rest : (k : ℕ) (x y : SeatParts) → slice_get w.seats k ≡ Some x → slice_get next.seats k ≡ Some y → k ≡ place →
      left_of y ≤ left_of x - 1
  one_rest k x y at_x at_y same = fewer.one x y (ap (slice_get w.seats) (sym same) ∙ at_x)
      (ap (slice_get next.seats) (sym same) ∙ at_y)

  each_rest : (k : ℕ) (x y : SeatParts) → slice_get w.seats k ≡ Some x → slice_get next.seats k ≡ Some y →
      rest_at (suc place) (0 + k) (left_of y) ≤ rest_at place (0 + k) (left_of x)
  each_rest k x y at_x at_y = subst (λ (j : ℕ). rest_at (suc place) j (left_of y) ≤ rest_at place j (left_of x))
      (itself k) (rest_next place k (left_of x) (left_of y) (fewer.ahead.each k x y at_x at_y) (one_rest k x y at_x at_y))
    where
      itself : (k : ℕ) → k ≡ 0 + k
      itself k = omega arith

  -- the sessions after the turn at a place
  next_rest : remaining (suc place) 0 next.seats ≤ remaining place 0 w.seats
  next_rest = remaining_less place (suc place) 0 w.seats next.seats fewer.ahead.sessions each_rest

-- after the first turn of a round
first_rest : (w next : WorldParts) → IsFewer w 0 next → HasOneLeft w →
    remaining 1 0 next.seats < remaining 0 0 w.seats
first_rest w next fewer one =
    let inside = slice_get_within w.seats one.session one.seat one.seat_at in
    let same = fewer.ahead.sessions in
    let since = at_place next.seats one.session (omega (arith, inside, same)) in
    let asks = one.asks in
    remaining_fewer 0 1 0 w.seats next.seats fewer.ahead.sessions (each_rest w next 0 fewer) one.session one.seat since.0
    one.seat_at since.1
    (subst (λ (j : ℕ). rest_at 1 j (left_of since.0) < rest_at 0 j (left_of one.seat)) (itself one.session)
    (rest_first one.session (left_of one.seat) (left_of since.0) (omega (arith, asks))
    (fewer.ahead.each one.session one.seat since.0 one.seat_at since.1)
    (one_rest w next 0 fewer one.session one.seat since.0 one.seat_at since.1)))
  where
    itself : (k : ℕ) → k ≡ 0 + k
    itself k = omega arith

-- a round that is over begins anew
over_rest : (place : ℕ) (seats : List SeatParts) → length seats ≤ suc place →
    remaining 0 0 seats ≤ remaining (suc place) 0 seats
over_rest place seats few = remaining_less (suc place) 0 0 seats seats refl (λ k x y at_x at_y.
    let inside = slice_get_within seats k x at_x in
    let both : Some x ≡ Some y = sym at_x ∙ at_y in
    let same : x ≡ y = cc in
    subst (λ (s : SeatParts). rest_at 0 (0 + k) (left_of s) ≤ rest_at (suc place) (0 + k) (left_of x)) same
    (rest_last place (0 + k) (left_of x) (omega (arith, inside, few))))

-- products grow with their factors
times_less : (n a b : ℕ) → a ≤ b → n * a ≤ n * b
times_less n a b less = mul-le-mul_left n less

times_fewer : (n a b : ℕ) → a < b → n * a + n ≤ n * b
times_fewer n a b less = let one = mul-suc n a in let times : n * suc a ≤ n * b = times_less n (suc a) b (omega (arith, less)) in
    omega (arith, one, times)

-- the turns that are left, over plain numbers
left_goes : (size rest since place : ℕ) → place + 1 < size → (place ≡ 0 → since < rest) → since ≤ rest →
    size * since + until_end size (suc place) < size * rest + until_end size place
left_goes size rest since zero more first less =
    let times = times_fewer size since rest (first refl) in omega (arith, times, more)
left_goes size rest since (suc place) more first less =
    let times = times_less size since rest less in omega (arith, times, more)

left_over : (size rest since place : ℕ) → place + 1 ≡ size → (place ≡ 0 → since < rest) → since ≤ rest →
    size * since + until_end size 0 < size * rest + until_end size place
left_over size rest since zero end first less =
    let times = times_fewer size since rest (first refl) in omega (arith, times, end)
left_over size rest since (suc place) end first less =
    let times = times_less size since rest less in omega (arith, times, end)

module _ (w : WorldParts) (k : ℕ) (plan : Plan) (turn : Turn) (after : Plan) (next : WorldParts)
    (is : IsPlanAt w k plan) (begun : IsOn w plan) (one : IsGoneOn plan turn after) (fewer : IsFewer w plan.place next) where
  next_place : (p : ℕ) → p + 1 ≡ suc p
  next_place p = omega arith

  -- at the beginning of a round a session has a request left
  asks_first : plan.place ≡ 0 → HasOneLeft w
  asks_first first = asks begun
    where
      asks : IsOn w plan → HasOneLeft w
      asks (drawing some) = absurd (let none = one.none in omega (arith, some, none))
      asks (inside last under) = absurd (omega (arith, under, first))
      asks (asked last begins left) = left

  fewer_first : plan.place ≡ 0 → remaining (suc plan.place) 0 next.seats < remaining plan.place 0 w.seats
  fewer_first first = subst (λ (p : ℕ). remaining (suc p) 0 next.seats < remaining p 0 w.seats) (sym first)
      (first_rest w next (subst (λ (p : ℕ). IsFewer w p next) first fewer) (asks_first first))

  fewer_next : remaining (suc plan.place) 0 next.seats ≤ remaining plan.place 0 w.seats
  fewer_next = next_rest w next plan.place fewer

  -- a turn of a round
  gone_nearer : IsWhere (length plan.round.items) plan.place after.place → turns_left next after < turns_left w plan
  gone_nearer (within more at) =
      let size = length plan.round.items in
      let goes = left_goes size (remaining plan.place 0 w.seats) (remaining (suc plan.place) 0 next.seats) plan.place more
      fewer_first fewer_next in
      let none = one.none in
      let left = one.left in
      subst (λ (p : ℕ). after.left + length after.round.items * remaining p 0 next.seats
      + until_end (length after.round.items) p < turns_left w plan) (sym (at ∙ next_place plan.place))
      (subst (λ (turns : List Turn). after.left + length turns * remaining (suc plan.place) 0 next.seats
      + until_end (length turns) (suc plan.place) < turns_left w plan) (sym one.round) (omega (arith, goes, none, left)))
  gone_nearer (around end at) =
      let size = length plan.round.items in
      let few = sessions_few w in
      let sessions = fewer.ahead.sessions in
      let round = ap (λ (turns : List Turn). length turns) is.round in
      let rest = over_rest plan.place next.seats (omega (arith, end, few, sessions, round)) in
      let less = fewer_next in
      let over = left_over size (remaining plan.place 0 w.seats) (remaining 0 0 next.seats) plan.place end
      (λ first. (let f = fewer_first first in omega (arith, f, rest))) (omega (arith, less, rest)) in
      let none = one.none in
      let left = one.left in
      subst (λ (p : ℕ). after.left + length after.round.items * remaining p 0 next.seats
      + until_end (length after.round.items) p < turns_left w plan) (sym at)
      (subst (λ (turns : List Turn). after.left + length turns * remaining 0 0 next.seats
      + until_end (length turns) 0 < turns_left w plan) (sym one.round) (omega (arith, over, none, left)))

-- a turn that is drawn
drawn_nearer : (w : WorldParts) (k : ℕ) (plan after : Plan) (next : WorldParts) → IsPlanAt w k plan → IsDrawn plan after →
    IsAhead w next → turns_left next after < turns_left w plan
drawn_nearer w k plan after next is one ahead =
    let fewer = one.left in
    let begins = is.unplaced (omega (arith, fewer)) in
    let rest = times_less (length plan.round.items) (remaining 0 0 next.seats) (remaining 0 0 w.seats)
    (drawn_rest w next ahead) in
    subst (λ (p : ℕ). after.left + length after.round.items * remaining p 0 next.seats
    + until_end (length after.round.items) p < turns_left w plan) (sym (one.place ∙ begins))
    (subst (λ (turns : List Turn). after.left + length turns * remaining 0 0 next.seats
    + until_end (length turns) 0 < turns_left w plan) (sym one.round)
    (subst (λ (p : ℕ). after.left + length plan.round.items * remaining 0 0 next.seats
    + until_end (length plan.round.items) 0 < plan.left + length plan.round.items * remaining p 0 w.seats
    + until_end (length plan.round.items) p) (sym begins) (omega (arith, fewer, rest))))

-- each turn leaves fewer turns to be taken
pub turn_nearer : (r : RunParts) (k : ℕ) (plan : Plan) (turn : Turn) (after : Plan) (next : RunParts) →
    IsPlanAt r.world k plan → IsOn r.world plan → IsNext plan turn after → IsTurn r turn next → next.full ≡ false →
    turns_left next.world after < turns_left r.world plan
turn_nearer r k plan turn after next is begun (draws one) taken on =
    drawn_nearer r.world k plan after next.world is one (ahead_turn r turn next taken on)
turn_nearer r k plan turn after next is begun (goes_on one) taken on =
    gone_nearer r.world k plan turn after next.world is begun one
    (fewer_turn r plan.place turn next
    (subst (λ (turns : List Turn). slice_get turns plan.place ≡ Some turn) is.round one.turn_at) taken on)
    (where_next (length plan.round.items) plan.place after.place
    (place_within r.world k plan is (some_turn r.world k plan is begun)) one.place)
