-- The end of a run is a lawful end.
--
--   one_transaction     no two logs have two transactions under one dot
--   end-lawful          where all logs hold the same and no request is left, the first log, the outcomes and the state
--                       of all entries are a lawful end
--   end-within          the state of all entries is within the bounds, where a session has seen them all and is calm
use Rattle.std.proofs.Common.{◌≡◌, ℕ, zero, suc, ◌+◌, List, [], ◌∷◌, length, map, Some, None, slice_get, refl, sym, ◌∙◌, ap, subst, arith}
use Rattle.std.proofs.lemmas.List.{length-map}
use Rattle.std.proofs.lemmas.Option.{slice_get_within}
use Rattle.ipa_spec.specs.declared.operations.Action.TheVariants.{Op}
use Rattle.ipa_logic.specs.Facts.{IsStateOf, has}
use Rattle.ipa_logic.specs.FactLaws.{same_rising}
use Rattle.ipa_logic.specs.Groups.{Within}
use Rattle.ipa_logic.specs.declared.facts.Fact.{Fact}
use Rattle.ipa_logic.specs.declared.facts.Request.{Request}
use Rattle.ipa_history.specs.Histories.{IsMember, IsHistory, members_of}
use Rattle.ipa_history.specs.Values.{value_of}
use Rattle.ipa_history.specs.Clocks.{clock-members}
use Rattle.ipa_history.specs.PushLaws.{at_place}
use Rattle.ipa_history.specs.LawfulEnds.{IsShaped, IsAt, IsReading, IsEntered, IsNamedBy, AreEntries, AreAnswered, AreRead, AreAnswers, IsLawfulEnd}
use Rattle.ipa_history.specs.Answers.{IsAnswer}
use Rattle.ipa_history.specs.declared.history.Tx.{Tx}
use Rattle.ipa_history.specs.declared.outcomes.Outcome.{Outcome}
use Rattle.ipa_lift.specs.CutLaws.{value-same}
use Rattle.ipa_gate.specs.Agreements.{HasAll}
use Rattle.ipa_gate.specs.Logs.{IsLog}
use Rattle.ipa_world.specs.Worlds.{SeatParts, WorldParts}
use Rattle.ipa_world.specs.Steps.{Actor, IsActor, IsCalm}
use Rattle.ipa_world.specs.Lawful.{IsOutcomeOf, IsLawful, AreSame, HasNoneLeft}
use Rattle.ipa_world.specs.HistoryParts.{part-reading, part-answer, part-entered}
use Rattle.ipa_world.specs.LawfulMoves.{one_entry}
use Rattle.ipa_world.specs.LawfulLaws.{mapped_at}

-- no two logs have two transactions under one dot
pub one_transaction : (w : WorldParts) → IsLawful w → (r q : ℕ) (one other : List Tx) (t u : Tx) →
    slice_get w.logs r ≡ Some one → slice_get w.logs q ≡ Some other → IsMember one t → IsMember other u →
    t.dot ≡ u.dot → t ≡ u
one_transaction w is r q one other t u at there mine theirs same =
    one_entry w is t u (is.logs.made r one t at mine) (is.logs.made q other u there theirs) same

-- the image of an item stands in its place
map_there : {X Y : Type 0} (f : X → Y) (xs : List X) (k : ℕ) (x : X) → slice_get xs k ≡ Some x →
    slice_get (map f xs) k ≡ Some (f x)
map_there f [] k x e = absurd (let none : None ≡ Some x = e in cc)
map_there f (y ∷ xs) zero x e =
    let some : Some y ≡ Some x = e in
    let one : y ≡ x = cc in
    ap (λ (z : _). Some (f z)) one
map_there f (y ∷ xs) (suc k) x e = map_there f xs k x e

-- a session has an outcome in a place of its outcomes
record HasSaid (w : WorldParts) (i place : ℕ) (o : Outcome) : Type 0 where
  seat : SeatParts
  seat_at : slice_get w.seats i ≡ Some seat
  said : slice_get seat.outcomes place ≡ Some o

-- and a request in a place of its requests
record HasAsked (w : WorldParts) (i place : ℕ) (request : Request) : Type 0 where
  seat : SeatParts
  seat_at : slice_get w.seats i ≡ Some seat
  asked : slice_get seat.requests place ≡ Some request

said_of : (w : WorldParts) (i place : ℕ) (o : Outcome) → IsAt (map (λ seat. seat.outcomes) w.seats) i place o →
    HasSaid w i place o
said_of w i place o at =
    let one = mapped_at (λ (seat : SeatParts). seat.outcomes) w.seats i at.list at.list_at in record {
      seat = one.0;
      seat_at = one.1;
      said = ap (λ (os : List Outcome). slice_get os place) one.2 ∙ at.at;
    }

asked_of : (w : WorldParts) (i place : ℕ) (request : Request) →
    IsAt (map (λ seat. seat.requests) w.seats) i place request → HasAsked w i place request
asked_of w i place request at =
    let one = mapped_at (λ (seat : SeatParts). seat.requests) w.seats i at.list at.list_at in record {
      seat = one.0;
      seat_at = one.1;
      asked = ap (λ (rs : List Request). slice_get rs place) one.2 ∙ at.at;
    }

-- a session stands in one place
one_seat : (w : WorldParts) (i : ℕ) (one other : SeatParts) → slice_get w.seats i ≡ Some one →
    slice_get w.seats i ≡ Some other → one ≡ other
one_seat w i one other at there = let both : Some one ≡ Some other = sym at ∙ there in cc

module _ (w : WorldParts) (is : IsLawful w) (same : AreSame w.logs) (done : HasNoneLeft w) (first : List Tx)
    (first_at : slice_get w.logs 0 ≡ Some first) where
  abbrev requests : List (List Request)
  requests = map (λ seat. seat.requests) w.seats

  abbrev outcomes : List (List Outcome)
  outcomes = map (λ seat. seat.outcomes) w.seats

  log_is : IsLog w.setting first
  log_is = is.logs.logs 0 first first_at

  history : IsHistory first
  history = log_is.legal.history

  module _ (i : ℕ) (seat : SeatParts) (seat_at : slice_get w.seats i ≡ Some seat) where
    known : IsHistory seat.seen
    known = (is.seen i seat seat_at).session.legal.history

    -- all that a session has seen is in the first log
    all : HasAll first seat.seen
    all = let has = is.seen i seat seat_at in record {
      each = λ t m. same.each seat.replica 0 has.log first t has.log_at first_at (has.lies t m);
    }

    -- so an outcome is one there
    reading_there : (request : Request) (o : Outcome) → IsOutcomeOf w i seat request o →
        IsReading w.setting.spec w.setting.base first o.cut
    reading_there request o has = part-reading seat.seen first known history all o.cut has.reading.closed w.setting.spec
        w.setting.base has.reading

    answer_there : (request : Request) (o : Outcome) → IsOutcomeOf w i seat request o →
        IsAnswer w.setting.spec w.setting.universe w.setting.base first o.cut i request o.answer
    answer_there request o has = part-answer seat.seen first known history all o.cut has.reading.closed w.setting.spec
        w.setting.universe w.setting.base i request o.answer has.answer

    entered_there : (request : Request) (o : Outcome) → IsOutcomeOf w i seat request o →
        IsEntered first i o.cut request o.answer
    entered_there request o has = part-entered seat.seen first all i o.cut request o.answer has.entered

  -- the outcome of a request
  outcome_of : (i place : ℕ) (request : Request) (o : Outcome) (said : HasSaid w i place o) →
      HasAsked w i place request → IsOutcomeOf w i said.seat request o
  outcome_of i place request o said asked = (is.answered i said.seat said.seat_at).outcomes place request o
      (subst (λ (seat : SeatParts). slice_get seat.requests place ≡ Some request)
      (one_seat w i asked.seat said.seat asked.seat_at said.seat_at) asked.asked) said.said

  -- an outcome is that of a request
  request_of : (i place : ℕ) (o : Outcome) → HasSaid w i place o → (request : Request) × HasAsked w i place request
  request_of i place o said =
      let few = (is.answered i said.seat said.seat_at).few in
      let inside = slice_get_within said.seat.outcomes place o said.said in
      let one = at_place said.seat.requests place (omega (arith, few, inside)) in
      (one.0, record { seat = said.seat; seat_at = said.seat_at; asked = one.1 })

  counted : length requests ≡ w.setting.sessions
  counted = length-map w.seats (λ (seat : SeatParts). seat.requests) ∙ is.sessions

  entries_are : AreEntries w.setting.spec w.setting.universe w.setting.base (length requests) first
  entries_are = record {
    legal = log_is.legal;
    few = log_is.few;
    shaped = λ t m. subst (λ (n : ℕ). IsShaped w.setting.spec w.setting.universe n t) (sym counted) (log_is.shaped t m);
  }

  are_answered : AreAnswered requests outcomes
  are_answered = record {
    sessions = length-map w.seats (λ (seat : SeatParts). seat.outcomes)
        ∙ sym (length-map w.seats (λ (seat : SeatParts). seat.requests));
    places = λ i asked answered at there.
        let one = mapped_at (λ (seat : SeatParts). seat.requests) w.seats i asked at in
        let other = mapped_at (λ (seat : SeatParts). seat.outcomes) w.seats i answered there in
        let seat = one_seat w i other.0 one.0 other.1 one.1 in
        let few = (is.answered i one.0 one.1).few in
        let all = done.each i one.0 one.1 in
        let said : length answered ≡ length one.0.outcomes =
        ap (λ (os : List Outcome). length os) (sym other.2) ∙ ap (λ (x : SeatParts). length x.outcomes) seat in
        let wanted : length asked ≡ length one.0.requests = ap (λ (rs : List Request). length rs) (sym one.2) in
        omega (arith, few, all, said, wanted);
  }

  are_read : AreRead w.setting.spec w.setting.base first outcomes
  are_read = record {
    reading = λ i place o at.
        let said = said_of w i place o at in
        let request = request_of i place o said in
        reading_there i said.seat said.seat_at request.0 o (outcome_of i place request.0 o said request.1);
    past = λ i place earlier later at next.
        let one = said_of w i place earlier at in
        let other = said_of w i (place + 1) later next in
        (is.answered i one.seat one.seat_at).past place earlier later one.said
        (subst (λ (seat : SeatParts). slice_get seat.outcomes (place + 1) ≡ Some later)
        (one_seat w i other.seat one.seat other.seat_at one.seat_at) other.said);
  }

  are_answers : AreAnswers w.setting.spec w.setting.universe w.setting.base requests first outcomes
  are_answers = record {
    answers = λ i place request o asked at.
        let said = said_of w i place o at in
        answer_there i said.seat said.seat_at request o
        (outcome_of i place request o said (asked_of w i place request asked));
    entered = λ i place request o asked at.
        let said = said_of w i place o at in
        entered_there i said.seat said.seat_at request o
        (outcome_of i place request o said (asked_of w i place request asked));
  }

  named_there : (t : Tx) (op : ℕ) → IsMember first t → t.action ≡ Op op → IsNamedBy outcomes t
  named_there t op m action =
      let known = is.logs.made 0 first t first_at m in
      let by = (is.answered t.dot.origin known.seat known.seat_at).committed t op known.seen refl action in
      record {
        place = by.place;
        outcome = by.outcome;
        at = record {
          list = known.seat.outcomes;
          list_at = map_there (λ (seat : SeatParts). seat.outcomes) w.seats t.dot.origin known.seat known.seat_at;
          at = by.at;
        };
        commits = by.commits;
      }

  -- the first log, the outcomes and the state of all entries are a lawful end
  pub end-lawful : (last : List Fact) → IsStateOf (value_of w.setting.spec w.setting.base first) last →
      IsLawfulEnd w.setting.spec w.setting.universe w.setting.base (map (λ seat. seat.requests) w.seats) first
      (map (λ seat. seat.outcomes) w.seats) last
  end-lawful last last_is = record {
    entries_are = entries_are;
    answered = are_answered;
    read = are_read;
    answers = are_answers;
    named = named_there;
    last_facts = last_is;
  }

-- where a session has seen all entries and is calm, their state is within the bounds
pub end-within : (w : WorldParts) → IsLawful w → (i : ℕ) (a : Actor) → IsActor w i a → IsCalm w i a →
    (entries : List Tx) → HasAll entries a.seat.seen → HasAll a.seat.seen entries → (last : List Fact) →
    IsStateOf (value_of w.setting.spec w.setting.base entries) last → Within w.setting.spec.bounds last
end-within w is i a actor calm entries lies all last last_is =
    subst (λ (state : List Fact). Within w.setting.spec.bounds state)
    (same_rising calm.state last calm.at.rising last_is.rising (λ f. told f)) calm.within
  where
    whole : members_of a.seat.seen a.cut ≡ a.seat.seen
    whole = clock-members a.seat.seen (is.seen i a.seat actor.seat_at).session.legal.history a.cut actor.clock

    told : (f : Fact) → has calm.state f ≡ has last f
    told f = calm.at.facts f ∙ (ap (λ (h : List Tx). value_of w.setting.spec w.setting.base h f) whole
        ∙ (value-same w.setting.spec w.setting.base f a.seat.seen entries lies.each all.each ∙ sym (last_is.facts f)))
