-- A session that acts leaves a lawful world.
--
--   IsBound made i request c answer     what an answer commits is made
--   acted-lawful      the law
use Rattle.std.proofs.Common.{◌≡◌, ℕ, zero, suc, ◌+◌, ◌≤◌, List, [], ◌∷◌, ◌++◌, length, Some, None, slice_get, refl, sym, ◌∙◌, ap, subst, arith, inl, inr}
use Rattle.std.proofs.lemmas.List.{length_push}
use Rattle.std.proofs.lemmas.Option.{slice_get_within}
use Rattle.ipa_clock.specs.declared.cut.Cut.{Cut}
use Rattle.ipa_clock.specs.declared.dot.Dot.{Dot}
use Rattle.ipa_clock.specs.Cut.{Covers, IsBelow}
use Rattle.ipa_spec.specs.declared.specification.Specification.{Specification}
use Rattle.ipa_spec.specs.declared.operations.Action.TheVariants.{Op, Drop}
use Rattle.ipa_logic.specs.Facts.{Universe}
use Rattle.ipa_logic.specs.Requests.{IsRequest}
use Rattle.ipa_logic.specs.declared.facts.Fact.{Fact}
use Rattle.ipa_logic.specs.declared.facts.Request.{Request}
use Rattle.ipa_logic.specs.declared.facts.Request.TheVariants.{Do, Show}
use Rattle.ipa_history.specs.Histories.{IsMember, IsHistory, IsClosed}
use Rattle.ipa_history.specs.MemberLaws.{member_cases, member_first, member_none, member-append_left, member-append_right, member-append_cases}
use Rattle.ipa_history.specs.PushLaws.{push_cases}
use Rattle.ipa_history.specs.Clocks.{clock-closed, clock-covers}
use Rattle.ipa_history.specs.Answers.{IsAnswer, next_operation}
use Rattle.ipa_history.specs.LawfulEnds.{IsReading, IsPast, IsEntered}
use Rattle.ipa_history.specs.declared.history.Tx.{Tx}
use Rattle.ipa_history.specs.declared.answers.Answer.{Answer}
use Rattle.ipa_history.specs.declared.answers.Answer.TheVariants.{Commit, Refused, Shown}
use Rattle.ipa_history.specs.declared.outcomes.Outcome.{Outcome}
use Rattle.ipa_gate.specs.Agreements.{HasAll}
use Rattle.ipa_gate.specs.Logs.{most}
use Rattle.ipa_world.specs.Worlds.{SeatParts, WorldParts, seat_with}
use Rattle.ipa_world.specs.Steps.{Actor, IsActor, IsDropped, with_made, committed_of, IsAnswered, IsAct, drops, answers, rests}
use Rattle.ipa_world.specs.Room.{HasRoom}
use Rattle.ipa_world.specs.Lawful.{IsOutcomeOf, IsBehind, IsCommittedBy, HasAnswered, IsLawful}
use Rattle.ipa_world.specs.HistoryParts.{part-reading, part-answer}
use Rattle.ipa_world.specs.LawfulMoves.{put_there, clock-grown, outcome-grown, behind-grown}
use Rattle.ipa_world.specs.LawfulActors.{IsExtended, extended-lawful, answered-grown}
use Rattle.ipa_world.specs.LawfulPull.{seen_lies}
use Rattle.ipa_world.specs.LawfulNext.{IsMade, made-none, made-one, operation-lawful}

-- what a session makes
module _ (w : WorldParts) (is : IsLawful w) (i : ℕ) (a : Actor) (actor : IsActor w i a) (made : List Tx)
    (is_made : IsMade w i a made) where
  abbrev pub more : List Tx
  more = a.seat.seen ++ made

  pub had : HasAll more a.seat.seen
  had = record { each = λ t m. member-append_left a.seat.seen made t m }

  extended : (outcomes : List Outcome) → HasAnswered w i (seat_with a.seat more outcomes) →
      IsExtended w i a more outcomes (a.log ++ made)
  extended outcomes answered = record {
    is_log = is_made.is_log;
    is_session = record {
      origin = (is.seen i a.seat actor.seat_at).session.origin;
      legal = is_made.legal;
      shaped = is_made.shaped;
    };
    had_seen = had;
    had = record { each = λ t m. member-append_left a.log made t m };
    lies = record {
      each = λ t m. elim (member-append_cases a.seat.seen made t m) [
        | inl old ↦ member-append_left a.log made t ((seen_lies w is i a actor).each t old)
        | inr new ↦ member-append_right a.log made t new
      ];
    };
    new = λ t m. elim (member-append_cases a.log made t m) [
      | inl old ↦ inl old
      | inr new ↦ inr (is_made.own t new, member-append_right a.seat.seen made t new)
    ];
    answered = answered;
  }

  -- the world is lawful, if the session has answered its requests
  pub made-lawful : (outcomes : List Outcome) → HasAnswered w i (seat_with a.seat more outcomes) →
      IsLawful (with_made w i a made outcomes)
  made-lawful outcomes answered =
      extended-lawful w is i a actor more outcomes (a.log ++ made) (extended outcomes answered)

-- there is room in the longer log
room_there : (w : WorldParts) (i : ℕ) (a : Actor) → IsActor w i a → (made : List Tx) (outcomes : List Outcome) →
    HasRoom (with_made w i a made outcomes) → length (a.log ++ made) ≤ most
room_there w i a actor made outcomes room =
    room.each a.seat.replica (a.log ++ made) (put_there w.logs a.seat.replica (a.log ++ made) a.log actor.log_at)

-- a drop leaves a lawful world
dropped-lawful : (w : WorldParts) (i : ℕ) (after : WorldParts) → IsLawful w → IsDropped w i after → HasRoom after →
    IsLawful after
dropped-lawful w i after is d room = subst IsLawful (sym d.after_is)
    (made-lawful w is i d.actor d.is_actor (d.tx ∷ []) made d.actor.seat.outcomes answered)
  where
    made : IsMade w i d.actor (d.tx ∷ [])
    made = made-one w is i d.actor d.is_actor d.tx d.due.lawful
        (room_there w i d.actor d.is_actor (d.tx ∷ []) d.actor.seat.outcomes (subst HasRoom d.after_is room))

    committed : (t : Tx) (op : ℕ) → IsMember (d.actor.seat.seen ++ d.tx ∷ []) t → t.dot.origin ≡ i → t.action ≡ Op op →
        IsCommittedBy d.actor.seat.outcomes t
    committed t op m own action = elim (member-append_cases d.actor.seat.seen (d.tx ∷ []) t m) [
      | inl old ↦ (is.answered i d.actor.seat d.is_actor.seat_at).committed t op old own action
      | inr new ↦ elim (member_cases d.tx [] t new) [
        | inl same ↦
            let one : Drop d.due.number ≡ Op op = sym d.due.action ∙ (ap (λ (x : Tx). x.action) same ∙ action) in
            absurd cc
        | inr none ↦ absurd (member_none t none)
      ]
    ]

    answered : HasAnswered w i (seat_with d.actor.seat (d.actor.seat.seen ++ d.tx ∷ []) d.actor.seat.outcomes)
    answered = answered-grown w is i d.actor d.is_actor (d.actor.seat.seen ++ d.tx ∷ []) made.legal.history
        (had w is i d.actor d.is_actor (d.tx ∷ []) made) committed

-- what an answer commits is made: a commit's transaction stands in the history, and what is made is committed
record IsBound (seen made : List Tx) (i : ℕ) (c : Cut) (request : Request) (answer : Answer) : Type 0 where
  entered : IsEntered (seen ++ made) i c request answer
  commit : (number : ℕ) → answer ≡ Commit number →
      (t : Tx) × IsMember made t × (t.dot ≡ record { origin = i; number = number })
  committed : (t : Tx) → IsMember made t → answer ≡ Commit t.dot.number

-- what an answer other than a commit is bound to
bound-nothing : (seen : List Tx) (i : ℕ) (c : Cut) (request : Request) (answer : Answer) →
    IsEntered (seen ++ []) i c request answer → ((number : ℕ) → answer ≡ Commit number → ⊥) →
    IsBound seen [] i c request answer
bound-nothing seen i c request answer entered no_commit = record {
  entered = entered;
  commit = λ number e. absurd (no_commit number e);
  committed = λ t m. absurd (member_none t m);
}

bound-of : (s : Specification) (universe : Universe) (base : List Fact) (seen : List Tx) (i : ℕ) (c : Cut)
    (request : Request) (answer : Answer) → IsAnswer s universe base seen c i request answer →
    IsBound seen (committed_of s i c request answer) i c request answer
bound-of s universe base seen i c (Do op args) (Commit number) is = record {
  entered = record {
    tx = next_operation s c i op args;
    member = member-append_right seen (next_operation s c i op args ∷ []) (next_operation s c i op args)
        (member_first (next_operation s c i op args) []);
    dot = ap (λ (n : ℕ). dot_of i n) (sym is.numbered);
    cut_is = refl;
    action = refl;
    args_are = refl;
  };
  commit = λ n e.
      let same : n ≡ number = cc in (
        next_operation s c i op args,
        member_first (next_operation s c i op args) [],
        ap (λ (x : ℕ). dot_of i x) (sym (same ∙ is.numbered)),
      );
  committed = λ t m. elim (member_cases (next_operation s c i op args) [] t m) [
    | inl same ↦ ap (λ (n : ℕ). Commit n) (is.numbered ∙ ap (λ (x : Tx). x.dot.number) same)
    | inr none ↦ absurd (member_none t none)
  ];
}
  where
    dot_of : ℕ → ℕ → Dot
    dot_of origin number = record { origin = origin; number = number }
bound-of s universe base seen i c (Do op args) (Refused reason) is =
    bound-nothing seen i c (Do op args) (Refused reason) tt (λ n e. cc)
bound-of s universe base seen i c (Do op args) (Shown state) is = absurd is
bound-of s universe base seen i c (Show predicate places) (Commit number) is = absurd is
bound-of s universe base seen i c (Show predicate places) (Refused reason) is = absurd is
bound-of s universe base seen i c (Show predicate places) (Shown state) is =
    bound-nothing seen i c (Show predicate places) (Shown state) tt (λ n e. cc)

-- what it commits is made, where there is room
made-of : (w : WorldParts) (is : IsLawful w) (i : ℕ) (a : Actor) (actor : IsActor w i a) (request : Request)
    (answer : Answer) → IsRequest w.setting.spec w.setting.universe request →
    IsAnswer w.setting.spec w.setting.universe w.setting.base a.seat.seen a.cut i request answer →
    length (a.log ++ committed_of w.setting.spec i a.cut request answer) ≤ most →
    IsMade w i a (committed_of w.setting.spec i a.cut request answer)
made-of w is i a actor (Do op args) (Commit number) fit said fits =
    made-one w is i a actor (next_operation w.setting.spec a.cut i op args)
    (operation-lawful w is i a actor op args fit said.legal) fits
made-of w is i a actor (Do op args) (Refused reason) fit said fits = made-none w is i a actor
made-of w is i a actor (Do op args) (Shown state) fit said fits = made-none w is i a actor
made-of w is i a actor (Show predicate places) answer fit said fits = made-none w is i a actor

-- a place in a list is one in a longer list
place_left : {X : Type 0} (xs ys : List X) (k : ℕ) (x : X) → slice_get xs k ≡ Some x → slice_get (xs ++ ys) k ≡ Some x
place_left [] ys k x e = absurd (let none : None ≡ Some x = e in cc)
place_left (z ∷ xs) ys zero x e = e
place_left (z ∷ xs) ys (suc k) x e = place_left xs ys k x e

-- what stands last
last_at : {X : Type 0} (xs : List X) (x : X) → slice_get (xs ++ x ∷ []) (length xs) ≡ Some x
last_at [] x = refl
last_at (z ∷ xs) x = last_at xs x

module _ (w : WorldParts) (is : IsLawful w) (i : ℕ) (after : WorldParts) (d : IsAnswered w i after)
    (room : HasRoom after) where
  abbrev a : Actor
  a = d.actor

  abbrev seen : List Tx
  seen = d.actor.seat.seen

  abbrev outcomes : List Outcome
  outcomes = d.actor.seat.outcomes

  abbrev made : List Tx
  made = committed_of w.setting.spec i d.actor.cut d.request d.outcome.answer

  abbrev later : SeatParts
  later = seat_with d.actor.seat (d.actor.seat.seen ++ made) (d.actor.seat.outcomes ++ d.outcome ∷ [])

  has : HasAnswered w i d.actor.seat
  has = is.answered i d.actor.seat d.is_actor.seat_at

  is_made : IsMade w i d.actor made
  is_made = made-of w is i d.actor d.is_actor d.request d.outcome.answer
      (has.fit (length outcomes) d.request d.next) d.answer
      (room_there w i d.actor d.is_actor made (outcomes ++ d.outcome ∷ []) (subst HasRoom d.after_is room))

  bound : IsBound seen made i d.actor.cut d.request d.outcome.answer
  bound = bound-of w.setting.spec w.setting.universe w.setting.base seen i d.actor.cut d.request d.outcome.answer
      d.answer

  known : IsHistory seen
  known = (is.seen i d.actor.seat d.is_actor.seat_at).session.legal.history

  longer : IsHistory (seen ++ made)
  longer = is_made.legal.history

  all : HasAll (seen ++ made) seen
  all = had w is i d.actor d.is_actor made is_made

  closed : IsClosed seen d.actor.cut
  closed = clock-closed seen known d.actor.cut d.is_actor.clock

  -- the new outcome is the request's
  reading : IsReading w.setting.spec w.setting.base seen d.actor.cut
  reading = record { closed = closed; state = d.calm.state; at = d.calm.at; within = d.calm.within }

  new_outcome : IsOutcomeOf w i later d.request d.outcome
  new_outcome = record {
    reading = subst (λ (c : Cut). IsReading w.setting.spec w.setting.base (seen ++ made) c) (sym d.cut_is)
        (part-reading seen (seen ++ made) known longer all d.actor.cut closed w.setting.spec w.setting.base reading);
    answer = subst (λ (c : Cut). IsAnswer w.setting.spec w.setting.universe w.setting.base (seen ++ made) c i d.request
        d.outcome.answer) (sym d.cut_is)
        (part-answer seen (seen ++ made) known longer all d.actor.cut closed w.setting.spec w.setting.universe
        w.setting.base i d.request d.outcome.answer d.answer);
    entered = subst (λ (c : Cut). IsEntered (seen ++ made) i c d.request d.outcome.answer) (sym d.cut_is) bound.entered;
  }

  outcome_at : (place : ℕ) (request : Request) (o : Outcome) → slice_get d.actor.seat.requests place ≡ Some request →
      slice_get (outcomes ++ d.outcome ∷ []) place ≡ Some o → IsOutcomeOf w i later request o
  outcome_at place request o asked said = elim (push_cases outcomes d.outcome place o said) [
    | inl old ↦ outcome-grown w i d.actor.seat later known longer all request o
        (has.outcomes place request o asked old.1)
    | inr new ↦
        let both : Some d.request ≡ Some request =
        sym d.next ∙ (ap (slice_get d.actor.seat.requests) (sym new.0) ∙ asked) in
        let same : d.request ≡ request = cc in
        subst (λ (x : Request). IsOutcomeOf w i later x o) same
        (subst (λ (x : Outcome). IsOutcomeOf w i later d.request x) new.1 new_outcome)
  ]

  -- what was seen is behind it
  new_behind : IsBehind i (seen ++ made) d.outcome
  new_behind = record {
    cut = λ c clock. subst (λ (b : Cut). IsBelow b c) (sym d.cut_is)
        (clock-grown w i d.actor.seat later known longer all d.actor.cut d.is_actor.clock c clock);
    commit = λ c number clock commits.
        let t = bound.commit number commits in
        subst (λ (x : Dot). Covers c x) t.2
        (clock-covers (seen ++ made) longer c clock t.0 (member-append_right seen made t.0 t.1));
  }

  behind_at : (place : ℕ) (o : Outcome) → slice_get (outcomes ++ d.outcome ∷ []) place ≡ Some o →
      IsBehind i (seen ++ made) o
  behind_at place o said = elim (push_cases outcomes d.outcome place o said) [
    | inl old ↦ behind-grown w i d.actor.seat later known longer all d.actor.cut d.is_actor.clock o
        (has.behind place o old.1)
    | inr new ↦ subst (λ (x : Outcome). IsBehind i (seen ++ made) x) new.1 new_behind
  ]

  -- it is past the outcome before it
  past_new : (place : ℕ) (earlier : Outcome) → slice_get outcomes place ≡ Some earlier → IsPast i earlier d.outcome
  past_new place earlier at =
      let behind = has.behind place earlier at in record {
        cut = subst (λ (c : Cut). IsBelow earlier.cut c) (sym d.cut_is) (behind.cut d.actor.cut d.is_actor.clock);
        commit = λ number commits. subst (λ (c : Cut). Covers c (record { origin = i; number = number })) (sym d.cut_is)
            (behind.commit d.actor.cut number d.is_actor.clock commits);
      }

  past_at : (place : ℕ) (one two : Outcome) → slice_get (outcomes ++ d.outcome ∷ []) place ≡ Some one →
      slice_get (outcomes ++ d.outcome ∷ []) (place + 1) ≡ Some two → IsPast i one two
  past_at place one two first second = elim (push_cases outcomes d.outcome (place + 1) two second) [
    | inl old ↦ elim (push_cases outcomes d.outcome place one first) [
      | inl before ↦ has.past place one two before.1 old.1
      | inr last ↦ absurd (omega (arith, last.0, old.0))
    ]
    | inr new ↦ elim (push_cases outcomes d.outcome place one first) [
      | inl before ↦ subst (λ (x : Outcome). IsPast i one x) new.1 (past_new place one before.1)
      | inr last ↦ absurd (omega (arith, last.0, new.0))
    ]
  ]

  -- each operation is committed
  committed_at : (t : Tx) (op : ℕ) → IsMember (seen ++ made) t → t.dot.origin ≡ i → t.action ≡ Op op →
      IsCommittedBy (outcomes ++ d.outcome ∷ []) t
  committed_at t op m own action = elim (member-append_cases seen made t m) [
    | inl old ↦
        let by = has.committed t op old own action in record {
          place = by.place;
          outcome = by.outcome;
          at = place_left outcomes (d.outcome ∷ []) by.place by.outcome by.at;
          commits = by.commits;
        }
    | inr new ↦ record {
      place = length outcomes;
      outcome = d.outcome;
      at = last_at outcomes d.outcome;
      commits = bound.committed t new;
    }
  ]

  answered : HasAnswered w i later
  answered = record {
    few =
        let inside = slice_get_within d.actor.seat.requests (length outcomes) d.request d.next in
        let size = length_push outcomes d.outcome in
        omega (arith, inside, size);
    fit = has.fit;
    outcomes = outcome_at;
    behind = behind_at;
    past = past_at;
    committed = committed_at;
  }

  -- an answered request leaves a lawful world
  answered-lawful : IsLawful after
  answered-lawful = subst IsLawful (sym d.after_is)
      (made-lawful w is i d.actor d.is_actor made is_made (outcomes ++ d.outcome ∷ []) answered)

-- a session that acts leaves a lawful world
pub acted-lawful : (w : WorldParts) (i : ℕ) (after : WorldParts) → IsLawful w → IsAct w i after → HasRoom after →
    IsLawful after
acted-lawful w i after is (drops d) room = dropped-lawful w i after is d room
acted-lawful w i after is (answers d) room = answered-lawful w is i after d room
acted-lawful w i after is (rests d) room = subst IsLawful (sym d.after_is) is
