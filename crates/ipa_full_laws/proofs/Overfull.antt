-- What a world that is stuck is due: a history of one more than a log can have.
--
--   IsOverfull w      a legal history of the world's setting with one entry too many, whose operations were asked for
--   overfull-stuck    a lawful world that is stuck is due one
use Rattle.std.proofs.Common.{◌≡◌, ℕ, ◌+◌, ◌<◌, true, List, [], ◌∷◌, ◌++◌, length, map, Some, slice_get, refl, sym, ◌∙◌, ap, subst, arith, inl, inr}
use Rattle.std.specs.Prelude.{slice_set}
use Rattle.std.proofs.lemmas.Bool.{false≢true}
use Rattle.std.proofs.lemmas.List.{length-map, length_push}
use Rattle.std.proofs.lemmas.Option.{same_Some, slice_get_within}
use Rattle.ipa_clock.specs.declared.cut.Cut.{Cut}
use Rattle.ipa_spec.specs.declared.specification.Specification.{Specification}
use Rattle.ipa_spec.specs.declared.operations.Action.{Action}
use Rattle.ipa_spec.specs.declared.operations.Action.TheVariants.{Op, Drop}
use Rattle.ipa_logic.specs.Facts.{Universe}
use Rattle.ipa_logic.specs.declared.facts.Fact.{Fact}
use Rattle.ipa_logic.specs.declared.facts.Request.{Request}
use Rattle.ipa_logic.specs.declared.facts.Request.TheVariants.{Do, Show}
use Rattle.ipa_history.specs.Histories.{IsMember}
use Rattle.ipa_history.specs.MemberLaws.{member_cases, member_first, member_none, member-append_left, member-append_right, member-append_cases}
use Rattle.ipa_history.specs.PushLaws.{at_place, push_cases}
use Rattle.ipa_history.specs.Legality.{IsLegal}
use Rattle.ipa_history.specs.Answers.{IsAnswer, next_operation}
use Rattle.ipa_history.specs.LawfulEnds.{IsAt, IsNamedBy}
use Rattle.ipa_history.specs.declared.history.Tx.{Tx}
use Rattle.ipa_history.specs.declared.answers.Answer.{Answer}
use Rattle.ipa_history.specs.declared.answers.Answer.TheVariants.{Commit, Refused, Shown}
use Rattle.ipa_history.specs.declared.outcomes.Outcome.{Outcome}
use Rattle.ipa_lift.specs.FewDrops.{is_op, is_operation}
use Rattle.ipa_lift.specs.FollowLaws.{IsLegalHistory-push}
use Rattle.ipa_gate.specs.Settings.{IsLegalFor}
use Rattle.ipa_gate.specs.Logs.{IsLog, most}
use Rattle.ipa_gate.specs.LogLaws.{CanFollow-next}
use Rattle.ipa_gate.specs.Offers.{IsNextIn}
use Rattle.ipa_session.specs.Sessions.{IsDueNext}
use Rattle.ipa_world.specs.Worlds.{SeatParts, WorldParts, session_at}
use Rattle.ipa_world.specs.Steps.{Actor, IsActor}
use Rattle.ipa_world.specs.Room.{IsCommitDue, IsDueEntry, IsActFull, IsGiveFull}
use Rattle.ipa_world.specs.Lawful.{IsKnownBy, IsLawful, IsEntry}
use Rattle.ipa_world.specs.LawfulLaws.{mapped_at}
use Rattle.ipa_world.specs.LawfulMoves.{put_there, put_cases, put_had}
use Rattle.ipa_world.specs.LawfulGive.{news-next, news-legal_there}
use Rattle.ipa_world.specs.LawfulNext.{lawful-next_there, lawful-legal_there, operation-lawful}
use Rattle.ipa_schedule.specs.Running.{requests_of}
use Rattle.ipa_full_laws.specs.Large.{IsAsked, AreAsked}
use Rattle.ipa_full_laws.proofs.Counted.{image_at}
use Rattle.ipa_full_laws.proofs.Stuck.{IsStuck, acting, giving}

-- a legal history of the world's setting with one entry too many, whose operations were asked for
pub record IsOverfull (w : WorldParts) : Type 0 where
  pub history : List Tx
  pub outcomes : List (List Outcome)
  pub legal : IsLegalFor w.setting history
  pub asked : AreAsked (requests_of w) outcomes history
  pub size : length history ≡ most + 1

-- an operation has a number
op_of : (action : Action) → is_op action ≡ true → (n : ℕ) × (action ≡ Op n)
op_of (Op n) is = (n, refl)
op_of (Drop n) is = absurd (false≢true is)

-- a request that is answered with a commit is one to do an operation
record IsToDo (request : Request) : Type 0 where
  op : ℕ
  args : List ℕ
  is : request ≡ Do op args

commit_to_do : (s : Specification) (universe : Universe) (base : List Fact) (h : List Tx) (c : Cut) (i : ℕ)
    (request : Request) (answer : Answer) (number : ℕ) → IsAnswer s universe base h c i request answer →
    answer ≡ Commit number → IsToDo request
commit_to_do s universe base h c i (Do op args) answer number is commits =
    record { op = op; args = args; is = refl }
commit_to_do s universe base h c i (Show predicate wanted) (Commit other) number is commits = absurd is
commit_to_do s universe base h c i (Show predicate wanted) (Refused reason) number is commits = absurd is
commit_to_do s universe base h c i (Show predicate wanted) (Shown state) number is commits =
    let wrong : Shown state ≡ Commit number = commits in absurd cc

module _ (w : WorldParts) (is : IsLawful w) where
  abbrev requests : List (List Request)
  requests = map (λ (seat : SeatParts). seat.requests) w.seats

  abbrev answered : List (List Outcome)
  answered = map (λ (seat : SeatParts). seat.outcomes) w.seats

  requests_at : (i : ℕ) (seat : SeatParts) → slice_get w.seats i ≡ Some seat →
      slice_get requests i ≡ Some seat.requests
  requests_at i seat at = image_at (λ (one : SeatParts). one.requests) w.seats i seat at

  answered_at : (i : ℕ) (seat : SeatParts) → slice_get w.seats i ≡ Some seat →
      slice_get answered i ≡ Some seat.outcomes
  answered_at i seat at = image_at (λ (one : SeatParts). one.outcomes) w.seats i seat at

  -- each commit so far answers a request to do an operation
  asked_seat : (i : ℕ) (seat : SeatParts) → slice_get w.seats i ≡ Some seat → (k number : ℕ) (o : Outcome) →
      slice_get seat.outcomes k ≡ Some o → o.answer ≡ Commit number → IsAsked requests i k
  asked_seat i seat seat_at k number o said commits =
      let has = is.answered i seat seat_at in
      let inside = slice_get_within seat.outcomes k o said in
      let few = has.few in
      let request = at_place seat.requests k (omega (arith, inside, few)) in
      let outcome = has.outcomes k request.0 o request.1 said in
      let to_do = commit_to_do w.setting.spec w.setting.universe w.setting.base seat.seen o.cut i request.0 o.answer
      number outcome.answer commits in
      record {
        op = to_do.op;
        args = to_do.args;
        at = record {
          list = seat.requests;
          list_at = requests_at i seat seat_at;
          at = request.1 ∙ ap (λ (r : Request). Some r) to_do.is;
        };
      }

  asked_so_far : (i k number : ℕ) (o : Outcome) → IsAt answered i k o → o.answer ≡ Commit number →
      IsAsked requests i k
  asked_so_far i k number o at commits =
      let seat = mapped_at (λ (one : SeatParts). one.outcomes) w.seats i at.list at.list_at in
      asked_seat i seat.0 seat.1 k number o
      (subst (λ (os : List Outcome). slice_get os k ≡ Some o) (sym seat.2) at.at) commits

  -- an operation that its session knows of is a commit
  named_known : (t : Tx) → IsKnownBy w t → is_operation t ≡ true → IsNamedBy answered t
  named_known t known operation =
      let action = op_of t.action operation in
      let by = (is.answered t.dot.origin known.seat known.seat_at).committed t action.0 known.seen refl action.1 in
      record {
        place = by.place;
        outcome = by.outcome;
        at = record {
          list = known.seat.outcomes;
          list_at = answered_at t.dot.origin known.seat known.seat_at;
          at = by.at;
        };
        commits = by.commits;
      }

  sessions_are : length requests ≡ w.setting.sessions
  sessions_are = length-map w.seats (λ (seat : SeatParts). seat.requests) ∙ is.sessions

  -- a full log, the transaction that it is due, and the outcomes by which that was asked for
  module _ (r : ℕ) (log : List Tx) (log_at : slice_get w.logs r ≡ Some log) (full : length log ≡ most) (t : Tx)
      (next : IsNextIn w.setting log t)
      (legal : IsLegal w.setting.spec w.setting.universe w.setting.base log t)
      (outcomes : List (List Outcome))
      (asked : (i k number : ℕ) (o : Outcome) → IsAt outcomes i k o → o.answer ≡ Commit number → IsAsked requests i k)
      (still : (u : Tx) → IsNamedBy answered u → IsNamedBy outcomes u)
      (new : is_operation t ≡ true → IsNamedBy outcomes t) where
    log_is : IsLog w.setting log
    log_is = is.logs.logs r log log_at

    named : (u : Tx) → IsMember (log ++ t ∷ []) u → is_operation u ≡ true → IsNamedBy outcomes u
    named u m operation = elim (member-append_cases log (t ∷ []) u m) [
      | inl old ↦ still u (named_known u (is.logs.made r log u log_at old) operation)
      | inr last ↦ elim (member_cases t [] u last) [
        | inl same ↦ subst (λ (x : Tx). IsNamedBy outcomes x) same
            (new (ap (λ (x : Tx). is_operation x) same ∙ operation))
        | inr none ↦ absurd (member_none u none)
      ]
    ]

    origins : (u : Tx) → IsMember (log ++ t ∷ []) u → u.dot.origin < length requests
    origins u m = elim (member-append_cases log (t ∷ []) u m) [
      | inl old ↦ let low = (log_is.shaped u old).origin in omega (arith, low, sessions_are)
      | inr last ↦ elim (member_cases t [] u last) [
        | inl same ↦
            let low = next.fresh.shaped.origin in
            subst (λ (x : Tx). x.dot.origin < length requests) same (omega (arith, low, sessions_are))
        | inr none ↦ absurd (member_none u none)
      ]
    ]

    overfull : IsOverfull w
    overfull = record {
      history = log ++ t ∷ [];
      outcomes = outcomes;
      legal = IsLegalHistory-push w.setting.spec w.setting.universe w.setting.base log t log_is.legal
          (CanFollow-next w.setting is.setting.few log log_is t next) next.fresh.shaped.fitting legal;
      asked = record { origins = origins; named = named; asked = asked };
      size = let size = length_push log t in omega (arith, size, full);
    }

  -- an entry of another log
  overfull_given : (r : ℕ) (t : Tx) → IsEntry w t → IsGiveFull w r t → IsOverfull w
  overfull_given r t entry given = overfull r given.log given.log_at given.full t
      (news-next w is r t entry given.log given.log_at given.news)
      (news-legal_there w is r t entry given.log given.log_at given.news)
      answered asked_so_far (λ u named. named)
      (named_known t (is.logs.made entry.replica entry.log t entry.log_at entry.member))

  module _ (i : ℕ) (a : Actor) (actor : IsActor w i a) (full : length a.log ≡ most) where
    -- a drop
    overfull_dropped : (t : Tx) → IsDueNext (session_at w.setting i a.seat) a.cut t → IsOverfull w
    overfull_dropped t due = overfull a.seat.replica a.log actor.log_at full t
        (lawful-next_there w is i a actor t due.lawful) (lawful-legal_there w is i a actor t due.lawful)
        answered asked_so_far (λ u named. named)
        (λ operation. absurd (false≢true (sym (ap is_op due.action) ∙ operation)))

    -- a commit, with the outcome that it would have
    module _ (due : IsCommitDue w i a) where
      abbrev tx : Tx
      tx = next_operation w.setting.spec a.cut i due.op due.args

      abbrev outcome : Outcome
      outcome = record { cut = a.cut; answer = Commit tx.dot.number }

      abbrev longer : List Outcome
      longer = a.seat.outcomes ++ outcome ∷ []

      abbrev later : List (List Outcome)
      later = slice_set answered i longer

      before_at : slice_get answered i ≡ Some a.seat.outcomes
      before_at = answered_at i a.seat actor.seat_at

      asked_later : (j k number : ℕ) (o : Outcome) → IsAt later j k o → o.answer ≡ Commit number →
          IsAsked requests j k
      asked_later j k number o at commits = elim (put_cases answered i longer j at.list at.list_at) [
        | inr there ↦ asked_so_far j k number o (record { list = at.list; list_at = there; at = at.at }) commits
        | inl here ↦ elim (push_cases a.seat.outcomes outcome k o
            (subst (λ (os : List Outcome). slice_get os k ≡ Some o) (sym here.1) at.at)) [
              | inl old ↦ subst (λ (n : ℕ). IsAsked requests n k) (sym here.0)
                  (asked_seat i a.seat actor.seat_at k number o old.1 commits)
              | inr last ↦ subst (λ (n : ℕ). IsAsked requests n k) (sym here.0) (record {
                op = due.op;
                args = due.args;
                at = record {
                  list = a.seat.requests;
                  list_at = requests_at i a.seat actor.seat_at;
                  at = ap (slice_get a.seat.requests) last.0 ∙ due.next;
                };
              })
            ]
      ]

      still_later : (u : Tx) → IsNamedBy answered u → IsNamedBy later u
      still_later u named = elim (put_had answered i longer u.dot.origin named.at.list named.at.list_at) [
        | inr there ↦ record {
          place = named.place;
          outcome = named.outcome;
          at = record { list = named.at.list; list_at = there; at = named.at.at };
          commits = named.commits;
        }
        | inl here ↦
            let same : named.at.list ≡ a.seat.outcomes = same_Some named.at.list a.seat.outcomes
            (sym named.at.list_at ∙ (ap (slice_get answered) here.0 ∙ before_at)) in
            let had : IsMember a.seat.outcomes named.outcome =
            subst (λ (os : List Outcome). IsMember os named.outcome) same
            (record { place = named.place; at = named.at.at }) in
            let m = member-append_left a.seat.outcomes (outcome ∷ []) named.outcome had in
            record {
              place = m.place;
              outcome = named.outcome;
              at = record { list = longer; list_at = here.1; at = m.at };
              commits = named.commits;
            }
      ]

      named_later : IsNamedBy later tx
      named_later =
          let m = member-append_right a.seat.outcomes (outcome ∷ []) outcome (member_first outcome []) in
          record {
            place = m.place;
            outcome = outcome;
            at = record {
              list = longer;
              list_at = put_there answered i longer a.seat.outcomes before_at;
              at = m.at;
            };
            commits = refl;
          }

      overfull_committed : IsOverfull w
      overfull_committed =
          let fit = (is.answered i a.seat actor.seat_at).fit (length a.seat.outcomes) (Do due.op due.args) due.next in
          let lawful = operation-lawful w is i a actor due.op due.args fit due.legal in
          overfull a.seat.replica a.log actor.log_at full tx
          (lawful-next_there w is i a actor tx lawful) (lawful-legal_there w is i a actor tx lawful)
          later asked_later still_later (λ operation. named_later)

  -- a session that acts
  overfull_acted : (i : ℕ) → IsActFull w i → IsOverfull w
  overfull_acted i acted = by_entry acted.due
    where
      full : length acted.actor.log ≡ most
      full =
          let same : acted.full.log ≡ acted.actor.log = same_Some acted.full.log acted.actor.log
          (sym acted.full.log_at ∙ acted.is_actor.log_at) in
          subst (λ (h : List Tx). length h ≡ most) same acted.full.full

      by_entry : IsDueEntry w i acted.actor → IsOverfull w
      by_entry (IsDueEntry.drop t due) = overfull_dropped i acted.actor acted.is_actor full t due
      by_entry (IsDueEntry.commit due) = overfull_committed i acted.actor acted.is_actor full due

  -- a lawful world that is stuck is due one
  pub overfull-stuck : IsStuck w → IsOverfull w
  overfull-stuck (acting i full) = overfull_acted i full
  overfull-stuck (giving r t entry full) = overfull_given r t entry full
