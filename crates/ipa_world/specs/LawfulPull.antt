-- A pull leaves a lawful world.
use Rattle.std.proofs.Common.{◌≡◌, ℕ, List, ◌++◌, Some, slice_get, sym, ◌∙◌, ap, subst, inl, inr}
use Rattle.std.specs.Prelude.{slice_set}
use Rattle.ipa_spec.specs.declared.operations.Action.TheVariants.{Op}
use Rattle.ipa_history.specs.Histories.{IsMember}
use Rattle.ipa_history.specs.MemberLaws.{member-append_left, member-append_cases, filter_member}
use Rattle.ipa_history.specs.declared.history.Tx.{Tx}
use Rattle.ipa_gate.specs.Agreements.{HasAll, lacks, news_of}
use Rattle.ipa_gate.specs.Logs.{IsLog}
use Rattle.ipa_gate.specs.Settings.{IsLegalFor}
use Rattle.ipa_session.specs.Sessions.{IsSession}
use Rattle.ipa_world.specs.Worlds.{SeatParts, WorldParts, session_at, seat_with, with_seat}
use Rattle.ipa_world.specs.Steps.{Actor, IsActor, IsPulled}
use Rattle.ipa_world.specs.Lawful.{HasSeen, IsCommittedBy, IsLawful}
use Rattle.ipa_world.specs.NewsLaws.{news-legal}
use Rattle.ipa_world.specs.LawfulMoves.{changed, put_same}
use Rattle.ipa_world.specs.LawfulActors.{IsExtended, extended-lawful, answered-grown}

module _ (w : WorldParts) (is : IsLawful w) (i : ℕ) (a : Actor) (actor : IsActor w i a) where
  has_seen : HasSeen w i a.seat
  has_seen = is.seen i a.seat actor.seat_at

  -- all that the session has seen is in its replica's log
  pub seen_lies : HasAll a.log a.seat.seen
  seen_lies =
      let both : Some has_seen.log ≡ Some a.log = sym has_seen.log_at ∙ actor.log_at in
      let same : has_seen.log ≡ a.log = cc in
      record { each = λ t m. subst (λ (xs : List Tx). IsMember xs t) same (has_seen.lies t m) }

  -- that log
  pub actor_log : IsLog w.setting a.log
  actor_log = is.logs.logs a.seat.replica a.log actor.log_at

  -- an entry of the session's origin was seen
  pub own_seen : (t : Tx) → IsMember a.log t → t.dot.origin ≡ i → IsMember a.seat.seen t
  own_seen t m own =
      let known = is.logs.made a.seat.replica a.log t actor.log_at m in
      let both : Some known.seat ≡ Some a.seat = sym known.seat_at ∙ (ap (slice_get w.seats) own ∙ actor.seat_at) in
      let same : known.seat ≡ a.seat = cc in
      subst (λ (x : SeatParts). IsMember x.seen t) same known.seen

  abbrev more : List Tx
  more = a.seat.seen ++ news_of a.log a.seat.seen

  legal : IsLegalFor w.setting more
  legal = news-legal w.setting.spec w.setting.universe w.setting.base a.log a.seat.seen actor_log.legal actor_log.few
      has_seen.session.legal seen_lies

  more_lies : HasAll a.log more
  more_lies = record {
    each = λ t m. elim (member-append_cases a.seat.seen (news_of a.log a.seat.seen) t m) [
      | inl old ↦ seen_lies.each t old
      | inr new ↦ let kept = filter_member (lacks a.seat.seen) a.log t new in kept.member
    ];
  }

  had : HasAll more a.seat.seen
  had = record { each = λ t m. member-append_left a.seat.seen (news_of a.log a.seat.seen) t m }

  session : IsSession (session_at w.setting i (seat_with a.seat more a.seat.outcomes))
  session = record {
    origin = has_seen.session.origin;
    legal = legal;
    shaped = λ t m. actor_log.shaped t (more_lies.each t m);
  }

  committed : (t : Tx) (op : ℕ) → IsMember more t → t.dot.origin ≡ i → t.action ≡ Op op →
      IsCommittedBy a.seat.outcomes t
  committed t op m own action =
      (is.answered i a.seat actor.seat_at).committed t op (own_seen t (more_lies.each t m) own) own action

  extended : IsExtended w i a more a.seat.outcomes a.log
  extended = record {
    is_log = actor_log;
    is_session = session;
    had_seen = had;
    had = record { each = λ t m. m };
    lies = more_lies;
    new = λ t m. inl m;
    answered = answered-grown w is i a actor more legal.history had committed;
  }

  pulled : IsLawful (with_seat w i (seat_with a.seat more a.seat.outcomes))
  pulled = subst (λ (logs : List (List Tx)). IsLawful (changed w logs
      (slice_set w.seats i (seat_with a.seat more a.seat.outcomes)) w.peers))
      (put_same w.logs a.seat.replica a.log actor.log_at)
      (extended-lawful w is i a actor more a.seat.outcomes a.log extended)

-- a pull leaves a lawful world
pub pulled-lawful : (w : WorldParts) (i : ℕ) (after : WorldParts) → IsLawful w → IsPulled w i after → IsLawful after
pulled-lawful w i after is p = subst IsLawful (sym p.after_is) (pulled w is i p.actor p.is_actor)
