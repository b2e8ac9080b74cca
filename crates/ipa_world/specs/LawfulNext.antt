-- What a session makes stands next in its replica's log.
--
--   lawful-next_there      a session's lawful next transaction comes next in its replica's log
--   lawful-legal_there     and is legal there
--   operation-lawful       the operation that a request commits is the session's lawful next transaction
--   IsMade w i a made      what a session makes leaves its log and its history right
--   made-none, made-one    it makes nothing, or its lawful next transaction
use Rattle.std.proofs.Common.{◌≡◌, ℕ, ◌+◌, ◌<◌, ◌≤◌, List, [], ◌∷◌, ◌++◌, length, refl, sym, ◌∙◌, ap, subst, arith, inl, inr, append-nil}
use Rattle.std.proofs.lemmas.List.{length_push}
use Rattle.ipa_clock.specs.declared.cut.Cut.{Cut}
use Rattle.ipa_clock.specs.declared.dot.Dot.{Dot}
use Rattle.ipa_clock.specs.Cut.{count_of}
use Rattle.ipa_logic.specs.Requests.{IsDo}
use Rattle.ipa_history.specs.Histories.{IsMember, IsHistory, IsClosed, number_of}
use Rattle.ipa_history.specs.MemberLaws.{member_cases, member_none, member-append_cases}
use Rattle.ipa_history.specs.PushLaws.{CanFollow}
use Rattle.ipa_history.specs.Clocks.{clock-closed, number_within}
use Rattle.ipa_history.specs.Legality.{IsLegal}
use Rattle.ipa_history.specs.Answers.{next_operation}
use Rattle.ipa_history.specs.declared.history.Tx.{Tx}
use Rattle.ipa_lift.specs.CutLaws.{IsLegal-agree}
use Rattle.ipa_lift.specs.FollowLaws.{IsLegalHistory-push}
use Rattle.ipa_gate.specs.Settings.{IsLegalFor}
use Rattle.ipa_gate.specs.Shapes.{IsShaped}
use Rattle.ipa_gate.specs.Logs.{IsLog, most}
use Rattle.ipa_gate.specs.LogLaws.{IsLog-push}
use Rattle.ipa_gate.specs.Offers.{IsNextIn, IsAdmitted}
use Rattle.ipa_session.specs.Sessions.{IsLawfulNext}
use Rattle.ipa_world.specs.Worlds.{WorldParts, session_at}
use Rattle.ipa_world.specs.Steps.{Actor, IsActor}
use Rattle.ipa_world.specs.Lawful.{HasSeen, IsLawful}
use Rattle.ipa_world.specs.HistoryParts.{part-agrees, part-closed, past_sessions}
use Rattle.ipa_world.specs.NewsLaws.{no_longer}
use Rattle.ipa_world.specs.LawfulPull.{seen_lies, actor_log, own_seen}

-- what a session makes leaves a log of the setting, and a history that the session can have seen
pub record IsMade (w : WorldParts) (i : ℕ) (a : Actor) (made : List Tx) : Type 0 where
  pub is_log : IsLog w.setting (a.log ++ made)
  pub legal : IsLegalFor w.setting (a.seat.seen ++ made)
  pub shaped : (t : Tx) → IsMember (a.seat.seen ++ made) t → IsShaped w.setting t
  pub own : (t : Tx) → IsMember made t → t.dot.origin ≡ i

module _ (w : WorldParts) (is : IsLawful w) (i : ℕ) (a : Actor) (actor : IsActor w i a) where
  has_seen : HasSeen w i a.seat
  has_seen = is.seen i a.seat actor.seat_at

  history : IsHistory a.seat.seen
  history = has_seen.session.legal.history

  log_is : IsLog w.setting a.log
  log_is = actor_log w is i a actor

  closed_seen : IsClosed a.seat.seen a.cut
  closed_seen = clock-closed a.seat.seen history a.cut actor.clock

  module _ (t : Tx) (lawful : IsLawfulNext (session_at w.setting i a.seat) a.cut t) where
    origin : t.dot.origin ≡ i
    origin = ap (λ (d : Dot). d.origin) lawful.next.dot

    number : t.dot.number ≡ number_of i a.seat.seen + 1
    number =
        let next : t.dot.number ≡ count_of a.cut i + 1 = ap (λ (d : Dot). d.number) lawful.next.dot in
        let counted = actor.clock.counts i in
        omega (arith, next, counted)

    -- no entry has its dot
    unnamed : (u : Tx) → IsMember a.log u → u.dot ≡ t.dot → ⊥
    unnamed u m e =
        let own : u.dot.origin ≡ i = ap (λ (d : Dot). d.origin) e ∙ origin in
        let seen = own_seen w is i a actor u m own in
        let low = number_within a.seat.seen history u seen in
        let same : u.dot.number ≡ t.dot.number = ap (λ (d : Dot). d.number) e in
        let moved : number_of u.dot.origin a.seat.seen ≡ number_of i a.seat.seen =
        ap (λ (o : ℕ). number_of o a.seat.seen) own in
        absurd (omega (arith, low, same, number, moved))

    -- it comes next in the replica's log
    pub lawful-next_there : IsNextIn w.setting a.log t
    lawful-next_there = record {
      fresh = record { shaped = lawful.next.shaped; unnamed = record { none = unnamed } };
      closed = subst (λ (c : Cut). IsClosed a.log c) (sym lawful.next.cut)
          (part-closed a.seat.seen a.log history log_is.legal.history (seen_lies w is i a actor) a.cut closed_seen);
    }

    -- and is legal there
    pub lawful-legal_there : IsLegal w.setting.spec w.setting.universe w.setting.base a.log t
    lawful-legal_there = IsLegal-agree w.setting.spec w.setting.universe w.setting.base a.seat.seen a.log t
        (part-agrees a.seat.seen a.log history log_is.legal.history (seen_lies w is i a actor) t.cut
        (subst (λ (c : Cut). IsClosed a.seat.seen c) (sym lawful.next.cut) closed_seen)) lawful.legal

    -- the session makes it, where there is room
    pub made-one : length (a.log ++ t ∷ []) ≤ most → IsMade w i a (t ∷ [])
    made-one fits = record {
      is_log = IsLog-push w.setting is.setting.few a.log t log_is admitted;
      legal = IsLegalHistory-push w.setting.spec w.setting.universe w.setting.base a.seat.seen t
          has_seen.session.legal follows lawful.next.shaped.fitting lawful.legal;
      shaped = λ u m. elim (member-append_cases a.seat.seen (t ∷ []) u m) [
        | inl old ↦ has_seen.session.shaped u old
        | inr new ↦ elim (member_cases t [] u new) [
          | inl same ↦ subst (λ (x : Tx). IsShaped w.setting x) same lawful.next.shaped
          | inr none ↦ absurd (member_none u none)
        ]
      ];
      own = λ u m. elim (member_cases t [] u m) [
        | inl same ↦ subst (λ (x : Tx). x.dot.origin ≡ i) same origin
        | inr none ↦ absurd (member_none u none)
      ];
    }
      where
        room : length a.log < most
        room = let size = length_push a.log t in omega (arith, fits, size)

        admitted : IsAdmitted w.setting a.log t
        admitted = record { next = lawful-next_there; room = room; legal = lawful-legal_there }

        follows : CanFollow a.seat.seen t
        follows = record {
          room = let less = no_longer a.log a.seat.seen history (seen_lies w is i a actor) in omega (arith, less, room);
          origin =
              let inside = lawful.next.shaped.origin in
              let few = is.setting.few in
              omega (arith, inside, few);
          number = number ∙ ap (λ (o : ℕ). number_of o a.seat.seen + 1) (sym origin);
          own = lawful.next.shaped.own;
          closed = subst (λ (c : Cut). IsClosed a.seat.seen c) (sym lawful.next.cut) closed_seen;
        }

  -- it makes nothing
  pub made-none : IsMade w i a []
  made-none = record {
    is_log = subst (λ (xs : List Tx). IsLog w.setting xs) (sym (append-nil a.log)) log_is;
    legal = subst (λ (xs : List Tx). IsLegalFor w.setting xs) (sym (append-nil a.seat.seen)) has_seen.session.legal;
    shaped = λ t m. has_seen.session.shaped t (subst (λ (xs : List Tx). IsMember xs t) (append-nil a.seat.seen) m);
    own = λ t m. absurd (member_none t m);
  }

  -- the operation that a request commits is the session's lawful next transaction
  pub operation-lawful : (op : ℕ) (args : List ℕ) → IsDo w.setting.spec w.setting.universe op args →
      IsLegal w.setting.spec w.setting.universe w.setting.base a.seat.seen
      (next_operation w.setting.spec a.cut i op args)
      → IsLawfulNext (session_at w.setting i a.seat) a.cut (next_operation w.setting.spec a.cut i op args)
  operation-lawful op args asked legal = record {
    next = record {
      dot = refl;
      cut = refl;
      shaped = record {
        origin = has_seen.session.origin;
        others = λ o past. actor.clock.counts o ∙ past_sessions a.seat.seen history w.setting.sessions
            (λ t m. (has_seen.session.shaped t m).origin) o past;
        number = omega arith;
        own = refl;
        fitting = record { declared = asked.declared; arguments = asked.arguments };
        count = refl;
      };
    };
    legal = legal;
  }
