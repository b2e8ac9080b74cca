-- A transaction that is given to a replica, and what a sender hears, leave a lawful world.
--
--   news-next           where an entry is news to a log, it comes next there
--   news-legal_there    and is legal there
--   given-lawful, heard-lawful      the laws
use Rattle.std.proofs.Common.{◌≡◌, ℕ, List, [], ◌∷◌, ◌++◌, length, Some, slice_get, sym, ◌∙◌, ap, subst, arith, inl, inr}
use Rattle.std.specs.Prelude.{slice_set}
use Rattle.std.proofs.lemmas.List.{length-set, length_push}
use Rattle.ipa_clock.specs.declared.cut.Cut.{Cut}
use Rattle.ipa_clock.specs.Cut.{joined}
use Rattle.ipa_history.specs.Histories.{IsMember}
use Rattle.ipa_history.specs.MemberLaws.{member_cases, member_none, member-append_left, member-append_cases}
use Rattle.ipa_history.specs.Legality.{IsLegal}
use Rattle.ipa_history.specs.declared.history.Tx.{Tx}
use Rattle.ipa_gate.specs.Logs.{IsLog}
use Rattle.ipa_gate.specs.LogLaws.{IsLog-push}
use Rattle.ipa_gate.specs.Offers.{IsNextIn, IsAdmitted}
use Rattle.ipa_world.specs.Worlds.{WorldParts, link_of, with_log}
use Rattle.ipa_world.specs.Steps.{IsNews, IsGiven, takes, leaves, IsHeard}
use Rattle.ipa_world.specs.Room.{HasRoom}
use Rattle.ipa_world.specs.Lawful.{IsKnownBy, AreLogs, IsLawful, IsEntry}
use Rattle.ipa_world.specs.HistoryCrossings.{CanCross, crossing-closed, crossing-legal}
use Rattle.ipa_world.specs.LawfulMoves.{IsGrown, one_entry, put_there, put_cases, put_had, known-grown, seen-grown, answered-still}

module _ (w : WorldParts) (is : IsLawful w) (r : ℕ) (t : Tx) (entry : IsEntry w t) (log : List Tx)
    (log_at : slice_get w.logs r ≡ Some log) (news : IsNews log t) where
  log_is : IsLog w.setting log
  log_is = is.logs.logs r log log_at

  other_is : IsLog w.setting entry.log
  other_is = is.logs.logs entry.replica entry.log entry.log_at

  known : IsKnownBy w t
  known = is.logs.made entry.replica entry.log t entry.log_at entry.member

  crosses : CanCross log entry.log t
  crosses = record {
    same = λ u v mu mv e. one_entry w is u v (is.logs.made r log u log_at mu)
        (is.logs.made entry.replica entry.log v entry.log_at mv) e;
    place = entry.member.place;
    at = entry.member.at;
    holds = news.holds;
  }

  -- an entry that is news to a log comes next there
  pub news-next : IsNextIn w.setting log t
  news-next = record {
    fresh = record {
      shaped = other_is.shaped t entry.member;
      unnamed = record {
        none = λ u m e.
            let same = one_entry w is u t (is.logs.made r log u log_at m) known e in
            news.lacks (subst (λ (x : Tx). IsMember log x) same m);
      };
    };
    closed = crossing-closed w.setting.spec w.setting.universe w.setting.base log entry.log log_is.legal
        other_is.legal t crosses;
  }

  -- and is legal there
  pub news-legal_there : IsLegal w.setting.spec w.setting.universe w.setting.base log t
  news-legal_there = crossing-legal w.setting.spec w.setting.universe w.setting.base log entry.log log_is.legal
      other_is.legal t crosses

  abbrev longer : List Tx
  longer = log ++ t ∷ []

  abbrev logs : List (List Tx)
  logs = slice_set w.logs r longer

  abbrev after : WorldParts
  after = with_log w r longer

  had : (u : Tx) → IsMember log u → IsMember longer u
  had u m = member-append_left log (t ∷ []) u m

  grown : IsGrown w logs w.seats
  grown = record {
    grown_logs = λ k one at. elim (put_had w.logs r longer k one at) [
      | inr same ↦ record { log = one; log_at = same; all = record { each = λ u m. m } }
      | inl here ↦
          let both : Some log ≡ Some one = sym log_at ∙ (ap (slice_get w.logs) (sym here.0) ∙ at) in
          let was : log ≡ one = cc in
          record {
            log = longer;
            log_at = here.1;
            all = record { each = λ u m. had u (subst (λ (xs : List Tx). IsMember xs u) (sym was) m) };
          }
    ];
    grown_seats = λ k one at. record { seat = one; seat_at = at; all = record { each = λ u m. m } };
  }

  known_still : (u : Tx) → IsKnownBy w u → IsKnownBy after u
  known_still = known-grown w logs w.seats w.peers grown

  known_there : (u : Tx) → IsMember longer u → IsKnownBy after u
  known_there u m = elim (member-append_cases log (t ∷ []) u m) [
    | inl old ↦ known_still u (is.logs.made r log u log_at old)
    | inr new ↦ elim (member_cases t [] u new) [
      | inl same ↦ subst (λ (x : Tx). IsKnownBy after x) same (known_still t known)
      | inr none ↦ absurd (member_none u none)
    ]
  ]

  module _ (room : HasRoom after) where
    admitted : IsAdmitted w.setting log t
    admitted = record {
      next = news-next;
      room =
          let fits = room.each r longer (put_there w.logs r longer log log_at) in
          let size = length_push log t in
          omega (arith, fits, size);
      legal = news-legal_there;
    }

    longer_is : IsLog w.setting longer
    longer_is = IsLog-push w.setting is.setting.few log t log_is admitted

    are_logs : AreLogs after
    are_logs = record {
      few = let few = is.logs.few in omega (arith, few, length-set w.logs r longer);
      logs = λ k one at. elim (put_cases w.logs r longer k one at) [
        | inl here ↦ subst (λ (xs : List Tx). IsLog w.setting xs) here.1 longer_is
        | inr there ↦ is.logs.logs k one there
      ];
      made = λ k one u at m. elim (put_cases w.logs r longer k one at) [
        | inl here ↦ known_there u (subst (λ (xs : List Tx). IsMember xs u) (sym here.1) m)
        | inr there ↦ known_still u (is.logs.made k one u there m)
      ];
    }

    taken : IsLawful after
    taken = record {
      setting = is.setting;
      sessions = is.sessions;
      senders = is.senders;
      logs = are_logs;
      seen = λ k one at. seen-grown w logs w.seats w.peers grown k one (is.seen k one at);
      answered = λ k one at. answered-still w logs w.seats w.peers k one (is.answered k one at);
    }

-- a transaction that is given to a replica leaves a lawful world
pub given-lawful : (w : WorldParts) (r : ℕ) (t : Tx) (after : WorldParts) → IsLawful w → IsEntry w t →
    IsGiven w r t after → HasRoom after → IsLawful after
given-lawful w r t after is entry (takes g) room = subst IsLawful (sym g.after_is)
    (taken w is r t entry g.log g.log_at g.news (subst HasRoom g.after_is room))
given-lawful w r t after is entry (leaves g) room = subst IsLawful (sym g.after_is) is

-- where only what senders know is another, the world is lawful
heard : (w : WorldParts) (peers : List Cut) → length peers ≡ 64 → IsLawful w →
    IsLawful (record { setting = w.setting; logs = w.logs; seats = w.seats; peers = peers })
heard w peers senders is = record {
  setting = is.setting;
  sessions = is.sessions;
  senders = senders;
  logs = record {
    few = is.logs.few;
    logs = is.logs.logs;
    made = λ k one t at m. known-grown w w.logs w.seats peers grown t (is.logs.made k one t at m);
  };
  seen = λ k one at. seen-grown w w.logs w.seats peers grown k one (is.seen k one at);
  answered = λ k one at. answered-still w w.logs w.seats peers k one (is.answered k one at);
}
  where
    grown : IsGrown w w.logs w.seats
    grown = record {
      grown_logs = λ k one at. record { log = one; log_at = at; all = record { each = λ u m. m } };
      grown_seats = λ k one at. record { seat = one; seat_at = at; all = record { each = λ u m. m } };
    }

-- what a sender hears leaves a lawful world
pub heard-lawful : (w : WorldParts) (from to : ℕ) (clock : Cut) (after : WorldParts) → IsLawful w →
    IsHeard w from to clock after → IsLawful after
heard-lawful w from to clock after is h = subst IsLawful (sym h.after_is)
    (heard w (slice_set w.peers (link_of from to) (joined h.known clock))
    (length-set w.peers (link_of from to) (joined h.known clock) ∙ is.senders) is)
