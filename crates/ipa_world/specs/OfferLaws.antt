-- What a log answers where it is offered a transaction of its world.
--
--   lawful_in           a lawful next transaction of a session is one of it in its world, whatever room it has
--   open_to             the log of a session's replica is open to the session
--   givable_entry       an entry of one log can be given to another
--   givable_welcome     so can what is welcome, and it is news
--   legal_given         what can be given is legal where it comes next
--   taken_given         where it is taken, it is given
--   fault_given         where it is refused, it is for a gap, or for want of room or memory: the other faults never come
--   gap_given           a gap is no news
--   left_given          what is left of a refusal
--   full_given          where it is refused as full, it is news to entries that have no room
use Rattle.std.proofs.Common.{◌≡◌, ℕ, List, length, slice_get, Some, refl, sym, ap, subst, arith}
use Rattle.std.specs.Prelude.{OnOk}
use Rattle.ipa_clock.specs.declared.cut.Cut.{Cut}
use Rattle.ipa_history.specs.Histories.{IsMember}
use Rattle.ipa_history.specs.Clocks.{IsClockOf, one_clock}
use Rattle.ipa_history.specs.Legality.{IsLegal}
use Rattle.ipa_history.specs.declared.history.Tx.{Tx}
use Rattle.ipa_gate.specs.Agreements.{HasAll}
use Rattle.ipa_gate.specs.Offers.{IsNextIn, IsOfferFault, IsTakenAs, entries_after}
use Rattle.ipa_gate.specs.Settings.{SettingParts}
use Rattle.ipa_gate.specs.declared.answers.OfferFault.{OfferFault}
use Rattle.ipa_gate.specs.declared.answers.OfferFault.TheVariants.{Shape, Differs, Gap, OpenCut, Full, Illegal, NoMemory}
use Rattle.ipa_gate.specs.declared.answers.Taken.{Taken}
use Rattle.ipa_gate.specs.declared.answers.Taken.TheVariants.{New, Known}
use Rattle.ipa_session.specs.Sessions.{SessionParts, IsLawfulNext}
use Rattle.ipa_world.specs.Worlds.{SeatParts, WorldParts, session_at}
use Rattle.ipa_world.specs.Steps.{Actor, IsActor, IsNews}
use Rattle.ipa_world.specs.Lawful.{IsLawful, IsEntry}
use Rattle.ipa_world.specs.Seats.{IsWelcome, IsGivable, IsOpenTo, IsGivenTo, IsTooMuch, ComesInWorlds, left_of}
use Rattle.ipa_world.specs.OneVerdict.{one_verdict, session_of, lawful_of}
use Rattle.ipa_world.specs.NewsLaws.{no_longer}
use Rattle.ipa_world.specs.LawfulMoves.{one_entry}
use Rattle.ipa_world.specs.LawfulPull.{seen_lies, actor_log}
use Rattle.ipa_world.specs.LawfulNext.{lawful-next_there, lawful-legal_there}
use Rattle.ipa_world.specs.LawfulGive.{news-next, news-legal_there}

-- a lawful next transaction of a session is one of it in its world, whatever room it has
lawful_in : (p : SessionParts) (s : SettingParts) (i : ℕ) (seat : SeatParts) → p.setting ≡ s → p.origin ≡ i →
    p.seen ≡ seat.seen → (c : Cut) (t : Tx) → IsLawfulNext p c t → IsLawfulNext (session_at s i seat) c t
lawful_in p s i seat setting origin seen c t is =
    subst (λ (q : SessionParts). IsLawfulNext q c t) (λ k. session_of (setting k) (origin k) (seen k)) (lawful_of p c t is)

module _ (w : WorldParts) (lawful : IsLawful w) where
  -- the log of a session's replica is open to the session
  pub open_to : (i : ℕ) (a : Actor) (is : IsActor w i a) (p : SessionParts) → p.setting ≡ w.setting → p.origin ≡ i →
      p.seen ≡ a.seat.seen → IsOpenTo p a.log
  open_to i a is p setting origin seen = record {
    has = record { each = λ t m. lies.each t (subst (λ (h : List Tx). IsMember h t) seen m) };
    few =
        let low = no_longer a.log a.seat.seen (lawful.seen i a.seat is.seat_at).session.legal.history lies in
        let same = ap (λ (h : List Tx). length h) seen in
        omega (arith, low, same);
    room = (actor_log w lawful i a is).few;
    welcome = λ c t clock next.
        let cut : c ≡ a.cut = one_clock a.seat.seen c a.cut (subst (λ (h : List Tx). IsClockOf h c) seen clock) is.clock in
        subst (λ (s : SettingParts). IsWelcome s a.log t) (sym setting)
        (there t (subst (λ (d : Cut). IsLawfulNext (session_at w.setting i a.seat) d t) cut
        (lawful_in p w.setting i a.seat setting origin seen c t next)));
  }
    where
      lies : HasAll a.log a.seat.seen
      lies = seen_lies w lawful i a is

      there : (t : Tx) → IsLawfulNext (session_at w.setting i a.seat) a.cut t → IsWelcome w.setting a.log t
      there t next = record {
        next = lawful-next_there w lawful i a is t next;
        legal = lawful-legal_there w lawful i a is t next;
      }

  -- an entry of one log can be given to another
  pub givable_entry : (t : Tx) → IsEntry w t → (r : ℕ) (h : List Tx) → slice_get w.logs r ≡ Some h →
      IsGivable w.setting h t
  givable_entry t entry r h at = record {
    shaped = (lawful.logs.logs entry.replica entry.log entry.log_at).shaped t entry.member;
    alone = λ u m same. one_entry w lawful u t (lawful.logs.made r h u at m)
        (lawful.logs.made entry.replica entry.log t entry.log_at entry.member) same;
    welcome = λ news. record {
      next = news-next w lawful r t entry h at news;
      legal = news-legal_there w lawful r t entry h at news;
    };
  }

module _ (s : SettingParts) (h : List Tx) (t : Tx) where
  -- what comes next is news
  news_next : IsNextIn s h t → IsNews h t
  news_next is = record { lacks = λ m. is.fresh.unnamed.none t m refl; holds = is.closed.within }

  -- what can be given is legal where it comes next
  pub legal_given : IsGivable s h t → IsNextIn s h t → IsLegal s.spec s.universe s.base h t
  legal_given givable next = (givable.welcome (news_next next)).legal

  pub news_welcome : IsWelcome s h t → IsNews h t
  news_welcome is = news_next is.next

  -- what is welcome can be given
  pub givable_welcome : IsWelcome s h t → IsGivable s h t
  givable_welcome is = record {
    shaped = is.next.fresh.shaped;
    alone = λ u m same. absurd (is.next.fresh.unnamed.none u m same);
    welcome = λ news. is;
  }

  -- where it is taken, it is given
  pub taken_given : (taken : Taken) (after : List Tx) → IsTakenAs s h t taken → after ≡ entries_after h t taken →
      IsGivenTo h t after
  taken_given New after is left = IsGivenTo.takes (news_next is.next) is.room left
  taken_given Known after is left = IsGivenTo.leaves (λ news. news.lacks is) left

  -- where it is refused, it is for a gap, or for want of room or memory
  pub fault_given : IsGivable s h t → (fault : OfferFault) → IsOfferFault s h t fault → ComesInWorlds fault
  fault_given givable Shape is = is.misshapen givable.shaped
  fault_given givable (Differs here there) is = is.other (givable.alone here is.named.member is.named.named)
  fault_given givable (Gap origin have need) is = tt
  fault_given givable (OpenCut member) is =
      let first = is.first.first in
      let news : IsNews h t = record { lacks = λ m. is.fresh.unnamed.none t m refl; holds = is.within } in
      let below = (givable.welcome news).next.closed.below is.tx (record { place = is.first.place; at = first.at }) in
      first.above (below first.covered)
  fault_given givable Full is = tt
  fault_given givable (Illegal reason) is =
      one_verdict s.spec s.universe s.base h t reason (legal_given givable is.next) is.illegal
  fault_given givable NoMemory is = tt

  -- a gap is no news
  pub gap_given : (origin have need : ℕ) → IsOfferFault s h t (Gap origin have need) → (after : List Tx) → after ≡ h →
      IsGivenTo h t after
  gap_given origin have need is after same = IsGivenTo.leaves (λ news.
      let low = news.holds origin in
      let has = is.has in
      let needs = is.needs in
      let lacks = is.lacks in
      absurd (omega (arith, low, has, needs, lacks))) same

  -- what is left of a refusal
  pub left_given : IsGivable s h t → (fault : OfferFault) → IsOfferFault s h t fault → (after : List Tx) → after ≡ h →
      OnOk (left_of fault) (IsGivenTo h t after)
  left_given givable Shape is after same = absurd (fault_given givable Shape is)
  left_given givable (Differs here there) is after same = absurd (fault_given givable (Differs here there) is)
  left_given givable (Gap origin have need) is after same = gap_given origin have need is after same
  left_given givable (OpenCut member) is after same = absurd (fault_given givable (OpenCut member) is)
  left_given givable Full is after same = tt
  left_given givable (Illegal reason) is after same = absurd (fault_given givable (Illegal reason) is)
  left_given givable NoMemory is after same = tt

  -- where it is refused as full, it is news to entries that have no room
  pub full_given : IsOfferFault s h t Full → IsTooMuch h t
  full_given is = record { news = news_next is.next; full = is.full }
