-- Up to which places of its logs a world has got, step by step.
--
--   sends_few, receives_few, sender_at, peer_at     a link, the log of its sender, and what the sender knows
--   longer_same, longer_by, longer_given     entries with nothing, or something, at their end
--   read-start, covered-start      at the start
--   read-log, covered-log          a log has more at its end
--   read-pull                      a session has pulled
--   read-act                       a session has acted
--   heard-covered                  a sender that has heard more takes what it knew for covered
--   covered-heard                  a sender has heard
use Rattle.std.proofs.Common.{◌≡◌, ℕ, ◌+◌, ◌*◌, ◌<◌, ◌≤◌, true, List, [], ◌∷◌, ◌++◌, length, map, replicate, Some, Ok, Err, slice_get, get_or, refl, sym, ◌∙◌, ap, subst, arith, inl, inr}
use Rattle.std.specs.Prelude.{Result, OnOk, OnErr, slice_set, slice_index_or}
use Rattle.std.proofs.lemmas.Bool.{cases_eq, cases_lt}
use Rattle.std.proofs.lemmas.Grind.{get_or-set_at}
use Rattle.std.proofs.lemmas.List.{append-nil, get_or-set_other, get_or-replicate, get_or_past, length-map, length-replicate, length-set}
use Rattle.ipa_clock.specs.declared.cut.Cut.{Cut}
use Rattle.ipa_clock.specs.Cut.{is_covered, joined}
use Rattle.ipa_clock.specs.Lemmas.{covers_joined}
use Rattle.ipa_history.specs.Histories.{IsMember}
use Rattle.ipa_history.specs.HistoryLaws.{covered_covers, covers_covered}
use Rattle.ipa_history.specs.MemberLaws.{member-append_left}
use Rattle.ipa_history.specs.declared.history.Tx.{Tx}
use Rattle.ipa_gate.specs.Agreements.{IsReadTo, IsCoveredTo}
use Rattle.ipa_gate.specs.Fronts.{HasFront, front-none, front-append, front-weaker}
use Rattle.ipa_gate.specs.Logs.{LogParts}
use Rattle.ipa_gate.specs.Settings.{SettingParts}
use Rattle.ipa_world.specs.Worlds.{WorldParts, link_of}
use Rattle.ipa_world.specs.Lawful.{IsLawful}
use Rattle.ipa_world.specs.LawfulMoves.{put_there, put_cases}
use Rattle.ipa_world.specs.Standing.{entries_of, world_of, IsStanding}
use Rattle.ipa_world.specs.Places.{IsLonger, AreUnread, AreRead, AreCovered}
use Rattle.ipa_world.specs.Seats.{IsGivenTo}
use Rattle.ipa_world.specs.declared.seats.Seat.{Seat}
use Rattle.ipa_world.proofs.StandingLemmas.{at_index}

module _ (s : SettingParts) (logs : List LogParts) (seats : List Seat) (peers : List Cut) (w : WorldParts)
    (view : world_of s logs seats peers ≡ w) (standing : IsStanding s logs seats peers) (from to : ℕ)
    (sends : from < length w.logs) (receives : to < length w.logs) where
  counted : length w.logs ≡ length logs
  counted = sym (ap (λ (x : WorldParts). length x.logs) view) ∙ length-map logs entries_of

  few : length w.logs ≤ 8
  few = (subst (λ (x : WorldParts). IsLawful x) view standing.lawful).logs.few

  -- a link
  pub sends_few : from < 8
  sends_few = omega (arith, sends, few)

  pub receives_few : to < 8
  receives_few = omega (arith, receives, few)

  -- the log of its sender
  pub sender_at : (log : LogParts) → log ≡ slice_index_or logs from log → slice_get logs from ≡ Some log
  sender_at log is = at_index logs from log (omega (arith, sends, counted)) is

  -- what the sender knows
  pub peer_at : (known : Cut) → known ≡ slice_index_or peers (link_of from to) known →
      slice_get peers (link_of from to) ≡ Some known
  peer_at known is = at_index peers (link_of from to) known (
      let senders = standing.lawful.senders in
      omega (arith, senders, sends_few, receives_few)) is

-- entries with nothing at their end
pub longer_same : (h after : List Tx) → after ≡ h → IsLonger h after
longer_same h after same = record { rest = []; is = same ∙ sym (append-nil h) }

-- entries with something at their end, unless there was a fault
pub longer_by : {T E : Type 0} (r : Result T E) (h after rest : List Tx) → OnOk r (after ≡ h ++ rest) →
    OnErr r (after ≡ h) → IsLonger h after
longer_by (Ok x) h after rest more same = record { rest = rest; is = more }
longer_by (Err e) h after rest more same = longer_same h after same

-- entries that were given something
given_longer : (h : List Tx) (t : Tx) (after : List Tx) → IsGivenTo h t after → IsLonger h after
given_longer h t after (IsGivenTo.takes news room more) = record { rest = t ∷ []; is = more }
given_longer h t after (IsGivenTo.leaves none same) = longer_same h after same

pub longer_given : {T E : Type 0} (r : Result T E) (h : List Tx) (t : Tx) (after : List Tx) →
    OnOk r (IsGivenTo h t after) → OnErr r (after ≡ h) → IsLonger h after
longer_given (Ok x) h t after given same = given_longer h t after given
longer_given (Err e) h t after given same = longer_same h after same

-- what holds of the first entries still does
front_longer : (P : Tx → Type 0) (h after : List Tx) (n : ℕ) → IsLonger h after → HasFront P h n → HasFront P after n
front_longer P h after n grown front =
    subst (λ (xs : List Tx). HasFront P xs n) (sym grown.is) (front-append P h grown.rest n front)

-- at the start nothing was read
pub read-start : (logs : List LogParts) (seats : List Seat) → AreUnread seats → AreRead logs seats
read-start logs seats unread = record {
  each = λ i seat log at there.
      subst (λ (n : ℕ). IsReadTo log.entries seat.session.seen n) (sym (unread.each i seat at))
      (front-none (IsMember seat.session.seen) log.entries);
}

-- and nothing is covered
abbrev none_covered : List ℕ
none_covered = replicate 64 0

pub covered-start : (logs : List LogParts) (peers : List Cut) → AreCovered logs peers none_covered
covered-start logs peers = record {
  sized = length-replicate {A = ℕ} 64 0;
  each = λ from to log known few log_at known_at.
      subst (λ (n : ℕ). IsCoveredTo log.entries known n) (sym (none (link_of from to)))
      (front-none (λ (t : Tx). is_covered known t.dot ≡ true) log.entries);
}
  where
    none : (k : ℕ) → get_or none_covered k 0 ≡ 0
    none k = elim (cases_lt k 64) [
      | inl inside ↦ get_or-replicate {A = ℕ} 64 k 0 0 inside
      | inr past ↦ let size = length-replicate {A = ℕ} 64 0 in get_or_past none_covered k 0 (omega (arith, past, size))
    ]

module _ (logs : List LogParts) (r : ℕ) (log longer : LogParts) (at : slice_get logs r ≡ Some log)
    (grown : IsLonger log.entries longer.entries) where
  -- a log has more at its end
  pub read-log : (seats : List Seat) → AreRead logs seats → AreRead (slice_set logs r longer) seats
  read-log seats are = record {
    each = λ i seat one seat_at there. elim (put_cases logs r longer seat.replica one there) [
      | inl here ↦
          let old = are.each i seat log seat_at
          (subst (λ (k : ℕ). slice_get logs k ≡ Some log) (sym here.0) at) in
          subst (λ (x : LogParts). IsReadTo x.entries seat.session.seen seat.read) here.1
          (front_longer (IsMember seat.session.seen) log.entries longer.entries seat.read grown old)
      | inr old ↦ are.each i seat one seat_at old
    ];
  }

  pub covered-log : (peers : List Cut) (places : List ℕ) → AreCovered logs peers places →
      AreCovered (slice_set logs r longer) peers places
  covered-log peers places are = record {
    sized = are.sized;
    each = λ from to one known few there known_at. elim (put_cases logs r longer from one there) [
      | inl here ↦
          let old = are.each from to log known few
          (subst (λ (k : ℕ). slice_get logs k ≡ Some log) (sym here.0) at) known_at in
          subst (λ (x : LogParts). IsCoveredTo x.entries known (get_or places (link_of from to) 0)) here.1
          (front_longer (λ (t : Tx). is_covered known t.dot ≡ true) log.entries longer.entries
          (get_or places (link_of from to) 0) grown old)
      | inr old ↦ are.each from to one known few old known_at
    ];
  }

-- a session has read
read-seat : (logs : List LogParts) (seats : List Seat) (i : ℕ) (new : Seat) →
    ((log : LogParts) → slice_get logs new.replica ≡ Some log → IsReadTo log.entries new.session.seen new.read) →
    AreRead logs seats → AreRead logs (slice_set seats i new)
read-seat logs seats i new here are = record {
  each = λ j seat log seat_at log_at. elim (put_cases seats i new j seat seat_at) [
    | inl same ↦ subst (λ (x : Seat). (l : LogParts) → slice_get logs x.replica ≡ Some l →
        IsReadTo l.entries x.session.seen x.read) same.1 here log log_at
    | inr old ↦ are.each j seat log old log_at
  ];
}

-- a session has pulled, or nothing has changed
pub read-pull : (logs : List LogParts) (seats : List Seat) (i : ℕ) (seat new : Seat) (log : LogParts) →
    slice_get logs seat.replica ≡ Some log → new.replica ≡ seat.replica →
    IsReadTo log.entries new.session.seen new.read → AreRead logs seats → AreRead logs (slice_set seats i new)
read-pull logs seats i seat new log at replica is are = read-seat logs seats i new (λ one there.
    let both : Some log ≡ Some one = sym at ∙ (ap (λ (r : ℕ). slice_get logs r) (sym replica) ∙ there) in
    let same : log ≡ one = cc in
    subst (λ (x : LogParts). IsReadTo x.entries new.session.seen new.read) same is) are

-- what a session has read, it has read once it has seen more
read_still : (h seen more : List Tx) (n m : ℕ) → IsLonger seen more → m ≡ n → IsReadTo h seen n → IsReadTo h more m
read_still h seen more n m grown same read = subst (λ (k : ℕ). IsReadTo h more k) (sym same)
    (front-weaker (IsMember seen) (IsMember more) h n
    (λ t is. subst (λ (xs : List Tx). IsMember xs t) (sym grown.is) (member-append_left seen grown.rest t is)) read)

-- a session has acted, or nothing has changed
pub read-act : (logs : List LogParts) (seats : List Seat) (i : ℕ) (seat new : Seat) (log longer : LogParts) →
    slice_get seats i ≡ Some seat → slice_get logs seat.replica ≡ Some log → new.replica ≡ seat.replica →
    new.read ≡ seat.read → IsLonger seat.session.seen new.session.seen → IsLonger log.entries longer.entries →
    AreRead logs seats → AreRead (slice_set logs seat.replica longer) (slice_set seats i new)
read-act logs seats i seat new log longer seat_at log_at replica read sees grown are =
    let longer_at = put_there logs seat.replica longer log log_at in
    let now = read-log logs seat.replica log longer log_at grown seats are in
    read-pull (slice_set logs seat.replica longer) seats i seat new longer longer_at replica
    (read_still longer.entries seat.session.seen new.session.seen seat.read new.read sees read
    (now.each i seat longer seat_at longer_at)) now

-- what a sender knew to be there, it knows once it has heard more
pub heard-covered : (h : List Tx) (known clock new : Cut) (n : ℕ) → new ≡ joined known clock → IsCoveredTo h known n →
    IsCoveredTo h new n
heard-covered h known clock new n heard covered = subst (λ (c : Cut). IsCoveredTo h c n) (sym heard)
    (front-weaker (λ (t : Tx). is_covered known t.dot ≡ true) (λ (t : Tx). is_covered (joined known clock) t.dot ≡ true)
    h n (λ t is. covers_covered (joined known clock) t.dot
    ((covers_joined known clock t.dot).1 (inl (covered_covers known t.dot is)))) covered)

-- a sender has heard
module _ (logs : List LogParts) (peers : List Cut) (places : List ℕ) (are : AreCovered logs peers places) (from to : ℕ)
    (sends : from < 8) (receives : to < 8) (log : LogParts) (log_at : slice_get logs from ≡ Some log)
    (known new : Cut) (known_at : slice_get peers (link_of from to) ≡ Some known) (place : ℕ)
    (covered : IsCoveredTo log.entries new place) where
  abbrev heard : List Cut
  heard = slice_set peers (link_of from to) new

  abbrev moved : List ℕ
  moved = slice_set places (link_of from to) place

  -- the place of its link
  at_link : (f t : ℕ) (one : LogParts) (c : Cut) → t < 8 → link_of f t ≡ link_of from to → slice_get logs f ≡ Some one →
      slice_get heard (link_of f t) ≡ Some c → IsCoveredTo one.entries c (get_or moved (link_of f t) 0)
  at_link f t one c few same one_at c_at =
      let sender : f ≡ from = omega (arith, few, receives, same) in
      let logs_same : Some log ≡ Some one =
      sym log_at ∙ (ap (λ (k : ℕ). slice_get logs k) (sym sender) ∙ one_at) in
      let one_is : log ≡ one = cc in
      let cuts_same : Some new ≡ Some c = sym (put_there peers (link_of from to) new known known_at)
      ∙ (ap (λ (k : ℕ). slice_get heard k) (sym same) ∙ c_at) in
      let c_is : new ≡ c = cc in
      let size = are.sized in
      let inside : link_of from to < length places = omega (arith, sends, receives, size) in
      let place_is : get_or moved (link_of f t) 0 ≡ place =
      get_or-set_at places (link_of from to) (link_of f t) place 0 same inside in
      subst (λ (n : ℕ). IsCoveredTo one.entries c n) (sym place_is)
      (subst (λ (d : Cut). IsCoveredTo one.entries d place) c_is
      (subst (λ (x : LogParts). IsCoveredTo x.entries new place) one_is covered))

  pub covered-heard : AreCovered logs heard moved
  covered-heard = record {
    sized = length-set places (link_of from to) place ∙ are.sized;
    each = λ f t one c few one_at c_at. elim (cases_eq (link_of f t) (link_of from to)) [
      | inl same ↦ at_link f t one c few same one_at c_at
      | inr other ↦ elim (put_cases peers (link_of from to) new (link_of f t) c c_at) [
        | inl here ↦ absurd (other here.0)
        | inr old ↦ subst (λ (n : ℕ). IsCoveredTo one.entries c n)
            (sym (get_or-set_other places (link_of from to) (link_of f t) place 0 other))
            (are.each f t one c few one_at old)
      ]
    ];
  }
