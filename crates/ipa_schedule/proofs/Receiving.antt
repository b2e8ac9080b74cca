-- What arrives over a link is given to the receiver, one frame after the other.
--
--   IsReceiving w p from to frames k now so_far     the first frames were given
--   receives_more, receives_full, receives_done     one more, without room for it, and all
--   carried_shaped       what has the right shape can be carried
--   texts_of             the entries whose frames arrived
use Rattle.std.proofs.Common.{◌≡◌, ℕ, zero, suc, ◌+◌, ◌<◌, ◌≤◌, true, false, List, [], ◌∷◌, ◌++◌, length, map, take, drop, Option, Some, slice_get, refl, sym, ◌∙◌, ap, subst, arith, inl, inr}
use Rattle.std.specs.Option.{option_map}
use Rattle.std.proofs.lemmas.List.{take_all, take-append-drop, length-map}
use Rattle.std.proofs.lemmas.Bool.{cases_lt}
use Rattle.std.proofs.Math.ListN.{get_or-eq_default}
use Rattle.std.proofs.lemmas.Option.{slice_get-map, slice_get_within}
use Rattle.ipa_spec.specs.Actions.{sorts_of, IsAction}
use Rattle.ipa_spec.specs.Fits.{IsFit}
use Rattle.ipa_spec.specs.declared.operations.Action.{Action}
use Rattle.ipa_spec.specs.declared.operations.Action.TheVariants.{Op, Drop}
use Rattle.ipa_spec.specs.declared.specification.Specification.{Specification}
use Rattle.ipa_clock.specs.declared.cut.Cut.{Cut}
use Rattle.ipa_clock.specs.Cut.{count_of}
use Rattle.ipa_history.specs.Histories.{IsMember, IsHistory, number_of}
use Rattle.ipa_history.specs.Clocks.{IsClockOf}
use Rattle.ipa_history.specs.MemberLaws.{member_none, member_first, member_later, member_cases}
use Rattle.ipa_history.specs.PushLaws.{at_place, dots_there}
use Rattle.ipa_history.specs.declared.history.Tx.{Tx}
use Rattle.ipa_gate.specs.Settings.{SettingParts}
use Rattle.ipa_gate.specs.Shapes.{IsShaped}
use Rattle.ipa_frame.specs.declared.frame.Frame.TheVariants.{Carry}
use Rattle.ipa_frame.specs.Frames.{IsFrame, IsCarried, IsAction as IsActionOfFrame}
use Rattle.ipa_weather.specs.Arrivals.{Frame}
use Rattle.ipa_world.specs.Worlds.{WorldParts}
use Rattle.ipa_world.specs.Steps.{IsLink, IsGiven}
use Rattle.ipa_world.specs.Arrivals.{IsBorne, IsArrival}
use Rattle.ipa_world.specs.Room.{IsGiveFull, HasRoom}
use Rattle.ipa_schedule.specs.Going.{RunParts, IsOffered, IsOfferedAll}
use Rattle.ipa_schedule.specs.Going.IsOffered.{passes, blocks}
use Rattle.ipa_schedule.specs.Turns.{carried_in, carried_all}
use Rattle.ipa_schedule.specs.Running.{IsLater, IsFrameOf, AreBorne, IsUnderWay, run_of}
use Rattle.ipa_schedule.specs.declared.progress.Progress.{Progress}
use Rattle.ipa_schedule.proofs.Later.{later_along}
use Rattle.ipa_schedule.proofs.Giving.{take_next, offered_push, offered_along, offered_none}

-- the first frames were given, whichever entries they carry
pub record IsReceiving (w : WorldParts) (p : Progress) (from to : ℕ) (frames : List Frame) (k : ℕ) (now : WorldParts)
    (so_far : Progress) : Type 0 where
  pub going : so_far.full ≡ false
  pub way : IsUnderWay now so_far
  pub later : IsLater w now
  pub fates : so_far.fates ≡ p.fates
  pub link : IsLink now from to
  pub log : List Tx
  pub first_at : slice_get w.logs from ≡ Some log
  pub log_at : slice_get now.logs from ≡ Some log
  pub sent : (frame : Frame) → IsMember frames frame → IsFrameOf log frame
  pub given : (arrived : List Tx) → carried_all arrived ≡ frames → AreBorne log arrived →
      IsOfferedAll (run_of w p) to (take k arrived) (run_of now so_far)

pub receives_none : (w : WorldParts) (p : Progress) (from to : ℕ) (frames : List Frame) → p.full ≡ false →
    IsUnderWay w p → IsLater w w → IsLink w from to → ((log : List Tx) (frame : Frame) → slice_get w.logs from ≡ Some log →
    IsMember frames frame → IsFrameOf log frame) → IsReceiving w p from to frames 0 w p
receives_none w p from to frames going way later link sent =
    let one = at_place w.logs from link.sends in
    record {
      going = going;
      way = way;
      later = later;
      fates = refl;
      link = link;
      log = one.0;
      first_at = one.1;
      log_at = one.1;
      sent = λ frame m. sent one.0 frame one.1 m;
      given = λ arrived are entries. refl;
    }

module _ (w : WorldParts) (p : Progress) (from to : ℕ) (frames : List Frame) (k : ℕ) (now : WorldParts) (so_far : Progress)
    (is : IsReceiving w p from to frames k now so_far) where
  module _ (frame : Frame) (at : slice_get frames k ≡ Some frame) where
    pub receives_next : (log : List Tx) → slice_get now.logs from ≡ Some log → IsFrameOf log frame
    receives_next log log_at =
        let both : Some is.log ≡ Some log = sym is.log_at ∙ log_at in
        let one : is.log ≡ log = cc in
        subst (λ (xs : List Tx). IsFrameOf xs frame) one (is.sent frame (record { place = k; at = at }))

    module _ (arrived : List Tx) (are : carried_all arrived ≡ frames)
        (entries : AreBorne is.log arrived) where
      inside : k < length arrived
      inside =
          let few = slice_get_within frames k frame at in
          let same = length-map arrived carried_in in
          let size = ap (λ (fs : List Frame). length fs) are in
          omega (arith, few, same, size)

      -- the entry that the frame carries
      pub its_tx : (t : Tx) × (slice_get arrived k ≡ Some t)
      its_tx = at_place arrived k inside

      pub its_member : IsMember is.log its_tx.0
      its_member = entries.entries its_tx.0 (record { place = k; at = its_tx.1 })

      pub its_framing : IsFrame (Carry its_tx.0)
      its_framing = entries.framed its_tx.0 (record { place = k; at = its_tx.1 })

      pub its_frame : frame ≡ carried_in its_tx.0
      its_frame =
          let both : Some frame ≡ Some (carried_in its_tx.0) = sym at
          ∙ (ap (λ (fs : List Frame). slice_get fs k) (sym are) ∙ (slice_get-map carried_in arrived k
          ∙ ap (λ (o : Option Tx). option_map carried_in o) its_tx.1)) in
          cc

      module _ (next : WorldParts) (q : Progress) (offer : IsOffered (run_of now so_far) to its_tx.0 (run_of next q)) where
        pub offered_so : IsOfferedAll (run_of w p) to (take (k + 1) arrived) (run_of next q)
        offered_so = subst (λ (ts : List Tx). IsOfferedAll (run_of w p) to ts (run_of next q))
            (sym (take_next arrived k its_tx.0 its_tx.1))
            (offered_push (run_of w p) to (take k arrived) its_tx.0 (run_of now so_far) (run_of next q)
            (is.given arrived are entries) offer)

        pub receives_full : q.full ≡ true → IsOfferedAll (run_of w p) to arrived (run_of next q)
        receives_full full = subst (λ (ts : List Tx). IsOfferedAll (run_of w p) to ts (run_of next q))
            (take-append-drop (k + 1) arrived)
            (offered_along (run_of w p) to (take (k + 1) arrived) (drop (k + 1) arrived) (run_of next q) (run_of next q)
            offered_so (offered_none (run_of next q) to (drop (k + 1) arrived) full))

    pub receives_more : (next : WorldParts) (q : Progress) → ((log : List Tx) (t : Tx) → slice_get now.logs from ≡ Some log →
        IsMember log t → IsFrame (Carry t) → frame ≡ carried_in t → IsOffered (run_of now so_far) to t (run_of next q)) → q.full ≡ false →
        IsUnderWay next q → IsLater now next → q.fates ≡ so_far.fates →
        ((log : List Tx) → slice_get now.logs from ≡ Some log → slice_get next.logs from ≡ Some log) →
        IsReceiving w p from to frames (k + 1) next q
    receives_more next q offers going way later fates stays = record {
      going = going;
      way = way;
      later = later_along w now next is.later later;
      fates = fates ∙ is.fates;
      link = record {
        sends = let sends = is.link.sends in let same = later.replicas in omega (arith, sends, same);
        receives = let receives = is.link.receives in let same = later.replicas in omega (arith, receives, same);
        apart = is.link.apart;
      };
      log = is.log;
      first_at = is.first_at;
      log_at = stays is.log is.log_at;
      sent = is.sent;
      given = λ arrived are entries. offered_so arrived are entries next q (offers is.log (its_tx arrived are entries).0
          is.log_at (its_member arrived are entries) (its_framing arrived are entries) (its_frame arrived are entries));
    }

  -- the sender's log, by whichever name
  pub same_log : (log : List Tx) → slice_get w.logs from ≡ Some log → is.log ≡ log
  same_log log log_at = let both : Some is.log ≡ Some log = sym is.first_at ∙ log_at in cc

  pub receives_done : length frames ≤ k → (log arrived : List Tx) → slice_get w.logs from ≡ Some log →
      carried_all arrived ≡ frames → AreBorne log arrived → IsOfferedAll (run_of w p) to arrived (run_of now so_far)
  receives_done all log arrived log_at are entries =
      let same = length-map arrived carried_in in
      let size = ap (λ (fs : List Frame). length fs) are in
      subst (λ (ts : List Tx). IsOfferedAll (run_of w p) to ts (run_of now so_far))
      (take_all k arrived (omega (arith, all, same, size)))
      (is.given arrived are (subst (λ (xs : List Tx). AreBorne xs arrived) (sym (same_log log log_at)) entries))

-- the number of an action fits a frame
action_fits : (s : Specification) → IsFit s → (action : Action) → IsAction s action → IsActionOfFrame action
action_fits s fit (Op n) declared = let few = fit.operation_count in omega (arith, few, declared)
action_fits s fit (Drop n) declared = let few = fit.bound_count in omega (arith, few, declared)

-- what has the right shape can be carried
pub carried_shaped : (s : SettingParts) → s.sessions ≤ 16 → IsFit s.spec → (t : Tx) → IsShaped s t → IsCarried t
carried_shaped s few fit t shaped =
    let count = shaped.count in
    let most = fit.argument_count t.action in
    record {
      origin = let inside = shaped.origin in omega (arith, inside, few);
      number = let above = shaped.number in omega (arith, above);
      action = action_fits s.spec fit t.action shaped.fitting.declared;
      count = omega (arith, count, most);
      unused = λ place past. shaped.fitting.arguments.unused place (omega (arith, past, count));
    }

-- the entries whose frames these are
pub record AreEntriesOf (log : List Tx) (frames : List Frame) : Type 0 where
  pub txs : List Tx
  pub are : carried_all txs ≡ frames
  pub borne : AreBorne log txs

pub entries_of_frames : (log : List Tx) (frames : List Frame) → ((frame : Frame) → IsMember frames frame →
    IsFrameOf log frame) → AreEntriesOf log frames
entries_of_frames log [] sent = record {
  txs = [];
  are = refl;
  borne = record { entries = λ t m. absurd (member_none t m); framed = λ t m. absurd (member_none t m) };
}
entries_of_frames log (frame ∷ frames) sent =
    let one = sent frame (member_first frame frames) in
    let rest = entries_of_frames log frames (λ f m. sent f (member_later frame frames f m)) in
    record {
      txs = one.tx ∷ rest.txs;
      are = ap (λ (f : Frame). f ∷ carried_all rest.txs) (sym one.is) ∙ ap (λ (fs : List Frame). frame ∷ fs) rest.are;
      borne = record {
        entries = λ t m. elim (member_cases one.tx rest.txs t m) [
          | inl same ↦ subst (λ (u : Tx). IsMember log u) same one.member
          | inr later ↦ rest.borne.entries t later
        ];
        framed = λ t m. elim (member_cases one.tx rest.txs t m) [
          | inl same ↦ subst (λ (u : Tx). IsFrame (Carry u)) same one.framed
          | inr later ↦ rest.borne.framed t later
        ];
      };
    }

-- a frame of an entry, as one of the world
pub borne_of : (w : WorldParts) (from : ℕ) (bytes : Frame) (log : List Tx) → slice_get w.logs from ≡ Some log →
    (f : IsFrameOf log bytes) → IsBorne w from f.tx bytes
borne_of w from bytes log at f = record {
  log = log;
  log_at = at;
  member = f.member;
  frame = record { is_frame = f.framed; bytes_are = f.is };
}

-- the bytes are an arrival
pub arrival_of : (w : WorldParts) (from to : ℕ) (bytes : Frame) → IsLink w from to →
    ((log : List Tx) → slice_get w.logs from ≡ Some log → IsFrameOf log bytes) → IsArrival w from to bytes
arrival_of w from to bytes link sent =
    let one = at_place w.logs from link.sends in
    let f = sent one.0 one.1 in
    record { link = link; tx = f.tx; borne = borne_of w from bytes one.0 one.1 f }

-- what was given to a replica
pub record IsGot (w : WorldParts) (from to : ℕ) (next : WorldParts) : Type 0 where
  pub log : List Tx
  pub log_at : slice_get w.logs from ≡ Some log
  pub tx : Tx
  pub given : IsGiven w to tx next

pub got : (w : WorldParts) (from to : ℕ) (bytes : Frame) (next : WorldParts) → IsLink w from to →
    ((log : List Tx) → slice_get w.logs from ≡ Some log → IsFrameOf log bytes) → ((t : Tx) → IsBorne w from t bytes →
    IsGiven w to t next) → IsGot w from to next
got w from to bytes next link sent given =
    let one = at_place w.logs from link.sends in
    let f = sent one.0 one.1 in
    record { log = one.0; log_at = one.1; tx = f.tx; given = given f.tx (borne_of w from bytes one.0 one.1 f) }

-- where it has
pub passed : (w : WorldParts) (p : Progress) (to : ℕ) (t : Tx) (next : WorldParts) → p.full ≡ false → IsGiven w to t next →
    HasRoom next → IsOffered (run_of w p) to t (run_of next p)
passed w p to t next going given room =
    passes (record { going = going; next = next; given = given; room = room; after_is = refl })

-- where the log has no room
pub blocked : (w : WorldParts) (p : Progress) (to : ℕ) (t : Tx) (next : WorldParts) → p.full ≡ false → IsGiveFull w to t →
    next ≡ w → IsOffered (run_of w p) to t
    (run_of next (record { alloc = p.alloc; held = p.held; fates = p.fates; full = true }))
blocked w p to t next going full same = blocks (record {
  going = going;
  full = full;
  after_is = ap (λ (v : WorldParts). run_of v (record { alloc = p.alloc; held = p.held; fates = p.fates; full = true })) same;
})

-- the cut of a log
pub clock_whole : (h : List Tx) → IsHistory h → (clock : Cut) → length clock.counts ≡ 16 →
    ((o : ℕ) → o < 16 → count_of clock o ≡ number_of o h) → IsClockOf h clock
clock_whole h is clock sized counts = record { sized = sized; counts = λ o. at o }
  where
    none_past : (o : ℕ) → 16 ≤ o → number_of o h ≡ 0
    none_past o past = elim (cases_lt 0 (number_of o h)) [
      | inr none ↦ omega (arith, none)
      | inl some ↦
          let u = dots_there h is o 1 (omega arith) (omega (arith, some)) in
          let few = is.origins u.tx u.member in
          let same = u.origin_is in
          absurd (omega (arith, few, same, past))
    ]

    at : (o : ℕ) → count_of clock o ≡ number_of o h
    at o = elim (cases_lt o 16) [
      | inl low ↦ counts o low
      | inr past ↦ get_or-eq_default clock.counts 0 (omega (arith, past, sized)) ∙ sym (none_past o past)
    ]
