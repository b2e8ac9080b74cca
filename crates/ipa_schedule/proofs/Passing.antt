-- What becomes of a batch that is sent over a link.
--
--   set_twice            a place that is set twice has what was set last
--   held_same, held_set  what is held where nothing was passed, and where a batch was
--   way_after            what is held are frames of entries still
--   sent_of              what was sent
use Rattle.std.proofs.Common.{◌≡◌, ℕ, zero, suc, ◌+◌, ◌*◌, ◌<◌, ◌≤◌, ◌⊎◌, inl, inr, Bool, true, not, Result, Ok, Err, List, [], ◌∷◌, ◌++◌, length, filter, take, map, Some, slice_get, refl, sym, ◌∙◌, ap, subst, arith}
use Rattle.std.specs.Prelude.{slice_set, OnOk, IfOk, is_ok, if◌then◌else◌}
use Rattle.std.specs.List.{range_with_len}
use Rattle.std.proofs.lemmas.List.FromFn.{length-map-range_with_len, get_or-map-range_with_len}
use Rattle.std.proofs.lemmas.List.{length-map}
use Rattle.ipa_clock.specs.declared.cut.Cut.{Cut}
use Rattle.ipa_clock.specs.Cut.{is_covered, count_of}
use Rattle.ipa_history.specs.Histories.{IsMember, IsHistory, number_of}
use Rattle.ipa_history.specs.Clocks.{IsClockOf}
use Rattle.ipa_history.specs.PushLaws.{at_place}
use Rattle.ipa_history.specs.HistoryLaws.{member-take}
use Rattle.ipa_history.specs.MemberLaws.{member_none, member_cases, member_first, member_later, member-append_cases, filter_member}
use Rattle.ipa_history.specs.declared.history.Tx.{Tx}
use Rattle.ipa_history.specs.declared.outcomes.Fate.{Fate}
use Rattle.ipa_history.specs.declared.outcomes.Fate.TheVariants.{Pass, Lose, Twice, Hold}
use Rattle.ipa_gate.specs.Agreements.{beyond_of}
use Rattle.ipa_frame.specs.Frames.{IsFrame}
use Rattle.ipa_frame.specs.declared.frame.Frame.TheVariants.{Carry}
use Rattle.ipa_weather.specs.Arrivals.{Frame, passing, holding, passing_of, held_of, arrivals_of}
use Rattle.ipa_world.specs.Worlds.{WorldParts, link_of}
use Rattle.ipa_world.specs.Lawful.{IsLawful}
use Rattle.ipa_world.specs.declared.steps.WorldFault.{WorldFault}
use Rattle.ipa_world.specs.declared.steps.WorldFault.TheVariants.{Full, NoMemory}
use Rattle.ipa_schedule.specs.Going.{RunParts, IsOfferedAll}
use Rattle.ipa_schedule.specs.Going.IsMoved.{stopped}
use Rattle.ipa_schedule.specs.Turns.{carried_in, carried_all, IsLinkAt, IsHearing, IsLinkTurn}
use Rattle.ipa_schedule.specs.Running.{IsFrameOf, IsUnderWay, UnlessWanting, run_of}
use Rattle.ipa_schedule.specs.Sending.{IsPassedOver, IsHeldFrom, IsHeldAfter, IsSent}
use Rattle.ipa_schedule.specs.Sending.IsHeldFrom.{before, now}
use Rattle.ipa_schedule.specs.declared.progress.Progress.{Progress}
use Rattle.ipa_schedule.proofs.Places.{set_cases}
use Rattle.ipa_schedule.proofs.Receiving.{clock_whole}

-- a place that is set twice has what was set last
pub set_twice : {X : Type 0} (xs : List X) (i : ℕ) (y z : X) → slice_set (slice_set xs i y) i z ≡ slice_set xs i z
set_twice [] i y z = refl
set_twice (x ∷ xs) zero y z = refl
set_twice (x ∷ xs) (suc i) y z = ap (λ (ys : List _). x ∷ ys) (set_twice xs i y z)

-- what arrives of a frame, and what is held of it, is the frame
passing_one : (fate : Fate) (frame f : Frame) → IsMember (passing fate frame) f → frame ≡ f
passing_one Pass frame f m = elim (member_cases frame [] f m) [ inl same ↦ same | inr none ↦ absurd (member_none f none) ]
passing_one Lose frame f m = absurd (member_none f m)
passing_one Twice frame f m = elim (member_cases frame (frame ∷ []) f m) [
  | inl same ↦ same
  | inr rest ↦ elim (member_cases frame [] f rest) [ inl same ↦ same | inr none ↦ absurd (member_none f none) ]
]
passing_one Hold frame f m = absurd (member_none f m)

holding_one : (fate : Fate) (frame f : Frame) → IsMember (holding fate frame) f → frame ≡ f
holding_one Pass frame f m = absurd (member_none f m)
holding_one Lose frame f m = absurd (member_none f m)
holding_one Twice frame f m = absurd (member_none f m)
holding_one Hold frame f m = elim (member_cases frame [] f m) [ inl same ↦ same | inr none ↦ absurd (member_none f none) ]

-- so it is of a batch
passing_member : (fates : List Fate) (frames : List Frame) (f : Frame) → IsMember (passing_of fates frames) f →
    IsMember frames f
passing_member [] frames f m = absurd (member_none f m)
passing_member (fate ∷ fates) [] f m = absurd (member_none f m)
passing_member (fate ∷ fates) (frame ∷ frames) f m =
    elim (member-append_cases (passing fate frame) (passing_of fates frames) f m) [
      | inl here ↦ subst (λ (g : Frame). IsMember (frame ∷ frames) g) (passing_one fate frame f here)
          (member_first frame frames)
      | inr rest ↦ member_later frame frames f (passing_member fates frames f rest)
    ]

held_member : (fates : List Fate) (frames : List Frame) (f : Frame) → IsMember (held_of fates frames) f →
    IsMember frames f
held_member [] frames f m = absurd (member_none f m)
held_member (fate ∷ fates) [] f m = absurd (member_none f m)
held_member (fate ∷ fates) (frame ∷ frames) f m =
    elim (member-append_cases (holding fate frame) (held_of fates frames) f m) [
      | inl here ↦ subst (λ (g : Frame). IsMember (frame ∷ frames) g) (holding_one fate frame f here)
          (member_first frame frames)
      | inr rest ↦ member_later frame frames f (held_member fates frames f rest)
    ]

-- what is held where nothing was passed
pub held_same : (p q : Progress) (link : ℕ) (frames : List Frame) → q.held.items ≡ p.held.items →
    length q.fates ≡ length p.fates → q.full ≡ p.full → IsHeldAfter p q link frames
held_same p q link frames same given full = record {
  links = ap (λ (hs : List (List Frame)). length hs) same;
  given = given;
  full = full;
  others = λ i held frame at m.
      before held (ap (λ (hs : List (List Frame)). slice_get hs i) (sym same) ∙ at) m;
}

-- and where a batch was
pub held_set : (p q : Progress) (link : ℕ) (frames : List Frame) (fates : List Fate) →
    q.held.items ≡ slice_set p.held.items link (held_of fates frames) → length q.held.items ≡ length p.held.items →
    length q.fates ≡ length p.fates → q.full ≡ p.full → IsHeldAfter p q link frames
held_set p q link frames fates set links given full = record {
  links = links;
  given = given;
  full = full;
  others = λ i held frame at m. elim (set_cases p.held.items link (held_of fates frames) i held
      (ap (λ (hs : List (List Frame)). slice_get hs i) (sym set) ∙ at)) [
        | inl here ↦ now here.0 (held_member fates frames frame (subst (λ (fs : List Frame). IsMember fs frame) (sym here.1) m))
        | inr there ↦ before held there m
      ];
}

-- the entries that a receiver may lack are entries
pub beyond_member : (log : List Tx) (known : Cut) (t : Tx) → IsMember (beyond_of log known) t → IsMember log t
beyond_member log known t m =
    let lacked : Tx → Bool = λ u. not (is_covered known u.dot) in
    (filter_member lacked log t (member-take 64 (filter lacked log) t m)).member

-- so their frames are frames of entries
pub batch_frames : (log : List Tx) (known : Cut) → ((t : Tx) → IsMember (beyond_of log known) t → IsFrame (Carry t)) →
    (frame : Frame) → IsMember (carried_all (beyond_of log known)) frame → IsFrameOf log frame
batch_frames log known framed frame m = of_all (beyond_of log known) (beyond_member log known) framed m
  where
    of_all : (ts : List Tx) → ((t : Tx) → IsMember ts t → IsMember log t) →
        ((t : Tx) → IsMember ts t → IsFrame (Carry t)) → IsMember (carried_all ts) frame → IsFrameOf log frame
    of_all [] entries framed m = absurd (member_none frame m)
    of_all (t ∷ ts) entries framed m = elim (member_cases (carried_in t) (carried_all ts) frame m) [
      | inl same ↦ record {
        tx = t;
        member = entries t (member_first t ts);
        is = sym same;
        framed = framed t (member_first t ts);
      }
      | inr rest ↦ of_all ts (λ u n. entries u (member_later t ts u n)) (λ u n. framed u (member_later t ts u n)) rest
    ]

-- what is held are frames of entries still
pub way_after : (w : WorldParts) (p q : Progress) (from to : ℕ) (frames : List Frame) → to < 8 → IsUnderWay w p →
    ((log : List Tx) (frame : Frame) → slice_get w.logs from ≡ Some log → IsMember frames frame → IsFrameOf log frame) →
    IsHeldAfter p q (link_of from to) frames → IsUnderWay w q
way_after w p q from to frames few way sent after = record {
  links = after.links ∙ way.links;
  given = after.given ∙ way.given;
  held = λ f g log held frame low log_at held_at m.
      held_frame f g log frame low log_at (after.others (link_of f g) held frame held_at m);
}
  where
    held_frame : (f g : ℕ) (log : List Tx) (frame : Frame) → g < 8 → slice_get w.logs f ≡ Some log →
        IsHeldFrom p (link_of from to) frames (link_of f g) frame → IsFrameOf log frame
    held_frame f g log frame low log_at (before held at m) = way.held f g log held frame low log_at at m
    held_frame f g log frame low log_at (now same m) =
        let one : f ≡ from = omega (arith, same, low, few) in
        sent log frame (ap (slice_get w.logs) (sym one) ∙ log_at) m

-- the run that has come so far
run_is : (w : WorldParts) (p q : Progress) (held : List (List Frame)) (fates : List (List Fate)) → q.held.items ≡ held →
    q.fates ≡ fates → q.full ≡ p.full →
    run_of w q ≡ record { world = w; held = held; fates = fates; full = p.full }
run_is w p q held fates one two three =
    ap (λ (h : List (List Frame)). run w h q.fates q.full) one
    ∙ ap (λ (f : List (List Fate)). run w held f q.full) two ∙ ap (λ (b : Bool). run w held fates b) three
  where
    run : WorldParts → List (List Frame) → List (List Fate) → Bool → RunParts
    run v h f b = record { world = v; held = h; fates = f; full = b }

-- what was sent
pub sent_of : (w : WorldParts) (p q : Progress) (from to : ℕ) (log : List Tx) (known : Cut) (frames arrived : List Frame) →
    to < 8 → IsUnderWay w p → slice_get w.logs from ≡ Some log → slice_get w.peers (link_of from to) ≡ Some known →
    frames ≡ carried_all (beyond_of log known) → ((t : Tx) → IsMember (beyond_of log known) t → IsFrame (Carry t)) →
    q.full ≡ p.full →
    IsPassedOver p q (link_of from to) frames arrived → IsSent w p q from to arrived
sent_of w p q from to log known frames arrived few way log_at known_at are framed full passed = record {
  log = log;
  known = known;
  held = passed.held;
  given = passed.given;
  link = record { log_at = log_at; known_at = known_at; held_at = passed.held_at; given_at = passed.given_at };
  fates = passed.fates;
  each = passed.each ∙ (ap (λ (fs : List Frame). length fs) are ∙ length-map (beyond_of log known) carried_in);
  arrived_are = passed.arrived_are ∙ ap (λ (fs : List Frame). arrivals_of passed.fates fs passed.held) are;
  after = run_is w p q _ _ (passed.held_are
      ∙ ap (λ (fs : List Frame). slice_set p.held.items (link_of from to) (held_of passed.fates fs)) are)
      passed.fates_are full;
  entries = λ frame m. elim (member-append_cases (passing_of passed.fates frames) passed.held frame
      (subst (λ (fs : List Frame). IsMember fs frame) passed.arrived_are m)) [
        | inl here ↦ batch_frames log known framed frame
            (subst (λ (fs : List Frame). IsMember fs frame) are (passing_member passed.fates frames frame here))
        | inr old ↦ way.held from to log passed.held frame few log_at passed.held_at old
      ];
}

-- what more was noted, where there was memory
pub on_noted : {T E : Type 0} (result : Result T E) (items old more : List Fate) (Q : Type 0) →
    items ≡ (if is_ok result then old ++ more else old) → (items ≡ old ++ more → Q) → OnOk result Q
on_noted (Ok x) items old more Q is noted = noted is
on_noted (Err e) items old more Q is noted = tt

-- what was sent, given and heard is the turn of a link
pub turn_of_link : (w : WorldParts) (p q : Progress) (from to : ℕ) (arrived : List Frame) (s : IsSent w p q from to arrived)
    (txs : List Tx) → carried_all txs ≡ arrived → ((t : Tx) → IsMember txs t → IsMember s.log t) → (offered after : RunParts)
    → IsOfferedAll (run_of w q) to txs offered → IsHearing offered from to after → IsLinkTurn (run_of w p) from to after
turn_of_link w p q from to arrived s txs are entries offered after offers hears = record {
  log = s.log;
  known = s.known;
  held = s.held;
  given = s.given;
  link = s.link;
  fates = s.fates;
  each = s.each;
  arrived = txs;
  entries = entries;
  arrived_are = are ∙ s.arrived_are;
  offered = offered;
  offers = subst (λ (r : RunParts). IsOfferedAll r to txs offered) s.after offers;
  hears = hears;
}

-- each history has a cut
abbrev cut_of : List Tx → Cut
cut_of h = record { counts = map (λ (o : ℕ). number_of o h) (range_with_len 0 16) }

counted : (h : List Tx) (o : ℕ) → o < 16 → count_of (cut_of h) o ≡ number_of o h
counted h o low = get_or-map-range_with_len (λ (k : ℕ). number_of k h) 0 16 o o 0 low (omega arith)

some_clock : (h : List Tx) → IsHistory h → IsClockOf h (cut_of h)
some_clock h is = clock_whole h is (cut_of h) (length-map-range_with_len (λ (o : ℕ). number_of o h) 0 16) (counted h)

-- without room nothing is heard
pub hearing_none : (r : RunParts) (from to : ℕ) → IsLawful r.world → to < length r.world.logs → r.full ≡ true →
    IsHearing r from to r
hearing_none r from to lawful there full =
    let one = at_place r.world.logs to there in
    let clock = some_clock one.0 (lawful.logs.logs to one.0 one.1).legal.history in
    record {
      log = one.0;
      log_at = one.1;
      clock = cut_of one.0;
      clock_is = clock;
      heard = stopped (record { full = full; after_is = refl });
    }

-- what follows where there was memory
pub ok_then : {T E : Type 0} (r : Result T E) (P Q : T → Type 0) → IfOk r P → ((x : T) → P x → Q x) → IfOk r Q
ok_then (Ok x) P Q holds next = next x holds
ok_then (Err e) P Q holds next = tt

-- R holds anyway
pub unless_always : {T : Type 0} (result : Result T WorldFault) (R : Type 0) → R → UnlessWanting result R
unless_always (Ok x) R holds = holds
unless_always (Err Full) R holds = holds
unless_always (Err NoMemory) R holds = tt
