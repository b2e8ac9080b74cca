-- Each part of a run keeps the world lawful, lets it only grow, and once a log was without room changes nothing.
--
--   IsPart r after       all of this
--   part_moved .. part_run     the parts of a run
use Rattle.std.proofs.Common.{◌≡◌, ℕ, ◌<◌, ◌≤◌, Bool, true, false, List, [], ◌∷◌, ◌++◌, length, Some, slice_get, refl, sym, ◌∙◌, ap, subst, arith}
use Rattle.ipa_clock.specs.declared.cut.Cut.{Cut}
use Rattle.ipa_clock.specs.Cut.{count_of}
use Rattle.ipa_history.specs.Histories.{IsMember, number_of}
use Rattle.ipa_history.specs.Clocks.{IsClockOf}
use Rattle.ipa_history.specs.MemberLaws.{member_first, member_later}
use Rattle.ipa_history.specs.declared.history.Tx.{Tx}
use Rattle.ipa_gate.specs.Agreements.{beyond_of}
use Rattle.ipa_weather.specs.Arrivals.{held_of}
use Rattle.ipa_world.specs.Worlds.{SeatParts, WorldParts, link_of}
use Rattle.ipa_world.specs.Steps.{IsStepOf, IsLink, IsHearable}
use Rattle.ipa_world.specs.Lawful.{IsLawful, IsEntry}
use Rattle.ipa_world.specs.LawfulLaws.{step-lawful, given-lawful}
use Rattle.ipa_world.specs.declared.steps.Step.{Step}
use Rattle.ipa_world.specs.declared.steps.Step.TheVariants.{Pull, Act, Heard}
use Rattle.ipa_schedule.specs.Going.{RunParts, IsMoved, IsOffered, IsOfferedAll}
use Rattle.ipa_schedule.specs.Going.IsMoved.{goes, fills, stopped}
use Rattle.ipa_schedule.specs.Going.IsOffered.{passes, blocks, stopped as halted}
use Rattle.ipa_schedule.specs.Turns.{IsDropping, IsSessionTurn, IsLinkTurn, IsTurn, with_fates, carried_all}
use Rattle.ipa_schedule.specs.Turns.IsDropping.{done, drops, stopped as ceased}
use Rattle.ipa_schedule.specs.Schedules.{IsRunTo, round_of, turn_at, place_at}
use Rattle.ipa_schedule.specs.Schedules.IsRunTo.{begins, turns}
use Rattle.ipa_schedule.specs.declared.turns.Turn.{Turn}
use Rattle.ipa_schedule.specs.declared.turns.Turn.TheVariants.{Session, Link}
use Rattle.ipa_schedule.specs.Running.{HasEntry, IsLater, IsTurnOf}
use Rattle.ipa_schedule.proofs.Later.{later_itself, later_same, later_along, later_step, later_given}
use Rattle.ipa_schedule.proofs.Listed.{round_turns}

-- the world stays lawful and only grows, and once a log was without room, it stays so
pub record IsPart (r after : RunParts) : Type 0 where
  pub later : IsLater r.world after.world
  pub lawful : IsLawful r.world → IsLawful after.world
  pub full : r.full ≡ true → after.full ≡ true

pub part_itself : (r : RunParts) → IsPart r r
part_itself r = record { later = later_itself r.world; lawful = λ l. l; full = λ f. f }

pub part_same : (r after : RunParts) → after ≡ r → IsPart r after
part_same r after same = subst (λ (s : RunParts). IsPart r s) (sym same) (part_itself r)

pub part_along : (r s after : RunParts) → IsPart r s → IsPart s after → IsPart r after
part_along r s after one two = record {
  later = later_along r.world s.world after.world one.later two.later;
  lawful = λ l. two.lawful (one.lawful l);
  full = λ f. two.full (one.full f);
}

-- an entry of a log, as one of the world
pub entry_of : (w : WorldParts) (r : ℕ) (t : Tx) → HasEntry w r t → IsEntry w t
entry_of w r t has = record { replica = r; log = has.log; log_at = has.log_at; member = has.member }

-- two tests that cannot both be
pub both_full : (full : Bool) → full ≡ true → full ≡ false → ⊥
both_full full one other = absurd (let e : true ≡ false = sym one ∙ other in cc)

-- a run that goes on with another world
part_gone : (r after : RunParts) (next : WorldParts) → IsLater r.world next → (IsLawful r.world → IsLawful next) →
    after ≡ record { world = next; held = r.held; fates = r.fates; full = r.full } → IsPart r after
part_gone r after next later lawful same = subst (λ (s : RunParts). IsPart r s) (sym same)
    (record { later = later; lawful = lawful; full = λ f. f })

part_filled : (r after : RunParts) →
    after ≡ record { world = r.world; held = r.held; fates = r.fates; full = true } → IsPart r after
part_filled r after same = subst (λ (s : RunParts). IsPart r s) (sym same)
    (record { later = later_itself r.world; lawful = λ l. l; full = λ f. refl })

pub part_moved : (r : RunParts) (step : Step) (after : RunParts) → IsStepOf r.world step → IsMoved r step after →
    IsPart r after
part_moved r step after of (goes g) = part_gone r after g.next (later_step r.world step g.next g.step_is)
    (λ l. step-lawful r.world step g.next l of g.step_is g.room) g.after_is
part_moved r step after of (fills f) = part_filled r after f.after_is
part_moved r step after of (stopped s) = part_same r after s.after_is

pub part_offered : (r : RunParts) (to : ℕ) (t : Tx) (after : RunParts) → IsEntry r.world t → IsOffered r to t after →
    IsPart r after
part_offered r to t after entry (passes p) = part_gone r after p.next (later_given r.world to t p.next p.given)
    (λ l. given-lawful r.world to t p.next l entry p.given p.room) p.after_is
part_offered r to t after entry (blocks b) = part_filled r after b.after_is
part_offered r to t after entry (halted s) = part_same r after s.after_is

pub part_offered_all : (r : RunParts) (from to : ℕ) (ts : List Tx) (after : RunParts) →
    ((t : Tx) → IsMember ts t → HasEntry r.world from t) → IsOfferedAll r to ts after → IsPart r after
part_offered_all r from to [] after entries same = part_same r after same
part_offered_all r from to (t ∷ ts) after entries (next, offered, rest) =
    let one = part_offered r to t next (entry_of r.world from t (entries t (member_first t ts))) offered in
    part_along r next after one (part_offered_all next from to ts after
    (λ u m. one.later.entries from u (entries u (member_later t ts u m))) rest)

-- as many sessions
pub sessions_stay : (w after : WorldParts) → IsLater w after → length after.seats ≡ length w.seats
sessions_stay w after later = later.sessions

pub part_dropping : (r : RunParts) (i : ℕ) (after : RunParts) → i < length r.world.seats → IsDropping r i after →
    IsPart r after
part_dropping r i after of (done _ _ _ d) = part_same r after d.after_is
part_dropping r i after of (drops _ _ next _ going due moved rest) =
    let one = part_moved r (Act i) next of moved in
    let same = sessions_stay r.world next.world one.later in
    part_along r next after one (part_dropping next i after (omega (arith, of, same)) rest)
part_dropping r i after of (ceased _ _ _ s) = part_same r after s.after_is

pub part_session : (r : RunParts) (i : ℕ) (after : RunParts) → i < length r.world.seats → IsSessionTurn r i after →
    IsPart r after
part_session r i after of turn =
    let one = part_moved r (Pull i) turn.pulled of turn.pull in
    let few = sessions_stay r.world turn.pulled.world one.later in
    let two = part_dropping turn.pulled i turn.calmed (omega (arith, of, few)) turn.drops in
    let same = sessions_stay turn.pulled.world turn.calmed.world two.later in
    let three = part_moved turn.calmed (Act i) after (omega (arith, of, few, same)) turn.act in
    part_along r turn.pulled after one (part_along turn.pulled turn.calmed after two three)

-- the two replicas are there still
pub link_stays : (w after : WorldParts) (from to : ℕ) → IsLater w after → IsLink w from to → IsLink after from to
link_stays w after from to later link =
    let same = later.replicas in
    let sends = link.sends in
    let receives = link.receives in
    record { sends = omega (arith, sends, same); receives = omega (arith, receives, same); apart = link.apart }

-- and so is each turn of the world
pub turn_stays : (w after : WorldParts) (turn : Turn) → IsLater w after → IsTurnOf w turn → IsTurnOf after turn
turn_stays w after (Session i) later of = let same = sessions_stay w after later in omega (arith, of, same)
turn_stays w after (Link from to) later of = link_stays w after from to later of

pub part_link : (r : RunParts) (from to : ℕ) (after : RunParts) → IsLink r.world from to → IsLinkTurn r from to after →
    IsPart r after
part_link r from to after link turn =
    let sent : RunParts = with_fates r (link_of from to)
    (held_of turn.fates (carried_all (beyond_of turn.log turn.known))) (turn.given ++ turn.fates) in
    let one : IsPart r turn.offered = part_sent sent refl refl (part_offered_all sent from to turn.arrived turn.offered
    (λ t m. record { log = turn.log; log_at = turn.link.log_at; member = turn.entries t m }) turn.offers) in
    let hears = turn.hears in
    part_along r turn.offered after one (part_moved turn.offered (Heard from to hears.clock) after (record {
      link = link_stays r.world turn.offered.world from to one.later link;
      log = hears.log;
      log_at = hears.log_at;
      has = λ o. let same = hears.clock_is.counts o in omega (arith, same);
      sized = hears.clock_is.sized;
    }) hears.heard)
  where
    part_sent : (s : RunParts) → s.world ≡ r.world → s.full ≡ r.full → IsPart s turn.offered → IsPart r turn.offered
    part_sent s world full p = record {
      later = subst (λ (w : WorldParts). IsLater w turn.offered.world) world p.later;
      lawful = λ l. p.lawful (subst IsLawful (sym world) l);
      full = λ f. p.full (full ∙ f);
    }

pub part_turn : (r : RunParts) (turn : Turn) (after : RunParts) → IsTurnOf r.world turn → IsTurn r turn after →
    IsPart r after
part_turn r (Session i) after of turn = part_session r i after of turn
part_turn r (Link from to) after of turn = part_link r from to after of turn

pub part_run : (number : ℕ) (start : RunParts) (k : ℕ) (r : RunParts) → IsRunTo number start k r → IsPart start r
part_run number start _ r (begins _ same) = part_same start r same
part_run number start _ r (turns k turn before _ run going on at taken) =
    part_along start before r (part_run number start k before run)
    (part_turn before turn r (round_turns before.world turn (record { place = place_at number before.world k; at = at })) taken)
