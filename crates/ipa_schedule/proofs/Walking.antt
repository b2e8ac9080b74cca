-- Each part of a run is a list of steps of its world.
--
--   IsWalk r after       steps lead from one world to the other, which is a later one
--   walk_moved .. walk_settled     the parts of a run
--   walk_scheduled, walk_full      the whole
use Rattle.std.proofs.Common.{◌≡◌, ℕ, ◌<◌, Bool, true, false, List, [], ◌∷◌, ◌++◌, length, Some, slice_get, refl, sym, ◌∙◌, ap, subst, arith}
use Rattle.std.proofs.lemmas.Option.{slice_get_within}
use Rattle.ipa_clock.specs.declared.cut.Cut.{Cut}
use Rattle.ipa_history.specs.Histories.{IsMember}
use Rattle.ipa_history.specs.MemberLaws.{member_first, member_later}
use Rattle.ipa_history.specs.declared.history.Tx.{Tx}
use Rattle.ipa_gate.specs.Agreements.{beyond_of}
use Rattle.ipa_weather.specs.Arrivals.{held_of}
use Rattle.ipa_world.specs.Worlds.{WorldParts, link_of}
use Rattle.ipa_world.specs.Steps.{IsLink, IsStepOf, IsStep, IsRun}
use Rattle.ipa_world.specs.declared.steps.Step.{Step}
use Rattle.ipa_world.specs.declared.steps.Step.TheVariants.{Pull, Act, Deliver, Heard}
use Rattle.ipa_schedule.specs.Going.{RunParts, IsMoved, IsOffered, IsOfferedAll}
use Rattle.ipa_schedule.specs.Going.IsMoved.{goes, fills, stopped}
use Rattle.ipa_schedule.specs.Going.IsOffered.{passes, blocks, stopped as halted}
use Rattle.ipa_schedule.specs.Turns.{IsDropping, IsSessionTurn, IsLinkTurn, IsTurn, with_fates, carried_all}
use Rattle.ipa_schedule.specs.Turns.IsDropping.{done, drops, stopped as ceased}
use Rattle.ipa_schedule.specs.Schedules.{links_of, IsRunTo, IsExchangeOver, IsExchange, IsCalmed, IsSettled, IsScheduled, IsFullWhere, place_at}
use Rattle.ipa_schedule.specs.Schedules.IsFullWhere.{turning, settling}
use Rattle.ipa_schedule.specs.Schedules.IsCalmed.{first, nobody}
use Rattle.ipa_schedule.specs.Schedules.IsRunTo.{begins, turns}
use Rattle.ipa_schedule.specs.Reached.{IsReached}
use Rattle.ipa_schedule.specs.Running.{HasEntry, IsLater, IsLinkOf, IsTurnOf}
use Rattle.ipa_schedule.specs.declared.turns.Turn.{Turn}
use Rattle.ipa_schedule.specs.declared.turns.Turn.TheVariants.{Session, Link}
use Rattle.ipa_schedule.proofs.Later.{later_itself, later_along, later_step}
use Rattle.ipa_schedule.proofs.Listed.{links_only, round_turns}
use Rattle.ipa_schedule.proofs.Parts.{sessions_stay, link_stays}

-- steps after steps
run_along : (w : WorldParts) (steps more : List Step) (mid after : WorldParts) → IsRun w steps mid → IsRun mid more after →
    IsRun w (steps ++ more) after
run_along w [] more mid after same rest = subst (λ (v : WorldParts). IsRun v more after) same rest
run_along w (step ∷ steps) more mid after (next, of, is, here) rest =
    (next, of, is, run_along next steps more mid after here rest)

-- steps lead from one world to the other, which is a later one
pub record IsWalk (r after : RunParts) : Type 0 where
  pub later : IsLater r.world after.world
  pub reached : IsReached r.world after.world

-- no step
walk_still : (r after : RunParts) → after.world ≡ r.world → IsWalk r after
walk_still r after same = record {
  later = subst (λ (w : WorldParts). IsLater r.world w) (sym same) (later_itself r.world);
  reached = record { steps = []; run = same };
}

walk_same : (r after : RunParts) → after ≡ r → IsWalk r after
walk_same r after same = walk_still r after (ap (λ (s : RunParts). s.world) same)

walk_along : (r s after : RunParts) → IsWalk r s → IsWalk s after → IsWalk r after
walk_along r s after one two = record {
  later = later_along r.world s.world after.world one.later two.later;
  reached = record {
    steps = one.reached.steps ++ two.reached.steps;
    run = run_along r.world one.reached.steps two.reached.steps s.world after.world one.reached.run two.reached.run;
  };
}

-- one step
walk_step : (r : RunParts) (step : Step) (after : RunParts) (next : WorldParts) → IsStepOf r.world step →
    IsStep r.world step next → after.world ≡ next → IsWalk r after
walk_step r step after next of is same = record {
  later = subst (λ (w : WorldParts). IsLater r.world w) (sym same) (later_step r.world step next is);
  reached = record { steps = step ∷ []; run = (next, of, is, same) };
}

pub walk_moved : (r : RunParts) (step : Step) (after : RunParts) → IsStepOf r.world step → IsMoved r step after →
    IsWalk r after
walk_moved r step after of (goes g) =
    walk_step r step after g.next of g.step_is (ap (λ (s : RunParts). s.world) g.after_is)
walk_moved r step after of (fills f) = walk_still r after (ap (λ (s : RunParts). s.world) f.after_is)
walk_moved r step after of (stopped s) = walk_same r after s.after_is

-- what is given is delivered from the log that has it
walk_offered : (r : RunParts) (from to : ℕ) (t : Tx) (after : RunParts) → IsLink r.world from to →
    HasEntry r.world from t → IsOffered r to t after → IsWalk r after
walk_offered r from to t after link has (passes p) = walk_step r (Deliver from to has.member.place) after p.next
    (record {
      link = link;
      log = has.log;
      log_at = has.log_at;
      there = slice_get_within has.log has.member.place t has.member.at;
    })
    (record { log = has.log; log_at = has.log_at; tx = t; at = has.member.at; given = p.given })
    (ap (λ (s : RunParts). s.world) p.after_is)
walk_offered r from to t after link has (blocks b) = walk_still r after (ap (λ (s : RunParts). s.world) b.after_is)
walk_offered r from to t after link has (halted s) = walk_same r after s.after_is

walk_offered_all : (r : RunParts) (from to : ℕ) (ts : List Tx) (after : RunParts) → IsLink r.world from to →
    ((t : Tx) → IsMember ts t → HasEntry r.world from t) → IsOfferedAll r to ts after → IsWalk r after
walk_offered_all r from to [] after link entries same = walk_same r after same
walk_offered_all r from to (t ∷ ts) after link entries (next, offered, rest) =
    let one = walk_offered r from to t next link (entries t (member_first t ts)) offered in
    walk_along r next after one (walk_offered_all next from to ts after
    (link_stays r.world next.world from to one.later link)
    (λ u m. one.later.entries from u (entries u (member_later t ts u m))) rest)

walk_dropping : (r : RunParts) (i : ℕ) (after : RunParts) → i < length r.world.seats → IsDropping r i after →
    IsWalk r after
walk_dropping r i after of (done _ _ _ d) = walk_same r after d.after_is
walk_dropping r i after of (drops _ _ next _ going due moved rest) =
    let one = walk_moved r (Act i) next of moved in
    let same = sessions_stay r.world next.world one.later in
    walk_along r next after one (walk_dropping next i after (omega (arith, of, same)) rest)
walk_dropping r i after of (ceased _ _ _ s) = walk_same r after s.after_is

walk_session : (r : RunParts) (i : ℕ) (after : RunParts) → i < length r.world.seats → IsSessionTurn r i after →
    IsWalk r after
walk_session r i after of turn =
    let one = walk_moved r (Pull i) turn.pulled of turn.pull in
    let few = sessions_stay r.world turn.pulled.world one.later in
    let two = walk_dropping turn.pulled i turn.calmed (omega (arith, of, few)) turn.drops in
    let same = sessions_stay turn.pulled.world turn.calmed.world two.later in
    let three = walk_moved turn.calmed (Act i) after (omega (arith, of, few, same)) turn.act in
    walk_along r turn.pulled after one (walk_along turn.pulled turn.calmed after two three)

walk_link : (r : RunParts) (from to : ℕ) (after : RunParts) → IsLink r.world from to → IsLinkTurn r from to after →
    IsWalk r after
walk_link r from to after link turn =
    let sent : RunParts = with_fates r (link_of from to)
    (held_of turn.fates (carried_all (beyond_of turn.log turn.known))) (turn.given ++ turn.fates) in
    let one = walk_offered_all sent from to turn.arrived turn.offered link
    (λ t m. record { log = turn.log; log_at = turn.link.log_at; member = turn.entries t m }) turn.offers in
    let hears = turn.hears in
    let two = walk_moved turn.offered (Heard from to hears.clock) after (record {
      link = link_stays r.world turn.offered.world from to one.later link;
      log = hears.log;
      log_at = hears.log_at;
      has = λ o. let same = hears.clock_is.counts o in omega (arith, same);
      sized = hears.clock_is.sized;
    }) hears.heard in
    walk_along r turn.offered after (record { later = one.later; reached = one.reached }) two

walk_turn : (r : RunParts) (turn : Turn) (after : RunParts) → IsTurnOf r.world turn → IsTurn r turn after →
    IsWalk r after
walk_turn r (Session i) after of turn = walk_session r i after of turn
walk_turn r (Link from to) after of turn = walk_link r from to after of turn

-- the turns of a schedule
pub walk_run : (number : ℕ) (start : RunParts) (k : ℕ) (r : RunParts) → IsRunTo number start k r → IsWalk start r
walk_run number start _ r (begins _ same) = walk_same start r same
walk_run number start _ r (turns k turn before _ run going on at taken) =
    walk_along start before r (walk_run number start k before run)
    (walk_turn before turn r (round_turns before.world turn (record { place = place_at number before.world k; at = at }))
    taken)

-- an exchange
walk_exchange : (r : RunParts) (links : List Turn) (after : RunParts) →
    ((link : Turn) → IsMember links link → IsLinkOf r.world link) → IsExchange r links after → IsWalk r after
walk_exchange r [] after all same = walk_same r after same
walk_exchange r (Session i ∷ links) after all none = absurd none
walk_exchange r (Link from to ∷ links) after all (next, over, rest) =
    let one = walk_offered_all r from to over.log next (all (Link from to) (member_first (Link from to) links))
    (λ t m. record { log = over.log; log_at = over.log_at; member = m }) over.offered in
    walk_along r next after one (walk_exchange next links after
    (λ l m. still l one.later (all l (member_later (Link from to) links l m))) rest)
  where
    still : (l : Turn) → IsLater r.world next.world → IsLinkOf r.world l → IsLinkOf next.world l
    still (Session i) later none = absurd none
    still (Link a b) later link = link_stays r.world next.world a b later link

walk_calmed : (r after : RunParts) → IsCalmed r after → IsWalk r after
walk_calmed r after (first some c) =
    let one = walk_moved r (Pull 0) c.pulled some c.pull in
    let same = sessions_stay r.world c.pulled.world one.later in
    walk_along r c.pulled after one (walk_dropping c.pulled 0 after (omega (arith, some, same)) c.drops)
walk_calmed r after (nobody none same) = walk_same r after same

-- the settling
pub walk_settled : (r after : RunParts) → IsSettled r after → IsWalk r after
walk_settled r after s =
    let one = walk_exchange r (links_of (length r.world.logs)) s.exchanged (links_only r.world) s.first in
    let two = walk_calmed s.exchanged s.calmed s.calms in
    let three = walk_exchange s.calmed (links_of (length s.calmed.world.logs)) after (links_only s.calmed.world) s.second in
    walk_along r s.exchanged after one (walk_along s.exchanged s.calmed after two three)

-- a schedule to its end
pub walk_scheduled : (number : ℕ) (start r : RunParts) → IsScheduled number start r → IsWalk start r
walk_scheduled number start r s = walk_along start s.played r
    (walk_run number start s.is_played.turns s.played s.is_played.run) (walk_settled s.played r s.settled)

-- or until a log was without room
pub walk_full : (number : ℕ) (start r : RunParts) → IsFullWhere number start r → IsWalk start r
walk_full number start r (turning t) = walk_run number start t.turns r t.run
walk_full number start r (settling s) = walk_along start s.played r
    (walk_run number start s.is_played.turns s.played s.is_played.run) (walk_settled s.played r s.settled)
