-- A run that is taken a turn at a time is a schedule.
--
--   turned_more, turned_full     one turn more, which may have met a log without room
--   ended_played, ended_full     its end
use Rattle.std.proofs.Common.{◌≡◌, ℕ, zero, suc, ◌+◌, true, false, refl, subst, arith}
use Rattle.ipa_history.specs.declared.outcomes.SimEnd.{SimEnd}
use Rattle.ipa_world.specs.Worlds.{WorldParts}
use Rattle.ipa_schedule.specs.Ends.{IsEndOfSchedule}
use Rattle.ipa_schedule.specs.Going.{RunParts, begun}
use Rattle.ipa_schedule.specs.Runs.{RunState, HasBegun, IsEnded, IsOneMore, IsTurnedFull, IsSettledEnd, IsFullAtLast}
use Rattle.ipa_schedule.specs.Schedules.{IsRunTo, IsPlayed, IsFullSchedule}
use Rattle.ipa_schedule.specs.Schedules.IsFullWhere.{turning, settling}
use Rattle.ipa_schedule.proofs.Planning.{over_at_end}
use Rattle.ipa_schedule.proofs.Taking.{run_more}

module _ (k : ℕ) (start : RunParts) (s : RunState) (run : IsRunTo s.plan.number start k s.run) (at : HasBegun s k) where
  -- one turn more
  pub turned_more : (after : RunState) → IsOneMore k s after → IsRunTo s.plan.number start (k + 1) after.run
  turned_more after more = subst (λ (j : ℕ). IsRunTo s.plan.number start j after.run) (next k)
      (run_more s.plan.number start k s.run after.run s.plan run more.going refl at more.on more.turned)
    where
      next : (k : ℕ) → suc k ≡ k + 1
      next k = omega arith

  -- which has met a log without room
  pub turned_full : (after : RunState) → IsTurnedFull k s after → IsFullSchedule s.plan.number start after.run
  turned_full after met = record {
    met = turning (record {
      turns = suc k;
      run = run_more s.plan.number start k s.run after.run s.plan run met.going refl at met.on met.turned;
    });
    full = met.full;
  }

  module _ (ended : IsEnded s) where
    -- all turns
    ended_played : IsPlayed s.plan.number start s.run
    ended_played = record {
      turns = k;
      run = run;
      going = ended.going;
      over = over_at_end s.run.world k s.plan at ended.end;
    }

    -- a settling that has met a log without room
    pub ended_full : (last : IsFullAtLast s.run) → IsFullSchedule s.plan.number start last.after
    ended_full last = record {
      met = settling (record { played = s.run; is_played = ended_played; settled = last.settled });
      full = last.full;
    }

-- the end of a run is that of its schedule
pub ended_scheduled : (k : ℕ) (w : WorldParts) (s : RunState) → IsRunTo s.plan.number (begun w) k s.run → HasBegun s k →
    IsEnded s → (end : SimEnd) (last : IsSettledEnd s.run end) →
    IsEndOfSchedule s.plan.number w last.after.world end
ended_scheduled k w s run at ended end last = record {
  run = last.after;
  scheduled = record {
    played = s.run;
    is_played = ended_played k (begun w) s run at ended;
    settled = last.settled;
    going = last.going;
  };
  after_is = refl;
  end_is = last.end_is;
}
