-- What senders know of receivers is true, so none withholds what its receiver lacks.
--
--   KnowsTruly w       what each sender knows of its receiver, the receiver's log has
--   start-truly, step-truly, run-truly      so it is at the start, after each step, and after each run
--   withheld-there     an entry that its sender takes the receiver to have is in the receiver's log
use Rattle.std.proofs.Common.{◌≡◌, ℕ, ◌<◌, ◌≤◌, Bool, List, [], ◌∷◌, ◌++◌, length, Some, slice_get, sym, ◌∙◌, ap, subst, arith, inl, inr}
use Rattle.std.specs.Prelude.{slice_set, ◌==◌}
use Rattle.std.specs.List.{count_by}
use Rattle.std.proofs.lemmas.Option.{slice_get_within}
use Rattle.ipa_clock.specs.declared.cut.Cut.{Cut}
use Rattle.ipa_clock.specs.Cut.{count_of, Covers, empty, joined}
use Rattle.ipa_clock.specs.Lemmas.{count_of-joined}
use Rattle.ipa_history.specs.Histories.{IsMember, number_of}
use Rattle.ipa_history.specs.HistoryLaws.{count_cons, positive}
use Rattle.ipa_history.specs.Clocks.{clock-none}
use Rattle.ipa_history.specs.PushLaws.{dots_there}
use Rattle.ipa_history.specs.declared.history.Tx.{Tx}
use Rattle.ipa_reader.specs.declared.sessions.SessionWork.{SessionWork}
use Rattle.ipa_gate.specs.Settings.{SettingParts}
use Rattle.ipa_world.specs.Worlds.{WorldParts, link_of, start_of}
use Rattle.ipa_world.specs.Steps.{IsAct, drops, answers, rests, IsGiven, takes, leaves, IsHearable, committed_of, IsStep, IsStepOf, IsRun}
use Rattle.ipa_world.specs.Room.{HasRoom}
use Rattle.ipa_world.specs.Lawful.{IsLawful}
use Rattle.ipa_world.specs.HistoryParts.{one_dot}
use Rattle.ipa_world.specs.LawfulMoves.{put_cases}
use Rattle.ipa_world.specs.LawfulLaws.{repeated_at, step-lawful}
use Rattle.ipa_world.specs.RunLaws.{room-before_run}
use Rattle.ipa_world.specs.EndLaws.{one_transaction}
use Rattle.ipa_world.specs.declared.steps.Step.{Step}
use Rattle.ipa_world.specs.declared.steps.Step.TheVariants.{Pull, Act, Deliver, Heard}

-- the log has all transactions of the cut
pub record HasAllOf (log : List Tx) (c : Cut) : Type 0 where
  pub counts : (origin : ℕ) → count_of c origin ≤ number_of origin log

-- what each sender knows of its receiver, the receiver's log has
pub record KnowsTruly (w : WorldParts) : Type 0 where
  pub each : (from to : ℕ) (known : Cut) (log : List Tx) → to < 8 → slice_get w.peers (link_of from to) ≡ Some known →
      slice_get w.logs to ≡ Some log → HasAllOf log known

-- more at the end of a list leaves no count less
no_less : {X : Type 0} (p : X → Bool) (xs ys : List X) → count_by p xs ≤ count_by p (xs ++ ys)
no_less p [] ys = omega arith
no_less p (x ∷ xs) ys =
    let rest = no_less p xs ys in
    let low = count_cons p x xs in
    let high = count_cons p x (xs ++ ys) in
    omega (arith, rest, low, high)

-- at the start nothing is known
pub start-truly : (s : SettingParts) (works : List SessionWork) (n : ℕ) → KnowsTruly (start_of s works n)
start-truly s works n = record {
  each = λ from to known log few known_at log_at. record {
    counts = λ o.
        let none : count_of known o ≡ 0 = ap (λ (c : Cut). count_of c o)
        (sym (repeated_at 64 empty (link_of from to) known known_at)) ∙ clock-none.counts o in
        omega (arith, none);
  };
}

-- where one log is longer, what is known is true
module _ (w : WorldParts) (truly : KnowsTruly w) (r : ℕ) (had made : List Tx)
    (had_at : slice_get w.logs r ≡ Some had) where
  log_grown : (from to : ℕ) (known : Cut) (log : List Tx) → to < 8 → slice_get w.peers (link_of from to) ≡ Some known →
      slice_get (slice_set w.logs r (had ++ made)) to ≡ Some log → HasAllOf log known
  log_grown from to known log few known_at log_at = elim (put_cases w.logs r (had ++ made) to log log_at) [
    | inr there ↦ truly.each from to known log few known_at there
    | inl here ↦
        let before = truly.each from to known had few known_at (ap (slice_get w.logs) here.0 ∙ had_at) in
        subst (λ (xs : List Tx). HasAllOf xs known) here.1 (record {
          counts = λ o.
              let low = before.counts o in
              let more = no_less (λ (t : Tx). t.dot.origin == o) had made in
              omega (arith, low, more);
        })
  ]

-- after an act
act_truly : (w : WorldParts) (i : ℕ) (after : WorldParts) → KnowsTruly w → IsAct w i after → KnowsTruly after
act_truly w i after truly (drops d) = subst KnowsTruly (sym d.after_is) (record {
  each = log_grown w truly d.actor.seat.replica d.actor.log (d.tx ∷ []) d.is_actor.log_at;
})
act_truly w i after truly (answers d) = subst KnowsTruly (sym d.after_is) (record {
  each = log_grown w truly d.actor.seat.replica d.actor.log
      (committed_of w.setting.spec i d.actor.cut d.request d.outcome.answer) d.is_actor.log_at;
})
act_truly w i after truly (rests d) = subst KnowsTruly (sym d.after_is) truly

-- after a transaction was given to a replica
gift_truly : (w : WorldParts) (r : ℕ) (t : Tx) (after : WorldParts) → KnowsTruly w → IsGiven w r t after →
    KnowsTruly after
gift_truly w r t after truly (takes g) =
    subst KnowsTruly (sym g.after_is) (record { each = log_grown w truly r g.log (t ∷ []) g.log_at })
gift_truly w r t after truly (leaves g) = subst KnowsTruly (sym g.after_is) truly

-- after a sender heard what its receiver has
module _ (w : WorldParts) (few_logs : length w.logs ≤ 8) (truly : KnowsTruly w) (from to : ℕ) (clock : Cut)
    (hearable : IsHearable w from to clock) (known : Cut)
    (known_at : slice_get w.peers (link_of from to) ≡ Some known) where
  low_receiver : to < 8
  low_receiver = let receives = hearable.link.receives in omega (arith, few_logs, receives)

  heard_there : (log : List Tx) → slice_get w.logs to ≡ Some log → HasAllOf log (joined known clock)
  heard_there log log_at = record {
    counts = λ o.
        let both : Some hearable.log ≡ Some log = sym hearable.log_at ∙ log_at in
        let same : hearable.log ≡ log = cc in
        let heard : count_of clock o ≤ number_of o log =
        subst (λ (xs : List Tx). count_of clock o ≤ number_of o xs) same (hearable.has o) in
        let was = (truly.each from to known log low_receiver known_at log_at).counts o in
        let greater = count_of-joined known clock o in
        omega (arith, heard, was, greater);
  }

  peer_grown : (a b : ℕ) (one : Cut) (log : List Tx) → b < 8 →
      slice_get (slice_set w.peers (link_of from to) (joined known clock)) (link_of a b) ≡ Some one →
      slice_get w.logs b ≡ Some log → HasAllOf log one
  peer_grown a b one log low at log_at =
      elim (put_cases w.peers (link_of from to) (joined known clock) (link_of a b) one at) [
        | inr there ↦ truly.each a b one log low there log_at
        | inl here ↦
            let receiver : b ≡ to = omega (arith, here.0, low, low_receiver) in
            subst (λ (c : Cut). HasAllOf log c) here.1
            (heard_there log (subst (λ (k : ℕ). slice_get w.logs k ≡ Some log) receiver log_at))
      ]

-- after each step what is known is true
pub step-truly : (w : WorldParts) (step : Step) (after : WorldParts) → length w.logs ≤ 8 → KnowsTruly w →
    IsStepOf w step → IsStep w step after → KnowsTruly after
step-truly w (Pull session) after few truly of taken =
    subst KnowsTruly (sym taken.after_is) (record { each = truly.each })
step-truly w (Act session) after few truly of taken = act_truly w session after truly taken
step-truly w (Deliver from to place) after few truly of taken = gift_truly w to taken.tx after truly taken.given
step-truly w (Heard from to clock) after few truly of taken = subst KnowsTruly (sym taken.after_is)
    (record { each = peer_grown w few truly from to clock of taken.known taken.known_at })

-- and after each run
pub run-truly : (w : WorldParts) (steps : List Step) (after : WorldParts) → IsLawful w → KnowsTruly w →
    IsRun w steps after → HasRoom after → KnowsTruly after
run-truly w [] after is truly run room = subst KnowsTruly (sym run) truly
run-truly w (step ∷ steps) after is truly run room = run-truly run.0 steps after
    (step-lawful w step run.0 is run.1 run.2 (room-before_run run.0 steps after run.3 room))
    (step-truly w step run.0 is.logs.few truly run.1 run.2) run.3 room

-- an entry that its sender takes the receiver to have is in the receiver's log
pub withheld-there : (w : WorldParts) → IsLawful w → KnowsTruly w → (from to : ℕ) (known : Cut) (mine theirs : List Tx)
    (t : Tx) → slice_get w.peers (link_of from to) ≡ Some known → slice_get w.logs from ≡ Some mine →
    slice_get w.logs to ≡ Some theirs → IsMember mine t → Covers known t.dot → IsMember theirs t
withheld-there w is truly from to known mine theirs t known_at mine_at theirs_at m covers =
    let inside = slice_get_within w.logs to theirs theirs_at in
    let few = is.logs.few in
    let has = (truly.each from to known theirs (omega (arith, inside, few)) known_at theirs_at).counts t.dot.origin in
    let low : t.dot.number ≤ count_of known t.dot.origin = covers in
    let positive = positive mine (is.logs.logs from mine mine_at).legal.history t m in
    let u = dots_there theirs (is.logs.logs to theirs theirs_at).legal.history t.dot.origin t.dot.number positive
    (omega (arith, has, low)) in
    let same = one_transaction w is to from theirs mine u.tx t theirs_at mine_at u.member m
    (one_dot u.tx.dot t.dot u.origin_is u.number_is) in
    subst (λ (x : Tx). IsMember theirs x) same u.member
