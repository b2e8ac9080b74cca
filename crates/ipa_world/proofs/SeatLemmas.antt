-- A session of a world acts.
--
--   on_ok, on_ok2, on_ok3, always      what an answer that is no fault ensures
--   refused_none, shown_none    a refusal and a question commit nothing
--   decided_cut     what is decided to be committed is made at the cut
--   placed_same     a session with the same replica and requests stands in the same place
--   placed_here     the world with its own session and log in their places is itself
--   same_actor      a session has one log and one cut
--   due_in, calm_in what holds of a session holds of it as one of its world
--   pulled_at       it sees what its log has beyond it
--   dropped_at      it makes the drop that is due
--   committed_at    it is answered by a commit
--   told_at         it is answered by anything else
--   resting_at      it rests
--   full_drop, full_commit      its log has no room
--   room_some       a log that has room is not full
--   room_told, room_resting     nor is it full where no entry is due
use Rattle.std.proofs.Common.{◌≡◌, ℕ, ◌<◌, List, [], ◌∷◌, ◌++◌, length, Some, None, Ok, Err, slice_get, refl, sym, ◌∙◌, ap, subst, arith}
use Rattle.std.specs.Prelude.{OnOk, Result, slice_set}
use Rattle.std.proofs.lemmas.List.{append-nil}
use Rattle.ipa_clock.specs.declared.cut.Cut.{Cut}
use Rattle.ipa_spec.specs.declared.specification.Specification.{Specification}
use Rattle.ipa_logic.specs.declared.facts.Fact.{Fact}
use Rattle.ipa_logic.specs.declared.facts.Request.{Request}
use Rattle.ipa_logic.specs.declared.facts.Request.TheVariants.{Do, Show}
use Rattle.ipa_history.specs.Clocks.{IsClockOf, one_clock}
use Rattle.ipa_history.specs.Answers.{next_operation, IsAnswer}
use Rattle.ipa_history.specs.Legality.{IsLegal}
use Rattle.ipa_history.specs.declared.answers.Answer.{Answer}
use Rattle.ipa_history.specs.declared.answers.Answer.TheVariants.{Commit, Refused, Shown}
use Rattle.ipa_history.specs.declared.history.Tx.{Tx}
use Rattle.ipa_history.specs.declared.outcomes.Outcome.{Outcome}
use Rattle.ipa_history.specs.declared.reasons.Reason.{Reason}
use Rattle.ipa_gate.specs.Agreements.{news_of}
use Rattle.ipa_gate.specs.Logs.{LogParts, most}
use Rattle.ipa_gate.specs.Settings.{SettingParts}
use Rattle.ipa_session.specs.Sessions.{SessionParts, IsCalmAt, IsDueNext, IsDecision}
use Rattle.ipa_session.specs.declared.decision.Decision.TheVariants.{Commit as Decided}
use Rattle.ipa_world.specs.Worlds.{SeatParts, WorldParts, session_at, next_request, seat_with, with_seat, with_log}
use Rattle.ipa_world.specs.Steps.{Actor, IsActor, IsPulled, IsAct, IsCalm, committed_of}
use Rattle.ipa_world.specs.Room.{IsFullAt, IsDueEntry, IsCommitDue, IsActFull}
use Rattle.ipa_world.specs.Seats.{seat_parts, IsPlaced, placed}
use Rattle.ipa_world.specs.LawfulMoves.{put_same}
use Rattle.ipa_world.specs.OneVerdict.{one_verdict, calm_not_due, session_of, due_of, calm_of}
use Rattle.ipa_world.specs.declared.seats.Seat.{Seat}

-- what follows of what an answer that is no fault ensures
pub on_ok : {T E : Type 0} (r : Result T E) {P Q : Type 0} → OnOk r P → (P → Q) → OnOk r Q
on_ok (Ok x) p f = f p
on_ok (Err e) p f = tt

pub on_ok2 : {T E : Type 0} (r : Result T E) {P Q R : Type 0} → OnOk r P → OnOk r Q → (P → Q → R) → OnOk r R
on_ok2 (Ok x) p q f = f p q
on_ok2 (Err e) p q f = tt

pub on_ok3 : {T E : Type 0} (r : Result T E) {P Q R S : Type 0} → OnOk r P → OnOk r Q → OnOk r R → (P → Q → R → S) →
    OnOk r S
on_ok3 (Ok x) p q o f = f p q o
on_ok3 (Err e) p q o f = tt

-- it holds of each answer
pub always : {T E : Type 0} (r : Result T E) {P : Type 0} → P → OnOk r P
always (Ok x) p = p
always (Err e) p = tt

-- a refusal and a question commit nothing
pub refused_none : (s : Specification) (i : ℕ) (c : Cut) (request : Request) (reason : Reason) →
    committed_of s i c request (Refused reason) ≡ []
refused_none s i c (Do op args) reason = refl
refused_none s i c (Show predicate places) reason = refl

pub shown_none : (s : Specification) (i : ℕ) (c : Cut) (request : Request) (state : List Fact) →
    committed_of s i c request (Shown state) ≡ []
shown_none s i c (Do op args) state = refl
shown_none s i c (Show predicate places) state = refl

-- what is decided to be committed is made at the cut
pub decided_cut : (p : SessionParts) (c : Cut) (request : Request) (t : Tx) → IsDecision p c request (Decided t) → t.cut ≡ c
decided_cut p c (Do op args) t decision = decision.whole.lawful.next.cut
decided_cut p c (Show predicate places) t decision = absurd decision.whole

-- a session with the same replica and the same requests stands in the same place
pub placed_same : (w : WorldParts) (i : ℕ) (seat new : Seat) (log : LogParts) → new.replica ≡ seat.replica →
    new.requests ≡ seat.requests →
    with_log (with_seat w i (seat_with (seat_parts seat) new.session.seen new.outcomes)) seat.replica log.entries
    ≡ placed w i new log
placed_same w i seat new log replica requests =
    let back : seat.replica ≡ new.replica = sym replica in
    let asked : seat.requests ≡ new.requests = sym requests in
    λ k. with_log (with_seat w i (parts (back k) (asked k))) (back k) log.entries
  where
    parts : ℕ → List Request → SeatParts
    parts replica requests =
        record { replica = replica; requests = requests; seen = new.session.seen; outcomes = new.outcomes }

-- the world with this session and this log in their places is the world itself
pub placed_here : (w : WorldParts) (seat : Seat) (log : LogParts) → IsPlaced w seat log →
    placed w seat.session.origin seat log ≡ w
placed_here w seat log is =
    let logs : slice_set w.logs seat.replica log.entries ≡ w.logs = put_same w.logs seat.replica log.entries is.log_at in
    let seats : slice_set w.seats seat.session.origin (seat_parts seat) ≡ w.seats =
    put_same w.seats seat.session.origin (seat_parts seat) is.seat_at in
    λ k. record { setting = w.setting; logs = logs k; seats = seats k; peers = w.peers }

-- a session has one log and one cut
pub same_actor : (w : WorldParts) (i : ℕ) (a b : Actor) → IsActor w i a → IsActor w i b → a ≡ b
same_actor w i a b one other =
    let seat : a.seat ≡ b.seat = (let e : Some a.seat ≡ Some b.seat = sym one.seat_at ∙ other.seat_at in cc) in
    let log : a.log ≡ b.log = (
    let e : Some a.log ≡ Some b.log =
    sym one.log_at ∙ (ap (λ (x : SeatParts). slice_get w.logs x.replica) seat ∙ other.log_at) in cc) in
    let cut : a.cut ≡ b.cut = one_clock b.seat.seen a.cut b.cut
    (subst (λ (x : SeatParts). IsClockOf x.seen a.cut) seat one.clock) other.clock in
    λ k. actor (seat k) (log k) (cut k)
  where
    actor : SeatParts → List Tx → Cut → Actor
    actor seat log cut = record { seat = seat; log = log; cut = cut }

module _ (w : WorldParts) (seat : Seat) (log : LogParts) (is : IsPlaced w seat log) (cut : Cut)
    (clock : IsClockOf seat.session.seen cut) where
  abbrev pub origin : ℕ
  origin = seat.session.origin

  -- the session in its world
  abbrev pub here : Actor
  here = record { seat = seat_parts seat; log = log.entries; cut = cut }

  pub is_here : IsActor w origin here
  is_here = record { seat_at = is.seat_at; log_at = is.log_at; clock = clock }

  -- what holds of a setting, holds of the world's
  setting_in : (P : SettingParts → Type 0) → P seat.session.setting → P w.setting
  setting_in P holds = subst P (sym is.setting) holds

  pub due_in : (t : Tx) → IsDueNext seat.session cut t → IsDueNext (session_at w.setting origin (seat_parts seat)) cut t
  due_in t due = setting_in (λ s. IsDueNext (session_of s origin seat.session.seen) cut t)
      (due_of seat.session cut t due)

  pub calm_in : IsCalmAt seat.session cut → IsCalm w origin here
  calm_in calm = setting_in (λ s. IsCalmAt (session_of s origin seat.session.seen) cut) (calm_of seat.session cut calm)

  -- it sees what its log has beyond it
  pub pulled_at : (seen : List Tx) → seen ≡ seat.session.seen ++ news_of log.entries seat.session.seen →
      IsPulled w origin (with_seat w origin (seat_with (seat_parts seat) seen seat.outcomes))
  pulled_at seen more = record {
    actor = here;
    is_actor = is_here;
    after_is = ap (λ (x : List Tx). with_seat w origin (seat_with (seat_parts seat) x seat.outcomes)) more;
  }

  -- the world with more seen, more entries and more outcomes
  abbrev after : List Tx → List Tx → List Outcome → WorldParts
  after seen entries outcomes =
      with_log (with_seat w origin (seat_with (seat_parts seat) seen outcomes)) seat.replica entries

  after_same : (seen more : List Tx) (entries longer : List Tx) (outcomes others : List Outcome) → seen ≡ more →
      entries ≡ longer → outcomes ≡ others → after seen entries outcomes ≡ after more longer others
  after_same seen more entries longer outcomes others a b c = λ k. after (a k) (b k) (c k)

  -- it makes the drop that is due
  pub dropped_at : (t : Tx) → IsDueNext seat.session cut t → (seen entries : List Tx) → seen ≡ seat.session.seen ++ t ∷ [] →
      entries ≡ log.entries ++ t ∷ [] → IsAct w origin (after seen entries seat.outcomes)
  dropped_at t due seen entries more longer = IsAct.drops (record {
    actor = here;
    is_actor = is_here;
    tx = t;
    due = due_in t due;
    after_is = after_same seen (seat.session.seen ++ t ∷ []) entries (log.entries ++ t ∷ []) seat.outcomes seat.outcomes
        more longer refl;
  })

  -- what a decision to commit owes, by the request
  committed_is : (request : Request) (t : Tx) → IsDecision seat.session cut request (Decided t) →
      t ∷ [] ≡ committed_of w.setting.spec origin cut request (Commit t.dot.number)
  committed_is (Do op args) t decision =
      setting_in (λ s. t ∷ [] ≡ next_operation s.spec cut origin op args ∷ [])
      (ap (λ (x : Tx). x ∷ []) decision.whole.operation)
  committed_is (Show predicate places) t decision = absurd decision.whole

  module _ (calm : IsCalmAt seat.session cut) (request : Request) (next : next_request (seat_parts seat) ≡ Some request)
    where
      -- it is answered by a commit
      pub committed_at : (t : Tx) → t.cut ≡ cut → IsDecision seat.session cut request (Decided t) →
          (seen entries : List Tx) (outcomes : List Outcome) → seen ≡ seat.session.seen ++ t ∷ [] →
          entries ≡ log.entries ++ t ∷ [] →
          outcomes ≡ seat.outcomes ++ record { cut = t.cut; answer = Commit t.dot.number } ∷ [] →
          IsAct w origin (after seen entries outcomes)
      committed_at t cut_is decision seen entries outcomes more longer told =
          let made : t ∷ [] ≡ committed_of w.setting.spec origin cut request (Commit t.dot.number) =
          committed_is request t decision in
          IsAct.answers (record {
            actor = here;
            is_actor = is_here;
            calm = calm_in calm;
            request = request;
            next = next;
            outcome = record { cut = t.cut; answer = Commit t.dot.number };
            cut_is = cut_is;
            answer = setting_in (λ s. IsAnswer s.spec s.universe s.base seat.session.seen cut origin request
                (Commit t.dot.number)) decision.answer;
            after_is = after_same seen _ entries _ outcomes _
                (more ∙ ap (λ (x : List Tx). seat.session.seen ++ x) made)
                (longer ∙ ap (λ (x : List Tx). log.entries ++ x) made) told;
          })

      -- it is answered by anything else
      pub told_at : (answer : Answer) → IsAnswer seat.session.setting.spec seat.session.setting.universe
          seat.session.setting.base seat.session.seen cut origin request answer →
          committed_of w.setting.spec origin cut request answer ≡ [] → (outcomes : List Outcome) →
          outcomes ≡ seat.outcomes ++ record { cut = cut; answer = answer } ∷ [] →
          IsAct w origin (after seat.session.seen log.entries outcomes)
      told_at answer is_answer nothing outcomes told = IsAct.answers (record {
        actor = here;
        is_actor = is_here;
        calm = calm_in calm;
        request = request;
        next = next;
        outcome = record { cut = cut; answer = answer };
        cut_is = refl;
        answer = setting_in (λ s. IsAnswer s.spec s.universe s.base seat.session.seen cut origin request answer) is_answer;
        after_is = after_same seat.session.seen _ log.entries _ outcomes _
            (sym (ap (λ (x : List Tx). seat.session.seen ++ x) nothing ∙ append-nil seat.session.seen))
            (sym (ap (λ (x : List Tx). log.entries ++ x) nothing ∙ append-nil log.entries)) told;
      })

  -- what is full has as many entries as a log can have
  full_length : (r : ℕ) → IsFullAt w r → slice_get w.logs r ≡ Some log.entries → length log.entries ≡ most
  full_length r full at =
      let same : full.log ≡ log.entries = (let e : Some full.log ≡ Some log.entries = sym full.log_at ∙ at in cc) in
      sym (ap length same) ∙ full.full

  -- a log that has room is not full
  pub room_some : length log.entries < most → IsActFull w origin → ⊥
  room_some room full =
      let same = same_actor w origin full.actor here full.is_actor is_here in
      let size = full_length seat.replica (subst (λ (a : Actor). IsFullAt w a.seat.replica) same full.full) is.log_at in
      absurd (omega (arith, room, size))

  full_here : length log.entries ≡ most → IsFullAt w seat.replica
  full_here size = record { log = log.entries; log_at = is.log_at; full = size }

  -- its log has no room
  pub full_drop : (t : Tx) → IsDueNext seat.session cut t → length log.entries ≡ most → IsActFull w origin
  full_drop t due size = record {
    actor = here;
    is_actor = is_here;
    due = IsDueEntry.drop t (due_in t due);
    full = full_here size;
  }

  module _ (calm : IsCalmAt seat.session cut) where
    commit_due : (request : Request) → next_request (seat_parts seat) ≡ Some request → (t : Tx) →
        IsDecision seat.session cut request (Decided t) → IsCommitDue w origin here
    commit_due (Do op args) next t decision = record {
      calm = calm_in calm;
      op = op;
      args = args;
      next = next;
      legal = setting_in (λ s. IsLegal s.spec s.universe s.base seat.session.seen (next_operation s.spec cut origin op args))
          decision.answer.legal;
    }
    commit_due (Show predicate places) next t decision = absurd decision.whole

    pub full_commit : (request : Request) → next_request (seat_parts seat) ≡ Some request → (t : Tx) →
        IsDecision seat.session cut request (Decided t) → length log.entries ≡ most → IsActFull w origin
    full_commit request next t decision size = record {
      actor = here;
      is_actor = is_here;
      due = IsDueEntry.commit (commit_due request next t decision);
      full = full_here size;
    }

    -- where no commit is due, it is not full
    none_due : (IsCommitDue w origin here → ⊥) → IsActFull w origin → ⊥
    none_due none full = by_due (subst (λ (a : Actor). IsDueEntry w origin a)
        (same_actor w origin full.actor here full.is_actor is_here) full.due)
      where
        by_due : IsDueEntry w origin here → ⊥
        by_due (IsDueEntry.drop t due) =
            calm_not_due (session_at w.setting origin (seat_parts seat)) cut t (calm_in calm) due
        by_due (IsDueEntry.commit due) = none due

    -- the answer of an operation that is legal is its commit
    not_told : (request : Request) (answer : Answer) → next_request (seat_parts seat) ≡ Some request →
        committed_of w.setting.spec origin cut request answer ≡ [] →
        IsAnswer w.setting.spec w.setting.universe w.setting.base seat.session.seen cut origin request answer →
        IsCommitDue w origin here → ⊥
    not_told (Do op args) (Commit number) next nothing is_answer due = absurd (nonempty nothing)
      where
        nonempty : {x : Tx} → x ∷ [] ≡ [] → ⊥
        nonempty e = cc
    not_told (Do op args) (Refused reason) next nothing is_answer due =
        let same : Do op args ≡ Do due.op due.args = (
        let e : Some (Do op args) ≡ Some (Do due.op due.args) = sym next ∙ due.next in cc) in
        let ops : op ≡ due.op = cc in
        let given : args ≡ due.args = cc in
        one_verdict w.setting.spec w.setting.universe w.setting.base seat.session.seen
        (next_operation w.setting.spec cut origin op args) reason
        (subst (λ (x : List ℕ). IsLegal w.setting.spec w.setting.universe w.setting.base seat.session.seen
        (next_operation w.setting.spec cut origin op x)) (sym given)
        (subst (λ (x : ℕ). IsLegal w.setting.spec w.setting.universe w.setting.base seat.session.seen
        (next_operation w.setting.spec cut origin x due.args)) (sym ops) due.legal)) is_answer
    not_told (Do op args) (Shown state) next nothing is_answer due = is_answer
    not_told (Show predicate places) answer next nothing is_answer due =
        let e : Some (Show predicate places) ≡ Some (Do due.op due.args) = sym next ∙ due.next in absurd (cc)

    -- so it is not full where the request is answered without a commit
    pub room_told : (request : Request) (answer : Answer) → next_request (seat_parts seat) ≡ Some request →
        committed_of w.setting.spec origin cut request answer ≡ [] → IsAnswer seat.session.setting.spec
        seat.session.setting.universe seat.session.setting.base seat.session.seen cut origin request answer →
        IsActFull w origin → ⊥
    room_told request answer next nothing is_answer = none_due (not_told request answer next nothing
        (setting_in (λ s. IsAnswer s.spec s.universe s.base seat.session.seen cut origin request answer) is_answer))

    -- nor where no request is left
    pub room_resting : next_request (seat_parts seat) ≡ None → IsActFull w origin → ⊥
    room_resting done = none_due (λ due. let e : None ≡ Some (Do due.op due.args) = sym done ∙ due.next in absurd (cc))

    -- and then it rests
    pub resting_at : next_request (seat_parts seat) ≡ None → (after : WorldParts) → after ≡ w → IsAct w origin after
    resting_at done after same = IsAct.rests (record {
      actor = here;
      is_actor = is_here;
      calm = calm_in calm;
      done = done;
      after_is = same;
    })
