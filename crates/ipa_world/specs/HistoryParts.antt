-- What holds of a history holds of one in which it lies.
--
--   more_counted            the greater one has no fewer transactions of an origin
--   was_there               what a closed cut of the lesser covers of the greater is in the lesser
--   part-agrees             the two agree in the cut
--   part-closed             which is closed in the greater too
--   part-reading, part-answer, part-entered     a reading, an answer and a commit at the cut are those of the greater
--   past_sessions           of an origin past the sessions there is no transaction
use Rattle.std.proofs.Common.{◌≡◌, ℕ, ◌<◌, ◌≤◌, Bool, ◌&&◌, List, ◌∙◌, ap, subst, arith, inl, inr}
use Rattle.std.proofs.lemmas.Bool.{cases_lt}
use Rattle.ipa_clock.specs.declared.dot.Dot.{Dot}
use Rattle.ipa_clock.specs.declared.cut.Cut.{Cut}
use Rattle.ipa_clock.specs.Cut.{count_of, Covers}
use Rattle.ipa_spec.specs.declared.specification.Specification.{Specification}
use Rattle.ipa_logic.specs.Facts.{Universe}
use Rattle.ipa_logic.specs.declared.facts.Fact.{Fact}
use Rattle.ipa_logic.specs.declared.facts.Request.{Request}
use Rattle.ipa_logic.specs.declared.facts.Request.TheVariants.{Do, Show}
use Rattle.ipa_history.specs.Histories.{IsMember, IsHistory, IsClosed, number_of}
use Rattle.ipa_history.specs.HistoryLaws.{positive, one_named}
use Rattle.ipa_history.specs.PushLaws.{dots_there}
use Rattle.ipa_history.specs.Clocks.{number_within}
use Rattle.ipa_history.specs.Answers.{IsAnswer, is_shown, next_operation}
use Rattle.ipa_history.specs.LawfulEnds.{IsReading, IsEntered}
use Rattle.ipa_history.specs.declared.history.Tx.{Tx}
use Rattle.ipa_history.specs.declared.answers.Answer.{Answer}
use Rattle.ipa_history.specs.declared.answers.Answer.TheVariants.{Commit, Refused, Shown}
use Rattle.ipa_lift.specs.CutLaws.{Agree, value_at-agree, IsLegal-agree, IsIllegal-agree}
use Rattle.ipa_gate.specs.Agreements.{HasAll}

-- dots with the same parts are the same
pub one_dot : (d e : Dot) → d.origin ≡ e.origin → d.number ≡ e.number → d ≡ e
one_dot d e origin number = λ i. record { origin = origin i; number = number i }

-- the greater history has no fewer transactions of an origin
pub more_counted : (part h : List Tx) → IsHistory part → IsHistory h → HasAll h part → (o : ℕ) →
    number_of o part ≤ number_of o h
more_counted part h known is all o = elim (cases_lt 0 (number_of o part)) [
  | inr none ↦ omega (arith, none)
  | inl some ↦
      let u = dots_there part known o (number_of o part) some (omega arith) in
      let low = number_within h is u.tx (all.each u.tx u.member) in
      let number = u.number_is in
      let moved : number_of u.tx.dot.origin h ≡ number_of o h = ap (λ (x : ℕ). number_of x h) u.origin_is in
      omega (arith, low, number, moved)
]

module _ (part h : List Tx) (known : IsHistory part) (is : IsHistory h) (all : HasAll h part) (c : Cut)
    (closed : IsClosed part c) where
  -- what the cut covers of the greater history is in the lesser
  pub was_there : (t : Tx) → IsMember h t → Covers c t.dot → IsMember part t
  was_there t m covers =
      let count = closed.within t.dot.origin in
      let low : t.dot.number ≤ count_of c t.dot.origin = covers in
      let u = dots_there part known t.dot.origin t.dot.number (positive h is t m) (omega (arith, low, count)) in
      let same = one_named h is u.tx t (all.each u.tx u.member) m (one_dot u.tx.dot t.dot u.origin_is u.number_is) in
      subst (λ (x : Tx). IsMember part x) same u.member

  -- the two agree in the cut
  pub part-agrees : Agree part h c
  part-agrees = record {
    there = λ t covers m. all.each t m;
    back = λ t covers m. was_there t m covers;
  }

  -- which is closed in the greater too
  pub part-closed : IsClosed h c
  part-closed = record {
    within = λ o.
        let low = closed.within o in
        let more = more_counted part h known is all o in
        omega (arith, low, more);
    below = λ t m covers. closed.below t (was_there t m covers) covers;
  }

  -- a reading at the cut is one of the greater history
  pub part-reading : (s : Specification) (base : List Fact) → IsReading s base part c → IsReading s base h c
  part-reading s base r = record {
    closed = part-closed;
    state = r.state;
    at = record {
      rising = r.at.rising;
      facts = λ f. r.at.facts f ∙ value_at-agree s base part h c f part-agrees;
    };
    within = r.within;
  }

  -- the answer at the cut is that of the greater history
  pub part-answer : (s : Specification) (universe : Universe) (base : List Fact) (i : ℕ) (request : Request)
      (answer : Answer) → IsAnswer s universe base part c i request answer →
      IsAnswer s universe base h c i request answer
  part-answer s universe base i (Do op args) (Commit number) a = record {
    numbered = a.numbered;
    legal = IsLegal-agree s universe base part h (next_operation s c i op args) part-agrees a.legal;
  }
  part-answer s universe base i (Do op args) (Refused reason) a =
      IsIllegal-agree s universe base part h (next_operation s c i op args) reason part-agrees a
  part-answer s universe base i (Do op args) (Shown state) a = a
  part-answer s universe base i (Show predicate places) (Commit number) a = a
  part-answer s universe base i (Show predicate places) (Refused reason) a = a
  part-answer s universe base i (Show predicate places) (Shown state) a = record {
    rising = a.rising;
    facts = λ f. a.facts f
        ∙ ap (λ (b : Bool). b && is_shown predicate places f) (value_at-agree s base part h c f part-agrees);
  }

-- a commit's transaction is in the greater history
pub part-entered : (part h : List Tx) → HasAll h part → (i : ℕ) (c : Cut) (request : Request) (answer : Answer) →
    IsEntered part i c request answer → IsEntered h i c request answer
part-entered part h all i c (Do op args) (Commit number) e = record {
  tx = e.tx;
  member = all.each e.tx e.member;
  dot = e.dot;
  cut_is = e.cut_is;
  action = e.action;
  args_are = e.args_are;
}
part-entered part h all i c (Do op args) (Refused reason) e = tt
part-entered part h all i c (Do op args) (Shown state) e = tt
part-entered part h all i c (Show predicate places) answer e = tt

-- of an origin past the sessions there is no transaction
pub past_sessions : (h : List Tx) → IsHistory h → (sessions : ℕ) →
    ((t : Tx) → IsMember h t → t.dot.origin < sessions) → (o : ℕ) → sessions ≤ o → number_of o h ≡ 0
past_sessions h is sessions inside o past = elim (cases_lt 0 (number_of o h)) [
  | inr none ↦ omega (arith, none)
  | inl some ↦
      let u = dots_there h is o (number_of o h) some (omega arith) in
      let low = inside u.tx u.member in
      let origin = u.origin_is in
      absurd (omega (arith, low, origin, past))
]
