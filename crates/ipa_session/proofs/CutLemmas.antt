-- What a session sees at its cut.
--
--   state_at, ages_at     the facts that it keeps are the state there, with its ages
--   keeps_at              which keeps all clauses
--   within_at             where the session is calm, they are within the bounds
--   calm_at               and where it is within the bounds, the session is calm
--   shaped_next           its next transaction, with fitting arguments, has the right shape
--   next_at_cut           and comes next at the cut
use Rattle.std.proofs.Common.{◌≡◌, ℕ, ◌+◌, ◌≤◌, Bool, List, length, sym, ◌∙◌, ap, subst, arith, inl, inr}
use Rattle.std.proofs.lemmas.Bool.{cases_lt}
use Rattle.ipa_clock.specs.declared.cut.Cut.{Cut}
use Rattle.ipa_clock.specs.declared.dot.Dot.{Dot}
use Rattle.ipa_clock.specs.Cut.{count_of}
use Rattle.ipa_spec.specs.Actions.{IsAction, sorts_of}
use Rattle.ipa_spec.specs.Fits.{IsFit}
use Rattle.ipa_spec.specs.declared.operations.Action.{Action}
use Rattle.ipa_logic.specs.Facts.{IsStateOf, has}
use Rattle.ipa_logic.specs.Truth.{Keeps, IsArguments}
use Rattle.ipa_logic.specs.FactLaws.{same_rising}
use Rattle.ipa_logic.specs.Groups.{Within}
use Rattle.ipa_logic.specs.declared.facts.Fact.{Fact}
use Rattle.ipa_history.specs.Histories.{IsClosed, number_of, members_of}
use Rattle.ipa_history.specs.Values.{value_of, value_at}
use Rattle.ipa_history.specs.Ages.{age_of, age_at}
use Rattle.ipa_history.specs.Clocks.{IsClockOf, clock-closed, clock-members}
use Rattle.ipa_history.specs.PushLaws.{dots_there}
use Rattle.ipa_history.specs.declared.history.Tx.{Tx}
use Rattle.ipa_lift.specs.Lift.{meeting_keeps}
use Rattle.ipa_sets.specs.FactSets.{true_facts, lasts_on, IsFactsOf}
use Rattle.ipa_sets.specs.FactSetLaws.{facts-state, facts-age}
use Rattle.ipa_sets.specs.Lasts.{age_by_lasts}
use Rattle.ipa_sets.specs.declared.facts.Facts.{Facts}
use Rattle.ipa_gate.specs.Settings.{IsSetting}
use Rattle.ipa_gate.specs.Shapes.{IsShaped}
use Rattle.ipa_gate.specs.Verdicts.{IsAtCut}
use Rattle.ipa_gate.specs.VerdictLaws.{meetings_of}
use Rattle.ipa_session.specs.Sessions.{SessionParts, IsSession, IsNextWith, IsCalmAt}

module _ (p : SessionParts) (fit : IsFit p.setting.spec) (setting : IsSetting p.setting) (is : IsSession p) (c : Cut)
    (clock : IsClockOf p.seen c) where
  -- its members are all that was seen
  members : members_of p.seen c ≡ p.seen
  members = clock-members p.seen is.legal.history c clock

  closed : IsClosed p.seen c
  closed = clock-closed p.seen is.legal.history c clock

  -- the facts that it keeps are the state at the cut
  pub state_at : (facts : Facts) → IsFactsOf p.setting.spec p.setting.base p.seen facts →
      IsStateOf (value_at p.setting.spec p.setting.base p.seen c) (true_facts facts)
  state_at facts are =
      subst (λ (ms : List Tx). IsStateOf (value_of p.setting.spec p.setting.base ms) (true_facts facts)) (sym members)
      (facts-state p.setting.spec p.setting.base p.seen facts are)

  -- with the ages there
  pub ages_at : (facts : Facts) → IsFactsOf p.setting.spec p.setting.base p.seen facts → (f : Fact) →
      age_by_lasts (lasts_on facts f) ≡ age_at p.setting.spec p.seen c f
  ages_at facts are f =
      facts-age p.setting.spec p.setting.base p.seen facts are f
      ∙ ap (λ (ms : List Tx). age_of p.setting.spec ms f) (sym members)

  -- a state at the cut keeps all clauses
  pub keeps_at : (state : List Fact) → IsStateOf (value_at p.setting.spec p.setting.base p.seen c) state →
      Keeps p.setting.spec p.setting.universe (has state)
  keeps_at state at =
      let tells : has state ≡ value_at p.setting.spec p.setting.base p.seen c = λ i f. at.facts f i in
      subst (λ (x : Fact → Bool). Keeps p.setting.spec p.setting.universe x) (sym tells)
      (meeting_keeps p.setting.spec fit p.setting.universe p.setting.base p.seen is.legal
      (meetings_of p.setting.spec setting.accepted p.seen) c closed)

  -- where the session is calm, they are within the bounds
  pub within_at : (facts : Facts) → IsFactsOf p.setting.spec p.setting.base p.seen facts → IsCalmAt p c →
      Within p.setting.spec.bounds (true_facts facts)
  within_at facts are calm =
      let state = state_at facts are in
      subst (λ (s : List Fact). Within p.setting.spec.bounds s)
      (same_rising calm.state (true_facts facts) calm.at.rising state.rising
      (λ f. calm.at.facts f ∙ sym (state.facts f))) calm.within

  -- where it is within the bounds, the session is calm
  pub calm_at : (facts : Facts) → IsFactsOf p.setting.spec p.setting.base p.seen facts →
      Within p.setting.spec.bounds (true_facts facts) → IsCalmAt p c
  calm_at facts are within = record {
    state = true_facts facts;
    at = state_at facts are;
    within = within;
    keeps = keeps_at (true_facts facts) (state_at facts are);
  }

  -- the cut counts no other origin than the sessions
  others : (o : ℕ) → p.setting.sessions ≤ o → count_of c o ≡ 0
  others o past = elim (cases_lt 0 (number_of o p.seen)) [
    | inr none ↦ let count = clock.counts o in omega (arith, none, count)
    | inl some ↦
        let u = dots_there p.seen is.legal.history o 1 (omega arith) (omega (arith, some)) in
        let inside = (is.shaped u.tx u.member).origin in
        let same = u.origin_is in
        absurd (omega (arith, inside, same, past))
  ]

  module _ (action : Action) (args : List ℕ) (t : Tx) (next : IsNextWith p c action args t)
      (declared : IsAction p.setting.spec action) (fits : IsArguments p.setting.spec p.setting.universe action args) where
    origin : t.dot.origin ≡ p.origin
    origin = ap (λ (d : Dot). d.origin) next.dot

    number : t.dot.number ≡ count_of c p.origin + 1
    number = ap (λ (d : Dot). d.number) next.dot

    counted : count_of t.cut t.dot.origin ≡ count_of c p.origin
    counted = ap (λ (d : Cut). count_of d t.dot.origin) next.cut ∙ ap (count_of c) origin

    -- its next transaction has the right shape
    pub shaped_next : IsShaped p.setting t
    shaped_next = record {
      origin = let inside = is.origin in omega (arith, inside, origin);
      others = λ o past. ap (λ (d : Cut). count_of d o) next.cut ∙ others o past;
      number = omega (arith, number);
      own = omega (arith, counted, number);
      fitting = record {
        declared = subst (λ (a : Action). IsAction p.setting.spec a) (sym next.action_is) declared;
        arguments = subst (λ (xs : List ℕ). IsArguments p.setting.spec p.setting.universe t.action xs)
            (sym next.args_are)
            (subst (λ (a : Action). IsArguments p.setting.spec p.setting.universe a args) (sym next.action_is) fits);
      };
      count = next.count ∙ ap (λ (a : Action). length (sorts_of p.setting.spec a)) (sym next.action_is);
    }

    -- it comes next at the cut
    pub next_at_cut : IsAtCut p.setting.spec p.setting.universe p.setting.base p.seen t
    next_at_cut = record {
      fit = fit;
      accepted = setting.accepted;
      legal = is.legal;
      closed = subst (λ (d : Cut). IsClosed p.seen d) (sym next.cut) closed;
      own = omega (arith, counted, number);
      fitting = shaped_next.fitting;
    }
