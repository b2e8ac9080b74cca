-- The drop that is due at a session's cut.
--
--   due_next     as its next transaction it is legal, and is the due drop
use Rattle.std.proofs.Common.{◌≡◌, ℕ, true, sym, ◌∙◌, ap, subst, Some, slice_get}
use Rattle.std.proofs.lemmas.Option.{slice_get_within}
use Rattle.ipa_clock.specs.declared.cut.Cut.{Cut}
use Rattle.ipa_spec.specs.Actions.{IsAction}
use Rattle.ipa_spec.specs.Fits.{IsFit}
use Rattle.ipa_spec.specs.declared.operations.Action.TheVariants.{Drop}
use Rattle.ipa_logic.specs.Facts.{IsFact, IsStateOf, has}
use Rattle.ipa_logic.specs.Truth.{IsArguments}
use Rattle.ipa_logic.specs.DueDrops.{IsDueDrop}
use Rattle.ipa_logic.specs.DropLaws.{due_drop-true, drop_fact-drop_args, IsArguments-drop_args}
use Rattle.ipa_logic.specs.Acceptance.{drop_args, drop_fact}
use Rattle.ipa_logic.specs.declared.facts.Fact.{Fact}
use Rattle.ipa_history.specs.Histories.{members_of}
use Rattle.ipa_history.specs.Values.{value_at}
use Rattle.ipa_history.specs.Ages.{age_at}
use Rattle.ipa_history.specs.Clocks.{IsClockOf}
use Rattle.ipa_history.specs.Legality.{IsLegal}
use Rattle.ipa_history.specs.declared.history.Tx.{Tx}
use Rattle.ipa_lift.specs.StandingLaws.{IsFact-value}
use Rattle.ipa_sets.specs.FactSets.{true_facts, lasts_on, IsFactsOf}
use Rattle.ipa_sets.specs.Lasts.{age_by_lasts}
use Rattle.ipa_sets.specs.OriginLaws.{cut_inside}
use Rattle.ipa_sets.specs.declared.facts.Facts.{Facts}
use Rattle.ipa_gate.specs.Settings.{IsSetting}
use Rattle.ipa_gate.specs.DueDrops.{due_drop-aged}
use Rattle.ipa_gate.specs.VerdictLaws.{drop_legal}
use Rattle.ipa_session.specs.Sessions.{SessionParts, IsSession, IsNextWith, IsDueNext}
use Rattle.ipa_session.proofs.CutLemmas.{state_at, ages_at, shaped_next, next_at_cut}

module _ (p : SessionParts) (fit : IsFit p.setting.spec) (setting : IsSetting p.setting) (is : IsSession p) (c : Cut)
    (clock : IsClockOf p.seen c) (facts : Facts) (are : IsFactsOf p.setting.spec p.setting.base p.seen facts) (n : ℕ)
    (f : Fact) (due : IsDueDrop p.setting.spec.bounds (true_facts facts) (λ g. age_by_lasts (lasts_on facts g)) n f)
    (t : Tx) (next : IsNextWith p c (Drop n) (drop_args f) t) where
  at : IsStateOf (value_at p.setting.spec p.setting.base p.seen c) (true_facts facts)
  at = state_at p fit setting is c clock facts are

  true_there : (has (true_facts facts) f ≡ true) × (f.predicate ≡ due.bound.predicate)
  true_there = due_drop-true p.setting.spec.bounds (true_facts facts) (λ g. age_by_lasts (lasts_on facts g)) n f due

  declared : slice_get p.setting.spec.bounds n ≡ Some due.bound
  declared = due.group.declared

  fact_is : IsFact p.setting.spec p.setting.universe f
  fact_is = IsFact-value p.setting.spec fit p.setting.universe p.setting.base p.seen is.legal (members_of p.seen c)
      (cut_inside p.seen c) f (sym (at.facts f) ∙ true_there.0)

  -- the bound's drop with the transaction's arguments removes the fact
  removed : drop_fact p.setting.spec due.bound t.args ≡ f
  removed =
      ap (drop_fact p.setting.spec due.bound) next.args_are
      ∙ drop_fact-drop_args p.setting.spec fit n due.bound declared p.setting.universe f fact_is true_there.1

  due_as : IsDueDrop p.setting.spec.bounds (true_facts facts) (λ g. age_by_lasts (lasts_on facts g)) n
      (drop_fact p.setting.spec due.bound t.args)
  due_as = subst (λ (g : Fact). IsDueDrop p.setting.spec.bounds (true_facts facts) (λ h. age_by_lasts (lasts_on facts h)) n g)
      (sym removed) due

  fits : IsArguments p.setting.spec p.setting.universe (Drop n) (drop_args f)
  fits = IsArguments-drop_args p.setting.spec fit n due.bound declared p.setting.universe f fact_is true_there.1

  action_there : IsAction p.setting.spec (Drop n)
  action_there = slice_get_within p.setting.spec.bounds n due.bound declared

  legal : IsLegal p.setting.spec p.setting.universe p.setting.base p.seen t
  legal = drop_legal p.setting.spec p.setting.universe p.setting.base p.seen t
      (next_at_cut p fit setting is c clock (Drop n) (drop_args f) t next action_there fits) (true_facts facts)
      (subst (λ (d : Cut). IsStateOf (value_at p.setting.spec p.setting.base p.seen d) (true_facts facts)) (sym next.cut) at)
      (λ g. age_by_lasts (lasts_on facts g))
      (λ g there. ages_at p fit setting is c clock facts are g
      ∙ ap (λ (d : Cut). age_at p.setting.spec p.seen d g) (sym next.cut)) n next.action_is
      (record { bound = due.bound; declared = declared; due = due_as })

  -- as its next transaction it is legal, and is the due drop
  pub due_next : IsDueNext p c t
  due_next = record {
    lawful = record {
      next = record {
        dot = next.dot;
        cut = next.cut;
        shaped = shaped_next p fit setting is c clock (Drop n) (drop_args f) t next action_there fits;
      };
      legal = legal;
    };
    number = n;
    action = next.action_is;
    bound = due.bound;
    declared = declared;
    due = record {
      state = true_facts facts;
      at = at;
      due = due_drop-aged p.setting.spec.bounds (true_facts facts) (λ g. age_by_lasts (lasts_on facts g))
          (age_at p.setting.spec p.seen c) n (drop_fact p.setting.spec due.bound t.args)
          (λ g there. ages_at p fit setting is c clock facts are g) due_as;
    };
  }
