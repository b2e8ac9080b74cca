-- What an entry tells of the commit that names it.
--
--   legal_there     an entry is legal at its cut of all entries
--   entry_answered  the outcome of an entry's commit reads a state within the bounds, and tells the answer there
use Rattle.std.proofs.Common.{◌≡◌, ℕ, ◌+◌, Bool, true, false, List, length, take, refl, sym, ◌∙◌, ap, subst}
use Rattle.std.specs.Bool.{MatchBool}
use Rattle.std.proofs.lemmas.Bool.{false≢true}
use Rattle.ipa_clock.specs.declared.cut.Cut.{Cut}
use Rattle.ipa_clock.specs.declared.dot.Dot.{Dot}
use Rattle.ipa_clock.specs.Cut.{count_of}
use Rattle.ipa_spec.specs.Actions.{sorts_of}
use Rattle.ipa_spec.specs.declared.specification.Specification.{Specification}
use Rattle.ipa_spec.specs.declared.operations.Action.{Action}
use Rattle.ipa_spec.specs.declared.operations.Action.TheVariants.{Op}
use Rattle.ipa_logic.specs.Facts.{Universe, IsStateOf}
use Rattle.ipa_logic.specs.declared.facts.Fact.{Fact}
use Rattle.ipa_logic.specs.declared.facts.Request.{Request}
use Rattle.ipa_logic.specs.declared.facts.Request.TheVariants.{Do}
use Rattle.ipa_history.specs.Histories.{IsMember, IsClosed, members_of}
use Rattle.ipa_history.specs.HistoryLaws as histories
use Rattle.ipa_history.specs.HistoryLaws.{covers_covered, member-take}
use Rattle.ipa_history.specs.Values.{value_at}
use Rattle.ipa_history.specs.Legality.{IsLegal, IsLegalAs, IsLegalOperation, IsLegalHistory}
use Rattle.ipa_history.specs.Answers.{next_operation, IsCommitted, IsAnswer}
use Rattle.ipa_history.specs.LawfulEnds.{IsReading, IsEntryOf, IsEntered}
use Rattle.ipa_history.specs.declared.history.Tx.{Tx}
use Rattle.ipa_history.specs.declared.answers.Answer.{Answer}
use Rattle.ipa_history.specs.declared.answers.Answer.TheVariants.{Commit}
use Rattle.ipa_lift.specs.CutLaws.{IsLegal-agree}
use Rattle.ipa_journal.specs.declared.journal.OutLine.{OutLine}
use Rattle.ipa_audit.specs.GoodLines.{IsAnswered, IsFalse}
use Rattle.ipa_audit.specs.GoodLines.IsFalse.{unentered}

module _ (s : Specification) (universe : Universe) (base : List Fact) (h : List Tx)
    (legal : IsLegalHistory s universe base h) where
  -- an entry is legal at its cut of all entries
  legal_there : (t : Tx) → IsMember h t → IsLegal s universe base h t
  legal_there t m = IsLegal-agree s universe base (take m.place h) h t (record {
    there = λ u covers mu. member-take m.place h u mu;
    back = λ u covers mu.
        histories.seen_earlier h legal.history m.place t u m.at mu (covers_covered t.cut u.dot covers);
  }) (legal.legal m.place t m.at)

  -- the outcome of an entry's commit reads a state within the bounds, and tells the answer there
  module _ (counted : (t : Tx) → IsMember h t → t.count ≡ length (sorts_of s t.action)) (session number : ℕ) (cut : Cut)
      (op : ℕ) (args : List ℕ) (e : IsEntryOf h session number cut op args) where
    is : IsLegal s universe base h e.tx
    is = legal_there e.tx e.member

    lawful : IsLegalOperation s universe e.tx is.before is.after
    lawful = subst (λ (a : Action). IsLegalAs a s universe (members_of h e.tx.cut) e.tx is.before is.after) e.action
        is.legal

    pub reading : IsClosed h cut → IsReading s base h cut
    reading closed = record {
      closed = closed;
      state = is.before;
      at = subst (λ (c : Cut). IsStateOf (value_at s base h c) is.before) e.cut_is is.state_before;
      within = lawful.within_before;
    }

    origin : e.tx.dot.origin ≡ session
    origin = ap (λ (d : Dot). d.origin) e.dot

    numbered : number ≡ count_of cut session + 1
    numbered =
        ap (λ (d : Dot). d.number) (sym e.dot) ∙ (sym (legal.history.own e.tx e.member)
        ∙ (ap (λ (o : ℕ). count_of e.tx.cut o + 1) origin ∙ ap (λ (c : Cut). count_of c session + 1) e.cut_is))

    own : e.tx ≡ next_operation s cut session op args
    own =
        let dot : e.tx.dot ≡ record { origin = session; number = count_of cut session + 1 } = e.dot
        ∙ ap (λ (n : ℕ). record { origin = session; number = n }) numbered in
        let count : e.tx.count ≡ length (sorts_of s (Op op)) = counted e.tx e.member
        ∙ ap (λ (a : Action). length (sorts_of s a)) e.action in
        λ i. record { dot = dot i; cut = e.cut_is i; action = e.action i; args = e.args_are i; count = count i }

    pub committed : IsCommitted s universe base h (next_operation s cut session op args) number
    committed = record {
      numbered = numbered;
      legal = subst (λ (t : Tx). IsLegal s universe base h t) own is;
    }

  -- so is a commit that has its entry answered, and the others are false
  pub entry_answered : ((t : Tx) → IsMember h t → t.count ≡ length (sorts_of s t.action)) → (o : OutLine) (op : ℕ)
      (args : List ℕ) (request : Request) (number : ℕ) → request ≡ Do op args → o.answer ≡ Commit number →
      IsClosed h o.cut → (b : Bool) → (b ≡ true → IsEntryOf h o.session number o.cut op args) →
      (IsEntryOf h o.session number o.cut op args → b ≡ true) →
      MatchBool b (IsAnswered s universe base h request o) (IsFalse s universe base h request o)
  entry_answered counted o op args request number asked told closed true from to =
      let e = from refl in record {
        reading = reading counted o.session number o.cut op args e closed;
        answer = subst (λ (q : Request). IsAnswer s universe base h o.cut o.session q o.answer) (sym asked)
            (subst (λ (a : Answer). IsAnswer s universe base h o.cut o.session (Do op args) a) (sym told)
            (committed counted o.session number o.cut op args e));
        entered = subst (λ (q : Request). IsEntered h o.session o.cut q o.answer) (sym asked)
            (subst (λ (a : Answer). IsEntered h o.session o.cut (Do op args) a) (sym told) e);
      }
  entry_answered counted o op args request number asked told closed false from to = unentered (record {
    none = λ entered. false≢true (to (subst (λ (a : Answer). IsEntered h o.session o.cut (Do op args) a) told
        (subst (λ (q : Request). IsEntered h o.session o.cut q o.answer) asked entered)));
  })
