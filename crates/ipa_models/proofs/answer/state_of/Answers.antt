use Rattle.std.proofs.Common.{◌≡◌, ℕ, ◌+◌, ◌<◌, List, [], length, get_or, arith, sym, subst}
use Rattle.std.proofs.lemmas.List.{get_or_default}
use Rattle.ipa_logic.specs.declared.facts.Fact.{Fact}
use Rattle.ipa_models.proofs.AnswerLemmas.{StandsForFirst, first-put, first-skip, first-all}
use Rattle.ipa_models.proofs.answer.state_of.Goals as goal
use Rattle.ipa_models.proofs.answer.state_of.Goals.{then-assignment-place+in_ok-insert, else-assignment-place}

-- the fact that is read
abbrev nothing : Fact
nothing = record { predicate = 0; args = [] }

at : (facts : List Fact) (k : ℕ) → k < length facts → get_or facts k nothing ≡ get_or facts k (get_or facts k nothing)
at facts k l = get_or_default facts k nothing (get_or facts k nothing) l

pub loop-place-preserved : goal.loop-place-preserved
loop-place-preserved c = elim c.if-assignment-place.branch [
  | then-assignment-place+in_ok-insert w ↦
      subst (StandsForFirst c.args.facts.now c.args.assignment.now (c.loop-place.place + 1)) (sym w.state-is)
      (first-put c.args.facts.now c.args.assignment.now c.loop-place.place (get_or c.args.facts.now c.loop-place.place nothing) c.loop-place.state w.insert.new.self c.requires.rising c.loop-place-test.true (at _ _ c.loop-place-test.true)
      w.if-assignment-place.true w.in_ok-insert.ensures.rising w.in_ok-insert.ensures.facts c.loop-place.invariant)
  | else-assignment-place w ↦
      subst (StandsForFirst c.args.facts.now c.args.assignment.now (c.loop-place.place + 1)) (sym w.state-is)
      (first-skip c.args.facts.now c.args.assignment.now c.loop-place.place (get_or c.args.facts.now c.loop-place.place nothing) c.loop-place.state c.requires.rising c.loop-place-test.true (at _ _ c.loop-place-test.true)
      w.if-assignment-place.false c.loop-place.invariant)
]

pub returns : goal.returns
returns c = first-all _ _ c.loop-place.place _ (omega arith) c.loop-place.invariant
