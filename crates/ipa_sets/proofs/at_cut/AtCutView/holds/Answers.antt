use Rattle.std.proofs.Common.{Bool, ◌&&◌, ◌∙◌, sym, ap}
use Rattle.ipa_sets.specs.AtCuts.{shown_of}
use Rattle.ipa_sets.specs.AtCutLaws.{has-facts_at, rising-facts_at}
use Rattle.ipa_sets.proofs.at_cut.AtCutView.holds.Goals as goal

pub returns-then-can_hold : goal.returns-then-can_hold
returns-then-can_hold c = record {
  value = c.passes.ensures ∙ sym (has-facts_at c.args.self.now.index.now c.args.self.now.base.now c.args.self.now.cut c.args.fact.now
      ∙ ap (λ (b : Bool). b && shown_of c.args.self.now c.args.fact.now) (sym c.can_hold.ensures.value ∙ c.if-can_hold.true));
  rising = rising-facts_at c.args.self.now.index.now c.args.self.now.base.now c.args.self.now.cut
      c.can_hold.ensures.known c.can_hold.ensures.base;
}

pub returns-else-can_hold : goal.returns-else-can_hold
returns-else-can_hold c = record {
  value = sym (has-facts_at c.args.self.now.index.now c.args.self.now.base.now c.args.self.now.cut c.args.fact.now
      ∙ ap (λ (b : Bool). b && shown_of c.args.self.now c.args.fact.now) (sym c.can_hold.ensures.value ∙ c.if-can_hold.false));
  rising = rising-facts_at c.args.self.now.index.now c.args.self.now.base.now c.args.self.now.cut
      c.can_hold.ensures.known c.can_hold.ensures.base;
}
