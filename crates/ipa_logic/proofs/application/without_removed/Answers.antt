use Rattle.std.proofs.Common.{not, map, ◌∙◌, sym, ap, ◌&&◌, List, [], ◌∷◌}
use Rattle.std.proofs.lemmas.List.{map-append}
use Rattle.ipa_spec.specs.Actions.{effects_of}
use Rattle.ipa_logic.specs.Facts.{has}
use Rattle.ipa_logic.specs.Touches.{some_takes}
use Rattle.ipa_logic.specs.declared.facts.Fact.{Fact}
use Rattle.ipa_logic.proofs.ApplicationLemmas.{kept-more}
use Rattle.ipa_logic.proofs.application.without_removed.Goals as goal

pub loop-fact-preserved : goal.loop-fact-preserved
loop-fact-preserved c f =
    let stays = not (some_takes c.args.spec.now (effects_of c.args.spec.now c.args.action) c.args.args.now f) in
    kept-more (map (λ x. x.now) c.loop-fact.yielded) c.in-Some.fact.now f stays _ (has c.loop-fact.left f) (c.in_ok-keep_unless_removed.ensures f) (c.loop-fact.invariant f)
    ∙ ap (λ (s : List Fact). has s f && stays) (sym (map-append (λ x. x.now) c.loop-fact.yielded (c.in-Some.fact ∷ [])))
