use Rattle.std.proofs.Common.{List, ap, sym, ◌∙◌}
use Rattle.std.specs.List.{flat_map}
use Rattle.std.proofs.lemmas.List.{map-id}
use Rattle.std.proofs.lemmas.Iterator.Adapters.{YieldsList-from_vec}
use Rattle.std.proofs.lemmas.Iterator.Consumers.{YieldsList-end}
use Rattle.ipa_pairs.specs.declared.analysis.Conflict.{Conflict as Example}
use Rattle.ipa_pairs.proofs.parts.joined.Goals as goal

pub returns : goal.returns
returns c =
    let from = c.into_iter-part-iterator.ensures.into_iter_gives in
    let all = YieldsList-end
    (YieldsList-from_vec {s = c.into_iter-part-iterator.result} c.args.parts.items from.0 (from.1 ∙ c.args.parts.ok.0))
    c.loop-part.yielded c.loop-part.part-iterator c.loop-part.yielded_by c.next.result c.next.new.self c.in-None.is
    c.next.ensures.steps in
    c.from_vec.ensures ∙ (c.loop-part.invariant
    ∙ ap (flat_map (λ (part : List Example). part)) (sym (map-id c.loop-part.yielded) ∙ all.0))
