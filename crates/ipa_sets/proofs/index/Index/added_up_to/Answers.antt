use Rattle.std.proofs.Common.{None, ◌∙◌}
use Rattle.std.proofs.lemmas.List.{get_or-replicate}
use Rattle.ipa_clock.specs.Cut.{count_of}
use Rattle.ipa_sets.specs.Indexes.{filed}
use Rattle.ipa_sets.specs.Numbers.{greater, greatest_upto}
use Rattle.ipa_sets.proofs.index.Index.added_up_to.Goals as goal

pub returns : goal.returns
returns c o l = c.raise.ensures o l ∙ (λ i. greater (get_or-replicate 16 o None None l i)
    (greatest_upto (count_of c.args.cut.now o) (filed c.args.self.now (c.add_key.ensures i) o)))
