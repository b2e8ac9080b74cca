use Rattle.std.proofs.Common.{◌≡◌, ◌≤◌, length, [], ◌∷◌, ◌++◌, ap, ◌∙◌, arith}
use Rattle.ipa_reader.specs.Arrangements.{elements_at, with_more}
use Rattle.ipa_reader.proofs.MoreLemmas.{elements_at-pad, with_more-pad}
use Rattle.ipa_reader.proofs.element_lists.padded.Goals as goal

pub padding-preserved : goal.padding-preserved
padding-preserved c =
    let grown : c.push.new.self.items ≡ c.padding.lists.items ++ [] ∷ [] = cc (c.in_ok-push.ensures.items) in
    let short : length c.padding.lists.items ≤ c.args.number = omega arith in
    record {
      own = ap (λ lists. elements_at lists c.args.number) grown ∙ elements_at-pad c.args.number c.padding.lists.items short ∙ c.padding.invariant.own;
      more = λ names. ap (with_more c.args.number names) grown ∙ with_more-pad c.args.number names c.padding.lists.items short ∙ c.padding.invariant.more names;
    }
