use Rattle.std.proofs.Common.{sym, subst, List}
use Rattle.std.proofs.lemmas.Result.{on_ok_weaker}
use Rattle.ipa_repair.specs.Chosen.{Gains}
use Rattle.ipa_repair.specs.Offers.{ClearsAsTwo}
use Rattle.ipa_repair.specs.Trying.{tried_of}
use Rattle.ipa_repair.specs.declared.candidates.Offer.{Offer}
use Rattle.ipa_repair.proofs.ChosenLemmas.{gains-nothing}
use Rattle.ipa_repair.proofs.ClearLemmas.{two_at-none, two_gained}
use Rattle.ipa_repair.proofs.trying.push_two_at.Goals as goal

pub returns-then-place-later : goal.returns-then-place-later
returns-then-place-later c =
    subst (λ (xs : List Offer). Gains (ClearsAsTwo c.args.spec.now c.args.left c.args.right) xs c.args.offers.now c.args.offers.now)
    (sym (two_at-none (tried_of c.args.tried.now) c.args.place c.args.later c.if-place-later.true)) (gains-nothing (ClearsAsTwo c.args.spec.now c.args.left c.args.right) c.args.offers.now)

pub returns : goal.returns
returns c =
    on_ok_weaker c.push_two.result
    (two_gained c.args.spec.now c.args.left c.args.right c.args.tried.now c.args.place c.args.later _ _ c.args.offers.now c.push_two.new.offers c.if-place-later.false c.requires.later)
    c.push_two.ensures
