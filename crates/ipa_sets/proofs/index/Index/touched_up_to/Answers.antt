use Rattle.std.proofs.Common.{refl, ◌∙◌, List, ◌∷◌, ap, arith, false, [], None, get_or}
use Rattle.std.proofs.lemmas.List.{take_all}
use Rattle.ipa_clock.specs.Cut.{count_of}
use Rattle.ipa_sets.specs.AtCuts.{filed_under}
use Rattle.ipa_sets.specs.Keys.{add_key}
use Rattle.ipa_sets.specs.LastAtLaws.{touched-step}
use Rattle.ipa_sets.specs.Numbers.{greatest_upto}
use Rattle.ipa_sets.specs.declared.keys.Key.{Key}
use Rattle.ipa_sets.proofs.index.Index.touched_up_to.Goals as goal

pub returns : goal.returns
returns c o l = c.loop-key.invariant o l
    ∙ ap (λ (ks : List Key). greatest_upto (count_of c.args.cut.now o) (filed_under c.args.self.now (add_key c.args.fact.now ∷ ks) o))
    (take_all c.loop-key.key-index c.remove_keys-keys.result (omega arith) ∙ c.remove_keys-keys.ensures)

pub loop-key-preserved : goal.loop-key-preserved
loop-key-preserved c o l =
    let test = c.loop-key-test.true in
    touched-step c.args.self.now (count_of c.args.cut.now o) (add_key c.args.fact.now) c.remove_keys-keys.result c.loop-key.key-index
    (record { adds = false; pattern = record { predicate = 0; places = [] } }) o
    (get_or c.loop-key.touched o None) _ (get_or c.raise.new.found o None)
    (omega arith) (c.loop-key.invariant o l) refl (c.raise.ensures o l)
