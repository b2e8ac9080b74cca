use Rattle.std.proofs.Common.{◌≡◌, false, sym, subst, arith}
use Rattle.ipa_names.specs.Naming.{is_among}
use Rattle.ipa_reader.proofs.MoreLemmas.{name_new}
use Rattle.ipa_reader.proofs.element_lists.extended.Goals as goal

pub push-requires : goal.push-requires
push-requires c =
    subst (λ all. is_among all c.name-item.result ≡ false) (sym c.loop-name.invariant)
    (name_new c.args.own c.args.names.now c.loop-name.name-index c.name-item.result (omega arith) c.name-item.is c.requires)
