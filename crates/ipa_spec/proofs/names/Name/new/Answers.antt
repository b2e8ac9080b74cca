use Rattle.std.proofs.Common.{arith, refl, rules}
use Rattle.std.proofs.lemmas.Grind.{elements}
use Rattle.ipa_spec.proofs.names.Name.new.Goals as goal

pub loop-place-init : goal.loop-place-init
loop-place-init c = record {
  short = search rules;
  sized = refl;
  copied = refl;
  zeros = λ k _. grind (arith, elements);
}
