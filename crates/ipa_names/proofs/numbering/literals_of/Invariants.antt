use Rattle.std.proofs.Common.{◌≡◌, take}
use Rattle.std.specs.Prelude.{map}
use Rattle.ipa_names.specs.Meaning.{literal_of}
use Rattle.ipa_names.proofs.numbering.literals_of.Given as goal

abbrev pub invariant-loop-literal : goal.invariant-loop-literal
invariant-loop-literal l = l.all ≡ map (literal_of l.declared l.scope) (take l.literal-index l.literals)
