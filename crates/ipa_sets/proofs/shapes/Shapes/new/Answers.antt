use Rattle.std.proofs.Common.{false, arith, inl, inr, replicate}
use Rattle.std.proofs.lemmas.Bool.{cases_lt}
use Rattle.std.proofs.lemmas.List.{get_or-replicate, get_or_past, length-replicate}
use Rattle.ipa_sets.specs.Shapes.{shape}
use Rattle.ipa_sets.proofs.shapes.Shapes.new.Goals as goal

pub returns : goal.returns
returns c p = elim (cases_lt (shape p) 2048) [
  | inl low ↦ get_or-replicate 2048 (shape p) false false low
  | inr high ↦ get_or_past (replicate 2048 false) (shape p) false (let sized = length-replicate 2048 false in omega (arith, sized, high))
]
