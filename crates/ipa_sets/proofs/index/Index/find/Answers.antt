use Rattle.std.proofs.Common.{Bor, Option, Some, None, MatchOption, []}
use Rattle.std.specs.Option.{option_copied}
use Rattle.ipa_clock.specs.Cut.{empty}
use Rattle.ipa_sets.specs.AtCutLaws.{find-is}
use Rattle.ipa_sets.proofs.index.Index.find.Goals as goal

-- what is said of a copy is said of what it was copied from
through_copy : {X : Type 0} (N : Type 0) (P : X → Type 0) (r : Option (Bor X)) → MatchOption (option_copied r) N P → MatchOption r N (λ x. P x.now)
through_copy N P None h = h
through_copy N P (Some x) h = h

pub returns : goal.returns
returns c s is = through_copy _ _ c.entry.result
    (find-is s c.args.self.now is [] empty c.args.dot (option_copied c.entry.result) c.entry.ensures)
