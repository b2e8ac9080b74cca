use Rattle.ipa_names.specs.Declarations.{with_effect}
use Rattle.ipa_names.specs.ListLaws.{with_last_put}
use Rattle.ipa_names.proofs.declaring.with_effect.Goals as goal

pub returns-in_ok-all-in-Some : goal.returns-in_ok-all-in-Some
returns-in_ok-all-in-Some c = with_last_put (with_effect c.args.effect) c.args.operations _ _ _ _ _ c.into_vec-items.ensures c.in-Some.ensures.items c.in_ok-grown-in-Some.ensures c.in_ok-all-in-Some.ensures
