use Rattle.ipa_names.specs.Declarations.{with_remove}
use Rattle.ipa_names.specs.ListLaws.{with_last_put}
use Rattle.ipa_names.proofs.declaring.with_remove.Goals as goal

pub returns-in_ok-all-in-Some : goal.returns-in_ok-all-in-Some
returns-in_ok-all-in-Some c = with_last_put (with_remove c.args.effect) c.args.bounds _ _ _ _ _ c.into_vec-items.ensures c.in-Some.ensures.items c.in_ok-grown-in-Some.ensures c.in_ok-all-in-Some.ensures
