use Rattle.std.proofs.Common.{refl}
use Rattle.ipa_history.specs.PushLaws.{IsHistory-push}
use Rattle.ipa_history_tests.proofs.played.append.Goals as goal

pub push-requires : goal.push-requires
push-requires c = IsHistory-push c.args.history.now c.as_slice-formed.ensures.formed c.args.tx.now (c.if-not-can_follow.ensures.0 refl)
