use Rattle.ipa_canonical.proofs.Accepted.{accepted}
use Rattle.ipa_canonical.proofs.rereading.none_refused.Goals as goal

pub returns : goal.returns
returns c = λ s h. accepted s h.faultless h.shaped h.named
