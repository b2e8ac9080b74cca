use Rattle.std.proofs.Common.{◌≡◌, true}
use Rattle.ipa_clock.specs.Cut.{is_covered}
use Rattle.ipa_history.specs.declared.history.Tx.{Tx}
use Rattle.ipa_gate.specs.Fronts.{front-none}
use Rattle.ipa_gate.proofs.log.Log.beyond.Goals as goal

pub beyond_from-requires : goal.beyond_from-requires
beyond_from-requires c =
    front-none (λ (t : Tx). is_covered c.args.peer.now t.dot ≡ true) c.args.self.now.entries
