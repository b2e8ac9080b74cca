use Rattle.ipa_schedule.proofs.Giving.{IsExchanging}
use Rattle.ipa_schedule.proofs.exchanges.exchange.Given as goal

abbrev pub invariant-loop-link : goal.invariant-loop-link
invariant-loop-link l =
    IsExchanging l.initial.world l.initial.progress l.links l.link-index l.world l.progress
