use Rattle.ipa_touch.proofs.NextLemmas.{args-none, args-next}
use Rattle.ipa_touch.proofs.known.next_args.Goals as goal

pub returns-in-None : goal.returns-in-None
returns-in-None g c = args-none c.args.predicate c.args.args (g.V.View.facts c.args.view.now) c.in-None.ensures.rising c.in-None.ensures.value

pub returns-in-Some : goal.returns-in-Some
returns-in-Some g c = args-next c.args.predicate c.args.args (g.V.View.facts c.args.view.now) c.in-Some.fact c.in-Some.ensures.rising c.in-Some.ensures.value
