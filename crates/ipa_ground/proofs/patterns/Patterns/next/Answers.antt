use Rattle.std.proofs.Common.{sym}
use Rattle.ipa_ground.proofs.PatternsLemmas.{give-one}
use Rattle.ipa_ground.proofs.patterns.Patterns.next.Goals as goal

pub returns : goal.returns
returns c = give-one c.self.inside.cursor c.advance.new.self c.self.inside.is_done c.advance.result _ c.self.invariant c.if-self.false (sym c.self.view_is) c.advance.ensures.variables c.advance.ensures.moves
