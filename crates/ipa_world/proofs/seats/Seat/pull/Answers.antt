use Rattle.std.proofs.Common.{ℕ, List, length, sym, ◌∙◌, ap, subst}
use Rattle.ipa_history.specs.Histories.{IsMember}
use Rattle.ipa_history.specs.declared.history.Tx.{Tx}
use Rattle.ipa_gate.specs.Agreements.{IsReadTo}
use Rattle.ipa_gate.specs.Fronts.{front-all}
use Rattle.ipa_world.proofs.SeatLemmas.{pulled_at}
use Rattle.ipa_world.proofs.seats.Seat.pull.Goals as goal

pub returns-in_err-pull_from-clause-read : goal.returns-in_err-pull_from-clause-read
returns-in_err-pull_from-clause-read c =
    subst (λ (seen : List Tx). IsReadTo c.args.log.now.entries seen c.args.self.now.read)
    (sym c.in_err-pull_from.ensures.kept) c.requires.read

pub returns-clause-pulled : goal.returns-clause-pulled
returns-clause-pulled c w is =
    pulled_at w c.args.self.now c.args.log.now is c.cut-cut.result c.cut-cut.ensures c.pull_from.new.self.seen
    c.in_ok-pull_from.ensures.seen

pub returns-clause-read : goal.returns-clause-read
returns-clause-read c =
    subst (λ (n : ℕ). IsReadTo c.args.log.now.entries c.pull_from.new.self.seen n)
    (sym (c.len-self.ensures ∙ ap (λ (h : List Tx). length h) c.entries-entries.ensures.entries))
    (front-all (IsMember c.pull_from.new.self.seen) c.args.log.now.entries c.in_ok-pull_from.ensures.all.each)
