use Rattle.std.proofs.Common.{List, take, drop, ◌∙◌, ap}
use Rattle.ipa_history.specs.declared.history.Tx.{Tx}
use Rattle.ipa_gate.specs.Agreements.{beyond_of}
use Rattle.ipa_gate.proofs.NewsLemmas.{uncovered-later}
use Rattle.ipa_gate.proofs.log.Log.beyond_from.Goals as goal

pub returns : goal.returns
returns c =
    c.from_vec.ensures
    ∙ (c.in_ok-beyond.ensures
    ∙ (ap (λ (h : List Tx). beyond_of h c.args.peer.now)
    (c.later.ensures ∙ ap (λ (h : List Tx). drop c.args.covered h) c.entries-entries.ensures.entries)
    ∙ ap (λ (xs : List Tx). take 64 xs) (uncovered-later c.args.self.now.entries c.args.peer.now c.args.covered c.requires)))
