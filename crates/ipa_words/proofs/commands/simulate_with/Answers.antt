use Rattle.std.proofs.Common.{rules, ◌≡◌, ℕ, List, [], ◌∷◌, MatchOption, codes, sym, subst}
use Rattle.ipa_words.specs.Commands.{IsCommand}
use Rattle.ipa_words.specs.declared.commands.Command.{Command as TheCommand}
use Rattle.ipa_words.proofs.commands.simulate_with.Goals as goal

pub returns-then-eq : goal.returns-then-eq
returns-then-eq c =
    let h = c.if-eq.ensures in
    let e = c.eq.ensures in
    let same : c.args.first.now ≡ codes "--generate" = search rules in
    subst (λ (word : List ℕ). MatchOption c.generate.result ((k : TheCommand) → IsCommand (codes "simulate" ∷ word ∷ c.args.second.now ∷ []) k → ⊥) (IsCommand (codes "simulate" ∷ word ∷ c.args.second.now ∷ [])))
    (sym same) c.generate.ensures
