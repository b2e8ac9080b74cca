use Rattle.std.proofs.Common.{◌≡◌, ◌++◌, codes, take}
use Rattle.std.specs.List.{flat_map}
use Rattle.ipa_report.specs.Elements.{fact_text}
use Rattle.ipa_report.proofs.facts.write_facts.Given as goal

-- the later facts so far are printed, each behind a space
abbrev pub invariant-loop-fact : goal.invariant-loop-fact
invariant-loop-fact l = l.page ≡ l.initial.page ++ flat_map (λ fact. codes " " ++ fact_text l.spec fact) (take l.fact-index l.later)
