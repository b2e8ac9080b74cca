use Rattle.std.proofs.Common.{◌≡◌, ◌+◌, ◌++◌, drop}
use Rattle.ipa_report.specs.RepairTexts.{offers_text}
use Rattle.ipa_report.proofs.repairs.write_offers.Given as goal

-- what is printed, and the lines that are left, are all lines
abbrev pub invariant-loop-offer : goal.invariant-loop-offer
invariant-loop-offer l = record {
  counted : l.number ≡ l.offer-index + 1;
  printed : l.page ++ offers_text l.spec (l.offer-index + 1) (drop l.offer-index l.offers)
      ≡ l.initial.page ++ offers_text l.spec 1 l.offers;
}
