use Rattle.std.proofs.Common.{◌≡◌, Some, sym, subst}
use Rattle.std.specs.List.{slice_get}
use Rattle.ipa_history.specs.LawfulEnds.{IsAt}
use Rattle.ipa_journal_laws.proofs.widths.cuts_have_all_origins.Goals as goal

pub returns : goal.returns
returns c = record {
  seen = λ t m. c.seen_have_all_origins.ensures m.place t (subst (λ h. slice_get h m.place ≡ Some t) (sym c.as_slice.ensures.history) m.at);
  read = λ i k o at. c.each_has_all_origins.ensures i k o (subst (λ h. IsAt h i k o) (sym c.as_slice-2.ensures) at);
}
