use Rattle.std.proofs.Common.{◌≡◌, ℕ, ◌<◌, Some}
use Rattle.std.specs.List.{slice_get}
use Rattle.ipa_repair.specs.Greedy.{Lessens}
use Rattle.ipa_repair.specs.declared.candidates.Offer.{Offer}
use Rattle.ipa_repair.proofs.greedy.first_lessening.Given as goal

abbrev pub invariant-loop-place : goal.invariant-loop-place
invariant-loop-place l = (n : ℕ) (o : Offer) → n < l.place → slice_get l.offers n ≡ Some o → Lessens l.spec o.parts → ⊥
