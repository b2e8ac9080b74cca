-- The text of a greedy repair: a line for each pair of actions that was taken up, for each offer of it, and for the
-- offer that was applied; and then the specification that comes out, or what is left where the repair is stuck.
--
--   part_text s c        a part of an offer: an operation's name and the line of its new effect, or `flip` and a
--                        predicate's name
--   offer_text s k o     the line of an offer, which is the one with this number
--   offers_text s k os   the lines of offers, of which the first has this number
--   step_text s step     the lines of a step
--   repaired_line steps  how many steps a repair took that is done, and nothing where it took none
--   end_of r             the specification that a repair ends in
--   repair_text r        the text of a repair
--
-- All specifications of a repair have the same names, so that each step is printed by those of the last one.
use Rattle.std.specs.Prelude.{ℕ, ◌+◌, List, [], ◌∷◌, ◌++◌, codes, length, slice_get}
use Rattle.std.specs.Fmt.{decimal}
use Rattle.std.specs.List.{flat_map, join_by}
use Rattle.std.specs.Option.{option_map_or}
use Rattle.ipa_spec.specs.declared.specification.Specification.{Specification}
use Rattle.ipa_forms.specs.Layout.{line_of, name_text}
use Rattle.ipa_canonical.specs.Canonical.{canonical_text, effect_form, names_of}
use Rattle.ipa_repair.specs.declared.candidates.Candidate.{Candidate}
use Rattle.ipa_repair.specs.declared.candidates.Candidate.TheVariants.{Adds, Flips}
use Rattle.ipa_repair.specs.declared.candidates.Offer.{Offer}
use Rattle.ipa_repair.specs.declared.steps.RepairStep.{RepairStep}
use Rattle.ipa_repair.specs.declared.steps.Repaired.{Repaired}
use Rattle.ipa_repair.specs.declared.steps.Repaired.TheVariants.{Done, Stuck}
use Rattle.ipa_report.specs.Elements.{action_name_text, predicate_name_text}
use Rattle.ipa_report.specs.Reports.{report_text}

-- the specification that a repair ends in: accepted, or left where it is stuck
abbrev pub end_of : Repaired → Specification
end_of (Done accepted steps) = accepted
end_of (Stuck end steps analysis) = end

-- an operation's name and the line of its new effect, or `flip` and a predicate's name
abbrev pub part_text : Specification → Candidate → List ℕ
part_text s (Adds n e) =
    option_map_or (λ o. name_text o.name ++ codes " " ++ line_of (effect_form s o.name (names_of o.params) e))
    (slice_get s.operations n) []
part_text s (Flips n) = codes "flip " ++ predicate_name_text s n

-- the line of the offer with this number
unfoldable pub offer_text : Specification → ℕ → Offer → List ℕ
offer_text s k o =
    codes "# offer " ++ decimal k ++ codes ": " ++ join_by (part_text s) (codes "; ") o.parts ++ codes "\n"

-- the lines of offers, of which the first has this number
abbrev pub offers_text : Specification → ℕ → List Offer → List ℕ
offers_text s k [] = []
offers_text s k (o ∷ os) = offer_text s k o ++ offers_text s (k + 1) os

-- the line of the pair of a step
unfoldable pub pair_line : Specification → RepairStep → List ℕ
pair_line s step =
    codes "# pair " ++ action_name_text s step.left ++ codes " " ++ action_name_text s step.right ++ codes "\n"

-- the pair, all its offers, and which of them is applied, counted from 1
unfoldable pub step_text : Specification → RepairStep → List ℕ
step_text s step =
    pair_line s step ++ offers_text s 1 step.offers ++ (codes "# applied " ++ decimal step.applied ++ codes "\n")

-- the line with the number of steps, and nothing where there is none
abbrev pub repaired_line : List RepairStep → List ℕ
repaired_line [] = []
repaired_line (first ∷ steps) = codes "# repaired " ++ decimal (length steps + 1) ++ codes "\n"

-- the steps of a repair that is done, their number, and the specification that comes out
unfoldable pub done_text : Specification → List RepairStep → List ℕ
done_text s steps = flat_map (step_text s) steps ++ repaired_line steps ++ canonical_text s

-- the text of a repair; where it is stuck, the report of the last specification follows the steps
abbrev pub repair_text : Repaired → List ℕ
repair_text (Done accepted steps) = done_text accepted steps
repair_text (Stuck s steps analysis) = flat_map (step_text s) steps ++ codes "stuck\n" ++ report_text s analysis
