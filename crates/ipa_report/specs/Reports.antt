-- The report of an analysis.
--
--   lost_text s e      the literal that is lost in a conflict
--   conflict_text s e  the five lines of a conflict
--   unsafe_text s e    the two lines of an unsafe drop
--   count_text c d     the last line, with the number of conflicts and that of unsafe drops
--   report_text s a    all conflicts, all unsafe drops, and the last line
use Rattle.std.specs.Prelude.{ℕ, List, [], ◌++◌, codes, decimal, length, slice_get}
use Rattle.std.specs.List.{flat_map}
use Rattle.std.specs.Option.{option_map_or}
use Rattle.ipa_spec.specs.declared.specification.Specification.{Specification}
use Rattle.ipa_spec.specs.declared.operations.Action.TheVariants.{Drop}
use Rattle.ipa_pairs.specs.declared.analysis.Conflict.{Conflict}
use Rattle.ipa_pairs.specs.declared.analysis.UnsafeDrop.{UnsafeDrop}
use Rattle.ipa_pairs.specs.declared.analysis.Analysis.{Analysis}
use Rattle.ipa_report.specs.Elements.{facts_text, action_text, clause_text, literal_text}

-- the literal that is lost in a conflict
abbrev pub lost_text : Specification → Conflict → List ℕ
lost_text s e =
    option_map_or (λ c. option_map_or (literal_text s e.values) (slice_get c.literals e.lost) [])
    (slice_get s.clauses e.clause) []

-- the line that names the two actions and what they break
unfoldable pub conflict_head : Specification → Conflict → List ℕ
conflict_head s e =
    codes "conflict " ++ action_text s e.left e.left_args ++ codes " " ++ action_text s e.right e.right_args
    ++ codes " breaks " ++ clause_text s e.clause e.values ++ codes "\n"

-- the five lines of a conflict
unfoldable pub conflict_text : Specification → Conflict → List ℕ
conflict_text s e =
    conflict_head s e
    ++ (codes "  after left: " ++ facts_text s e.after_left ++ codes "\n")
    ++ (codes "  after right: " ++ facts_text s e.after_right ++ codes "\n")
    ++ (codes "  lost: " ++ lost_text s e ++ codes "\n")
    ++ (codes "  hidden: " ++ facts_text s e.hidden ++ codes "\n")

-- the two lines of an unsafe drop
unfoldable pub unsafe_text : Specification → UnsafeDrop → List ℕ
unsafe_text s e =
    (codes "unsafe " ++ action_text s (Drop e.bound) e.args ++ codes " breaks " ++ clause_text s e.clause e.values
    ++ codes "\n")
    ++ (codes "  before: " ++ facts_text s e.before ++ codes "\n")

-- the last line, with the number of conflicts and that of unsafe drops
abbrev pub count_text : ℕ → ℕ → List ℕ
count_text conflicts drops =
    codes "conflicts " ++ decimal conflicts ++ codes ", unsafe drops " ++ decimal drops ++ codes "\n"

-- all conflicts, then all unsafe drops, then their numbers
abbrev pub report_text : Specification → Analysis → List ℕ
report_text s a =
    flat_map (conflict_text s) a.conflicts
    ++ flat_map (unsafe_text s) a.unsafe_drops
    ++ count_text (length a.conflicts) (length a.unsafe_drops)
