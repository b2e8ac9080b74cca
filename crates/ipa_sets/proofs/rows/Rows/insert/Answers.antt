use Rattle.ipa_sets.specs.Rows.{row_table}
use Rattle.ipa_sets.proofs.RowLemmas.{put-met}
use Rattle.ipa_sets.proofs.rows.Rows.insert.Goals as goal

pub invariant_of-self-2 : goal.invariant_of-self-2
invariant_of-self-2 c = put-met (row_table c.self.inside.table) (row_table c.insert.new.self) c.args.key c.args.row
    c.in_ok-insert.ensures.updates.0 c.self.inside.shapes c.meet.new.self c.self.invariant c.meet.ensures.here c.meet.ensures.kept
