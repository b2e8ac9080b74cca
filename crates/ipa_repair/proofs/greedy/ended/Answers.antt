use Rattle.ipa_repair.proofs.ShownLemmas.{narrow_refused}
use Rattle.ipa_repair.proofs.greedy.ended.Goals as goal

pub unreachable-requires : goal.unreachable-requires
unreachable-requires g c =
    narrow_refused c.args.spec c.in_ok-copy.copy _ _ _ _ c.in-Err-TooWide.field-0 c.in-Err-TooWide.field-0-is c.in_ok-copy.ensures c.in-Err-TooWide.ensures.fault c.requires.narrow
