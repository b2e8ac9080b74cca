use Rattle.std.proofs.Common.{◌+◌, sym, subst}
use Rattle.std.proofs.lemmas.List.{take_rest}
use Rattle.ipa_text.specs.Fronts.{IsBlanksEnd}
use Rattle.ipa_text.proofs.CutLemmas.{blanks_end_at}
use Rattle.ipa_text.proofs.cutting.blanks_end.Goals as goal

pub returns : goal.returns
returns c =
    subst (λ n. IsBlanksEnd c.args.line.now c.args.from (c.args.from + n)) (sym (rw take_rest at c.blank_count.ensures)) (blanks_end_at c.args.line.now c.args.from c.requires)
