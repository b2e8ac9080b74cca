use Rattle.ipa_forms.proofs.PrintLemmas.{IsUtf8-name}
use Rattle.ipa_forms.proofs.printing.parts.write_name.Goals as goal

pub unreachable-requires : goal.unreachable-requires
unreachable-requires c = c.in-Err.ensures.cases.0 (IsUtf8-name c.as_bytes.result.now c.as_bytes.ensures.named)
