use Rattle.ipa_frame.proofs.Found as reading
use Rattle.ipa_frame.proofs.reading.read_frame.Goals as goal

pub returns : goal.returns
returns c = record { exact = c.read_kind.ensures; found = reading.found c.args.bytes.now c.read_kind.result c.read_kind.ensures }
