use Rattle.std.specs.Prelude.{◌≡◌}
use Rattle.ipa_session_tests.proofs.alone.is_told.Given as goal

abbrev pub invariant-loop-place : goal.invariant-loop-place
invariant-loop-place l = l.session.setting ≡ l.fn.session.setting
