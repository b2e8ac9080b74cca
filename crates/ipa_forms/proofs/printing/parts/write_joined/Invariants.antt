use Rattle.std.proofs.Common.{◌≡◌, ◌++◌, take}
use Rattle.std.specs.List.{flat_map}
use Rattle.ipa_forms.proofs.printing.parts.write_joined.Given as goal

-- the later parts so far are printed, each behind the text between
abbrev pub invariant-loop-part : goal.invariant-loop-part
invariant-loop-part g l = l.page ≡ l.initial.page ++ flat_map (λ part. l.between ++ g.P.Printed.shown part) (take l.part-index l.later)
