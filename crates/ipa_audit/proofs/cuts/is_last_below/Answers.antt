use Rattle.std.proofs.Common.{refl}
use Rattle.ipa_audit.proofs.CutLemmas.{last_found, last_open, last_absent}
use Rattle.ipa_audit.proofs.cuts.is_last_below.Goals as goal

pub returns-in-Some : goal.returns-in-Some
returns-in-Some c =
    let h = c.args.index.now.entries in
    let is = c.requires.indexed.history in
    let named = c.in-Some.ensures c.args._spec.now c.requires.indexed in (
      λ below. last_found h is c.args.cut.now c.args.origin c.in-Some.last.now named (c.is_below.ensures.0 below),
      λ last. c.is_below.ensures.1 (last_open h is c.args.cut.now c.args.origin c.in-Some.last.now named last),
    )

pub returns-in-None : goal.returns-in-None
returns-in-None c = (
  λ _. last_absent c.args.index.now.entries c.requires.indexed.history c.args.cut.now c.args.origin
      (c.in-None.ensures c.args._spec.now c.requires.indexed),
  λ _. refl,
)
