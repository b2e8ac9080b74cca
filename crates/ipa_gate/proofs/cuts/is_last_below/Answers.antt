use Rattle.std.proofs.Common.{refl}
use Rattle.ipa_gate.proofs.CutLemmas.{last_found, last_open, last_absent}
use Rattle.ipa_gate.proofs.cuts.is_last_below.Goals as goal

pub returns-in-Some : goal.returns-in-Some
returns-in-Some c =
    let h = c.args.index.now.entries in
    let is = c.requires.indexed.history in (
      λ below. last_found h is c.args.cut.now c.args.origin c.in-Some.last.now _ refl refl c.in-Some.ensures
          (c.is_below.ensures.0 below),
      λ last. c.is_below.ensures.1
          (last_open h is c.args.cut.now c.args.origin c.in-Some.last.now _ refl refl c.in-Some.ensures last),
    )

pub returns-in-None : goal.returns-in-None
returns-in-None c = (
  λ _. last_absent c.args.index.now.entries c.requires.indexed.history c.args.cut.now c.args.origin _ refl refl c.in-None.ensures,
  λ _. refl,
)
