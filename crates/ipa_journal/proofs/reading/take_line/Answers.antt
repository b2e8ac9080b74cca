use Rattle.std.proofs.Common.{◌≡◌, List, None, Some, refl, subst, sym, ◌∙◌}
use Rattle.ipa_journal.specs.Readings.{context_of, next_of}
use Rattle.ipa_journal.specs.Readings.IsRefusedLine.{misplaced}
use Rattle.ipa_journal.specs.declared.parts.Part.{Part}
use Rattle.ipa_journal.proofs.reading.take_line.Goals as goal

pub returns-in-Some-clause-takes : goal.returns-in-Some-clause-takes
returns-in-Some-clause-takes c =
    let context = context_of c.args.spec.now c.args.elements.now c.args.sessions c.args.first_line in
    record {
      parts = c.in-Ok.parts;
      has = c.in-Ok.ensures.parts;
      next_is = subst (λ (parts : List Part). next_of context c.args.standing c.args.line parts ≡ Some c.in-Some.next)
          c.as_slice.ensures (sym c.in_ok-next.ensures ∙ c.in-Some.is);
    }

pub returns-clause-fault : goal.returns-clause-fault
returns-clause-fault c =
    let context = context_of c.args.spec.now c.args.elements.now c.args.sessions c.args.first_line in (
      refl,
      misplaced (record {
        parts = c.in-Ok.parts;
        has = c.in-Ok.ensures.parts;
        against = subst (λ (parts : List Part). next_of context c.args.standing c.args.line parts ≡ None)
            c.as_slice.ensures (sym c.in_ok-next.ensures ∙ c.in-None.is);
      }),
    )
