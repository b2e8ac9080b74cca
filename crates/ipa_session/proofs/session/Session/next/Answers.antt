use Rattle.std.proofs.Common.{◌≡◌, ℕ, ◌+◌, refl, ◌∙◌, ap, subst}
use Rattle.std.specs.Prelude.{length}
use Rattle.ipa_clock.specs.declared.cut.Cut.{Cut}
use Rattle.ipa_clock.specs.declared.dot.Dot.{Dot}
use Rattle.ipa_clock.specs.Cut.{count_of}
use Rattle.ipa_spec.specs.Actions.{sorts_of}
use Rattle.ipa_spec.specs.declared.specification.Specification.{Specification}
use Rattle.ipa_history.specs.Clocks.{IsClockOf, one_clock}
use Rattle.ipa_session.specs.Sessions.{SessionParts}
use Rattle.ipa_session.proofs.session.Session.next.Goals as goal

pub returns : goal.returns
returns c cut clock =
    let held : IsClockOf c.args.self.now.seen c.self.inside.cut =
    subst (λ (p : SessionParts). IsClockOf p.seen c.self.inside.cut) c.self.view_is c.self.invariant.clock in
    let same : c.self.inside.cut ≡ cut = one_clock c.args.self.now.seen c.self.inside.cut cut held clock in
    let origin : c.self.inside.origin ≡ c.args.self.now.origin = ap (λ (p : SessionParts). p.origin) c.self.view_is in
    let dot : ℕ → ℕ → Dot = λ o n. record { origin = o; number = n } in record {
      dot = ap (λ (o : ℕ). dot o (count_of c.self.inside.cut o + 1)) origin
          ∙ ap (λ (d : Cut). dot c.args.self.now.origin (count_of d c.args.self.now.origin + 1)) same;
      cut = same;
      action_is = refl;
      args_are = refl;
      count = c.argument_count-count.ensures ∙ ap (λ (s : Specification). length (sorts_of s c.args.action))
          (c.spec.ensures.spec ∙ (c.accepted.ensures.spec ∙ ap (λ (p : SessionParts). p.setting.spec) c.self.view_is));
    }
