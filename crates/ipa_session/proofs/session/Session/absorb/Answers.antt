use Rattle.std.proofs.Common.{◌≡◌, List, ◌++◌, sym, ◌∙◌, ap, subst}
use Rattle.std.specs.Vec.{vec_capacity}
use Rattle.ipa_spec.specs.declared.specification.Specification.{Specification}
use Rattle.ipa_history.specs.Histories.{IsMember, IsHistory}
use Rattle.ipa_history.specs.Clocks.{IsClockOf}
use Rattle.ipa_history.specs.declared.history.Tx.{Tx}
use Rattle.ipa_sets.specs.FactSets.{IsFactsOf}
use Rattle.ipa_gate.specs.Settings.{IsLegalFor}
use Rattle.ipa_gate.specs.Shapes.{IsShaped}
use Rattle.ipa_session.specs.Calms.{IsCalmOf}
use Rattle.ipa_session.specs.Holding.{IsHeld}
use Rattle.ipa_session.specs.Sessions.{SessionParts}
use Rattle.ipa_session.proofs.AbsorbLemmas.{held_with, held_still}
use Rattle.ipa_session.proofs.session.Session.absorb.Goals as goal

pub invariant_of-self-in_err-extend : goal.invariant_of-self-in_err-extend
invariant_of-self-in_err-extend c =
    let here : SessionParts = record { setting = c.self.inside.setting; origin = c.self.inside.origin; seen = c.self.inside.seen; spare = c.self.inside.spare } in
    let is : c.spec-spec.result.now ≡ here.setting.spec = c.spec-spec.ensures.spec ∙ c.accepted.ensures.spec in
    let prepared : IsFactsOf c.spec-spec.result.now here.setting.base here.seen c.prepare_all.new.facts =
    c.prepare_all.ensures.same here.setting.base here.seen
    (subst (λ (s : Specification). IsFactsOf s here.setting.base here.seen c.self.inside.facts) (sym is) c.self.invariant.facts_are) in
    subst (λ (h : List Tx). IsHeld (record { setting = here.setting; origin = here.origin; seen = h; spare = 0 }) c.self.inside.cut c.self.inside.calm c.prepare_all.new.facts c.self.inside.room.items (vec_capacity c.self.inside.room)) (sym c.in_err-extend.ensures.err)
    (held_still here c.self.invariant.session c.self.inside.cut c.self.invariant.clock c.self.inside.calm c.self.invariant.calm_is c.prepare_all.new.facts
    (subst (λ (s : Specification). IsFactsOf s here.setting.base here.seen c.prepare_all.new.facts) is prepared)
    c.self.inside.room.items c.self.invariant.empty (vec_capacity c.self.inside.room))

pub invariant_of-self-2 : goal.invariant_of-self-2
invariant_of-self-2 c =
    let here : SessionParts = record { setting = c.self.inside.setting; origin = c.self.inside.origin; seen = c.self.inside.seen; spare = c.self.inside.spare } in
    let is : c.spec-spec.result.now ≡ here.setting.spec = c.spec-spec.ensures.spec ∙ c.accepted.ensures.spec in
    let prepared : IsFactsOf c.spec-spec.result.now here.setting.base here.seen c.prepare_all.new.facts =
    c.prepare_all.ensures.same here.setting.base here.seen
    (subst (λ (s : Specification). IsFactsOf s here.setting.base here.seen c.self.inside.facts) (sym is) c.self.invariant.facts_are) in
    let news = c.args.news.now in
    let legal : IsLegalFor here.setting (here.seen ++ news) =
    subst (λ (p : SessionParts). IsLegalFor p.setting (p.seen ++ news)) (sym c.self.view_is) c.requires.legal in
    let shaped : (t : Tx) → IsMember news t → IsShaped here.setting t =
    subst (λ (p : SessionParts). (t : Tx) → IsMember news t → IsShaped p.setting t) (sym c.self.view_is) c.requires.shaped in
    let clock : IsClockOf (here.seen ++ news) c.cut_with-cut.result =
    subst (λ (zs : List Tx). IsClockOf (here.seen ++ zs) c.cut_with-cut.result) c.as_slice-2.ensures c.cut_with-cut.ensures in
    let of : IsCalmOf here.setting.spec here.setting.base here.seen c.risen_calm-calm.result =
    subst (λ (p : SessionParts). IsCalmOf p.setting.spec p.setting.base p.seen c.risen_calm-calm.result) (sym c.self.view_is) c.risen_calm-calm.ensures in
    let given : c.as_slice-4.result.now ≡ news = c.as_slice-4.ensures in
    let are : IsFactsOf here.setting.spec here.setting.base (here.seen ++ news) c.take_all.new.facts =
    subst (λ (s : Specification). IsFactsOf s here.setting.base (here.seen ++ news) c.take_all.new.facts) is
    (subst (λ (zs : List Tx). IsFactsOf c.spec-spec.result.now here.setting.base (here.seen ++ zs) c.take_all.new.facts) given
    (c.take_all.ensures here.setting.base here.seen prepared
    (subst (λ (zs : List Tx). IsHistory (here.seen ++ zs)) (sym given) legal.history))) in
    subst (λ (h : List Tx). IsHeld (record { setting = here.setting; origin = here.origin; seen = h; spare = 0 }) c.cut_with-cut.result c.risen_calm-calm.result c.take_all.new.facts c.self.inside.room.items (vec_capacity c.self.inside.room))
    (sym (c.in_ok-extend.ensures.ok ∙ ap (λ (zs : List Tx). here.seen ++ zs) c.as_slice-3.ensures))
    (held_with here c.self.invariant.session news legal shaped c.cut_with-cut.result clock c.risen_calm-calm.result of c.take_all.new.facts are
    c.self.inside.room.items c.self.invariant.empty (vec_capacity c.self.inside.room))
