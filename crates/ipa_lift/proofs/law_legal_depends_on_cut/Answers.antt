use Rattle.ipa_lift.specs.CutLaws.{Agree-turned, value_at-agree, age_at-agree, IsDropAt-agree, IsLegal-agree, IsIllegal-agree}
use Rattle.ipa_lift.proofs.law_legal_depends_on_cut.Goals as goal

pub returns : goal.returns
returns c =
    let s = c.args.spec.now in
    let universe = c.args.universe.now.sizes in
    let base = c.args.base.now in
    let one = c.args.one.now in
    let two = c.args.two.now in
    let t = c.args.tx.now in
    let turned = Agree-turned one two t.cut c.requires in
    record {
      values = λ f. value_at-agree s base one two t.cut f c.requires;
      ages = λ f. age_at-agree s one two t.cut f c.requires;
      drops = λ n f. (IsDropAt-agree s base one two t.cut n f c.requires, IsDropAt-agree s base two one t.cut n f turned);
      legal = (IsLegal-agree s universe base one two t c.requires, IsLegal-agree s universe base two one t turned);
      illegal = λ reason. (
        IsIllegal-agree s universe base one two t reason c.requires,
        IsIllegal-agree s universe base two one t reason turned,
      );
    }
