use Rattle.ipa_pairs.specs.Triples.{triple}
use Rattle.ipa_pairs.proofs.search.Search.is_narrow.Goals as goal

pub returns-in-Some : goal.returns-in-Some
returns-in-Some c =
    rw (← c.self.view_is)
    (λ narrow. narrow.narrow (triple c.in-Some.field-0.left c.in-Some.field-0.right c.in-Some.field-0.clause) c.in-Some.ensures.in_question c.in-Some.ensures.too_wide)
