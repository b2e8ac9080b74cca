use Rattle.std.proofs.Common.{ap, ◌∙◌}
use Rattle.std.specs.Prelude.{IfOk}
use Rattle.rayon.proofs.ToStd.{slice-AllZip}
use Rattle.ipa_pairs.specs.Collecting.{IsPart}
use Rattle.ipa_pairs.proofs.PartsLemmas.{collected}
use Rattle.ipa_pairs.proofs.parts.parts_at.Goals as goal

pub returns : goal.returns
returns g c =
    let P = IsPart c.args.spec.now in
    let got = c.in_ok-parts.ensures in
    let slice = ap (λ it. it.base.slice.now) c.map.ensures.base
    ∙ ap (λ it. it.slice.now) c.with_min_len.ensures.base
    ∙ c.par_iter.ensures in
    let calls = rw c.map.ensures.f at got.1.2 in
    let each = slice-AllZip got.1.0 c.args.places.now (got.1.1 ∙ slice) (λ x r. IfOk r (P x)) got.0 calls in
    collected (λ v. v.items) P c.args.places.now got.0 _ each c.in_ok-parts.parts got.2
