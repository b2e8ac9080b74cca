use Rattle.std.proofs.Common.{◌≡◌, List, ◌++◌, get_or, ◌∙◌, ap}
use Rattle.std.specs.Prelude.{slice_set}
use Rattle.std.proofs.lemmas.Option.{get_or_from_slice_get}
use Rattle.ipa_history.specs.declared.outcomes.Fate.{Fate}
use Rattle.ipa_schedule.proofs.Passing.{set_twice, on_noted}
use Rattle.ipa_schedule.proofs.sending.note.Goals as goal

pub returns-clause-noted : goal.returns-clause-noted
returns-clause-noted c given at =
    let fates = c.args.fates.now in
    let link = c.args.link in
    let more = c.args.more.now in
    let all_is : c.into_vec-all.result.items ≡ fates = c.into_vec-all.ensures ∙ c.replace.ensures.value in
    let given_is : c.into_vec-given.result.items ≡ given = c.into_vec-given.ensures ∙ c.replace-2.ensures.value
    ∙ c.index_mut.ensures.value ∙ ap (λ (xs : List (List Fate)). get_or xs link c.index_mut.result.now) all_is
    ∙ get_or_from_slice_get fates link given c.index_mut.result.now at in
    on_noted c.extend_from_slice-noted.result c.extend_from_slice-noted.new.self.items c.into_vec-given.result.items
    c.as_slice.result.now _ c.extend_from_slice-noted.ensures.items (λ is.
    let list_is : c.from_vec.result ≡ given ++ more = c.from_vec.ensures ∙ is
    ∙ ap (λ (xs : List Fate). xs ++ c.as_slice.result.now) given_is
    ∙ ap (λ (ys : List Fate). given ++ ys) c.as_slice.ensures in
    c.from_vec-2.ensures ∙ set_twice c.into_vec-all.result.items link c.replace-2.new.dest c.from_vec.result
    ∙ ap (λ (xs : List (List Fate)). slice_set xs link c.from_vec.result) all_is
    ∙ ap (λ (x : List Fate). slice_set fates link x) list_is)
