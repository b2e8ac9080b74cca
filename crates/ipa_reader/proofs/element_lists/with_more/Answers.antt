use Rattle.ipa_reader.proofs.MoreLemmas.{with_more-put}
use Rattle.ipa_reader.proofs.element_lists.with_more.Goals as goal

pub returns : goal.returns
returns c =
    let put = with_more-put c.args.number c.args.names.now c.in_ok-lists.lists.items c.remove-own.result c.in_ok-lists.ensures.within c.remove-own.ensures.value in
    let more = c.in_ok-lists.ensures.more c.args.names.now in
    cc (put, more, c.in_ok-insert.ensures.items, c.remove-own.ensures.items, c.in_ok-grown.ensures, c.from_vec.ensures, c.into_vec.ensures)
