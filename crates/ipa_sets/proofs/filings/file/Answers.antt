use Rattle.std.proofs.Common.{rules, sym, ◌∙◌, ◌≡◌, Some, ℕ, List, subst, inl, inr}
use Rattle.std.specs.Prelude.{IsOk}
use Rattle.std.specs.BTreeMap.{get}
use Rattle.ipa_history.specs.Histories.{IsMember}
use Rattle.ipa_sets.specs.Keys.{key_cmp}
use Rattle.ipa_sets.proofs.FilingLemmas.{filed_step, from_ok, put_known, some_filed, some_room}
use Rattle.ipa_sets.proofs.filings.file.Goals as goal

pub returns-in-Some-clause-filed : goal.returns-in-Some-clause-filed
returns-in-Some-clause-filed c =
    let found = c.in-Some.ensures.value in
    let was : get key_cmp c.args.lists.now c.args.key.now ≡ Some c.in-Some.numbers.now = search rules in
    let ok : IsOk c.append.result = elim c.requires.room [
      | inl room ↦ c.append.ensures.ready (some_room c.args.lists.now c.args.key.now c.args.origin c.in-Some.numbers.now was ∙ room)
      | inr there ↦ c.append.ensures.again (subst (λ (xs : List ℕ). IsMember xs c.args.number)
          (sym (some_filed c.args.lists.now c.args.key.now c.args.origin c.in-Some.numbers.now was)) there)
    ] in
    filed_step c.args.lists.now (c.get_mut.follows.lender c.append.new.self) c.args.key.now c.in-Some.numbers.now c.append.new.self
    c.args.origin c.args.number was (((c.get_mut.follows.holds c.append.new.self).3 (search rules)).0)
    (from_ok c.append.result ok c.append.ensures.ok) c.append.ensures.others

pub returns-in-Some-clause-keys : goal.returns-in-Some-clause-keys
returns-in-Some-clause-keys c =
    let found = c.in-Some.ensures.value in
    let was : get key_cmp c.args.lists.now c.args.key.now ≡ Some c.in-Some.numbers.now = search rules in
    put_known c.args.lists.now (c.get_mut.follows.lender c.append.new.self) c.args.key.now c.in-Some.numbers.now
    c.append.new.self (((c.get_mut.follows.holds c.append.new.self).3 (search rules)).0) was
