-- Where no literal stands.
use Rattle.std.proofs.Common.{◌≡◌, List, ◌∷◌, codes}
use Rattle.ipa_forms.specs.Words.{Word, text}
use Rattle.ipa_forms.specs.Forms.{name_alone, literal}
use Rattle.ipa_forms.specs.Parts.{applied, HasNone}
use Rattle.ipa_forms.specs.MemberLaws.{not_name}
use Rattle.ipa_forms.specs.declared.forms.LiteralForm.TheVariants.{Holds, Fails, Same, Differ}

-- behind `not` stands no atom, so no literal stands here
pub none_fails : (all rest : List Word) → all ≡ text (codes "not") ∷ rest → HasNone (applied name_alone) rest → HasNone literal all
none_fails all rest e none (Holds a) left h = not_name a.predicate (cc)
none_fails all rest e none (Fails a) left h = none (a.predicate, a.args) left (cc)
none_fails all rest e none (Same x y) left h = not_name x (cc)
none_fails all rest e none (Differ x y) left h = not_name x (cc)
