-- Facts that stay, and facts that a remove takes.
use Rattle.std.proofs.Common.{◌≡◌, Bool, true, false, not, ◌&&◌, ◌||◌, List, [], ◌∷◌, ◌++◌, refl, sym, ◌∙◌, ap}
use Rattle.std.proofs.Math.Bool.{or_self}
use Rattle.std.specs.Ordering.{is_eq}
use Rattle.ipa_logic.specs.Facts.{has, fact_cmp}
use Rattle.ipa_logic.specs.FactLaws.{asked-same, same-turned, has-append}
use Rattle.ipa_logic.specs.declared.facts.Fact.{Fact}

-- whether the fact is this one, which passes the test or does not
is-this-taken : (b old : Bool) → old ≡ ((b && false) || old)
is-this-taken true old = refl
is-this-taken false old = refl

is-this-kept : (b old : Bool) → (b || old) ≡ ((b && true) || old)
is-this-kept true old = refl
is-this-kept false old = refl

module _ (taken : Fact → Bool) (x f : Fact) where
  -- a fact that is taken changes nothing
  pub taken-same : (old : Bool) → taken x ≡ true → old ≡ ((is_eq (fact_cmp x f) && not (taken f)) || old)
  taken-same old h = is-this-taken (is_eq (fact_cmp x f)) old
      ∙ ap (λ (b : Bool). b || old) (sym (asked-same (λ g. not (taken g)) x f ∙ ap (λ (b : Bool). is_eq (fact_cmp x f) && not b) h))

  -- a fact that is not taken is there
  pub kept-same : (old : Bool) → taken x ≡ false → (is_eq (fact_cmp x f) || old) ≡ ((is_eq (fact_cmp x f) && not (taken f)) || old)
  kept-same old h = is-this-kept (is_eq (fact_cmp x f)) old
      ∙ ap (λ (b : Bool). b || old) (sym (asked-same (λ g. not (taken g)) x f ∙ ap (λ (b : Bool). is_eq (fact_cmp x f) && not b) h))

-- the facts seen so far, and one more
kept-parts : (this seen stays : Bool) → ((this && stays) || (seen && stays)) ≡ ((seen || (this || false)) && stays)
kept-parts true true stays = or_self stays
kept-parts true false true = refl
kept-parts true false false = refl
kept-parts false true stays = refl
kept-parts false false stays = refl

pub kept-more : (seen : List Fact) (x f : Fact) (stays now old : Bool) → now ≡ ((is_eq (fact_cmp x f) && stays) || old) → old ≡ (has seen f && stays)
    → now ≡ (has (seen ++ x ∷ []) f && stays)
kept-more seen x f stays now old n o =
    n ∙ (ap (λ (b : Bool). (is_eq (fact_cmp x f) && stays) || b) o
    ∙ (kept-parts (is_eq (fact_cmp x f)) (has seen f) stays
    ∙ ap (λ (b : Bool). b && stays) (ap (λ (b : Bool). has seen f || (b || false)) (same-turned x f) ∙ sym (has-append seen (x ∷ []) f))))
