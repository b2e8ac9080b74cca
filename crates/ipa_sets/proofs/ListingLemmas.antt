-- Facts that pass a test.
use Rattle.std.proofs.Common.{◌≡◌, ℕ, ◌+◌, ◌<◌, Bool, true, false, ◌&&◌, ◌||◌, List, [], ◌∷◌, length, take, refl, sym, ◌∙◌, ap}
use Rattle.std.specs.Prelude.{slice_index_or}
use Rattle.std.specs.Ordering.{is_eq}
use Rattle.std.proofs.lemmas.List.{take_more}
use Rattle.ipa_logic.specs.Facts.{fact_cmp, has, IsRising}
use Rattle.ipa_logic.specs.FactLaws.{has-append, same-turned, asked-same, same_rising}
use Rattle.ipa_logic.specs.declared.facts.Fact.{Fact}
use Rattle.ipa_sets.specs.Listings.{listed, has-listed, rising-listed}

keeps-true : (b old : Bool) → (b || old) ≡ ((b && true) || old)
keeps-true true old = refl
keeps-true false old = refl

keeps-false : (b old : Bool) → old ≡ ((b && false) || old)
keeps-false true old = refl
keeps-false false old = refl

-- a fact is put in where it passes, and else nothing changes
pub put-passing : (test : Fact → Bool) (x f : Fact) (old : Bool) → test x ≡ true →
    (is_eq (fact_cmp x f) || old) ≡ ((is_eq (fact_cmp x f) && test f) || old)
put-passing test x f old h = keeps-true (is_eq (fact_cmp x f)) old
    ∙ ap (λ (b : Bool). b || old) (sym (asked-same test x f ∙ ap (λ (b : Bool). is_eq (fact_cmp x f) && b) h))

pub put-failing : (test : Fact → Bool) (x f : Fact) (old : Bool) → test x ≡ false →
    old ≡ ((is_eq (fact_cmp x f) && test f) || old)
put-failing test x f old h = keeps-false (is_eq (fact_cmp x f)) old
    ∙ ap (λ (b : Bool). b || old) (sym (asked-same test x f ∙ ap (λ (b : Bool). is_eq (fact_cmp x f) && b) h))

either-passes : (q s t o : Bool) → ((q && t) || ((s && t) || o)) ≡ (((s || (q || false)) && t) || o)
either-passes true true true o = refl
either-passes true true false o = refl
either-passes true false true o = refl
either-passes true false false o = refl
either-passes false true true o = refl
either-passes false true false o = refl
either-passes false false t o = refl

-- one more of the facts that are put in
pub passing-more : (test : Fact → Bool) (xs : List Fact) (i : ℕ) (d f : Fact) (now mid old : Bool) → i < length xs
    → now ≡ ((is_eq (fact_cmp (slice_index_or xs i d) f) && test f) || mid) → mid ≡ ((has (take i xs) f && test f) || old)
    → now ≡ ((has (take (i + 1) xs) f && test f) || old)
passing-more test xs i d f now mid old l n m = n
    ∙ (ap (λ (b : Bool). (is_eq (fact_cmp (slice_index_or xs i d) f) && test f) || b) m
    ∙ (either-passes (is_eq (fact_cmp (slice_index_or xs i d) f)) (has (take i xs) f) (test f) old
    ∙ (ap (λ (b : Bool). ((has (take i xs) f || (b || false)) && test f) || old) (same-turned (slice_index_or xs i d) f)
    ∙ ap (λ (b : Bool). (b && test f) || old)
    (sym (has-append (take i xs) (slice_index_or xs i d ∷ []) f) ∙ ap (λ (s : List Fact). has s f) (sym (take_more xs i d l))))))

both-pass : (a b t : Bool) → ((b && t) || ((a && t) || false)) ≡ ((a || b) && t)
both-pass true true true = refl
both-pass true true false = refl
both-pass true false true = refl
both-pass true false false = refl
both-pass false true true = refl
both-pass false true false = refl
both-pass false false t = refl

-- those of two lists that pass, put into the empty state
pub state-listed : (test : Fact → Bool) (one other mid state : List Fact) → IsRising one → IsRising other → IsRising state
    → ((f : Fact) → has mid f ≡ ((has one f && test f) || false))
    → ((f : Fact) → has state f ≡ ((has other f && test f) || has mid f)) → state ≡ listed test one other
state-listed test one other mid state r q rises first second = same_rising state (listed test one other) rises
    (rising-listed test one other r q)
    (λ f. second f ∙ (ap (λ (b : Bool). (has other f && test f) || b) (first f)
    ∙ (both-pass (has one f) (has other f) (test f) ∙ sym (has-listed test one other f))))

-- a fact that is in neither list, or in one of them, is listed as it passes
pub listed-not : (test : Fact → Bool) (one other : List Fact) (f : Fact) (b : Bool) → b ≡ (has one f || has other f) → b ≡ false
    → false ≡ has (listed test one other) f
listed-not test one other f b e h = sym (has-listed test one other f ∙ ap (λ (c : Bool). c && test f) (sym e ∙ h))

pub listed-passes : (test : Fact → Bool) (one other : List Fact) (f : Fact) (b : Bool) → b ≡ (has one f || has other f) → b ≡ true
    → (r : Bool) → r ≡ test f → r ≡ has (listed test one other) f
listed-passes test one other f b e h r p = p ∙ sym (has-listed test one other f ∙ ap (λ (c : Bool). c && test f) (sym e ∙ h))
