-- Laws of what a filter leaves, and of the first of it.
--
--   filter-both      two filters are one
--   find-both        the first of a filtered list
--   find-turned      both ways of filtering find the same
--   filter-filter    a filter behind a weaker one
--   filter-behind    a weaker filter behind it leaves all
--   find-among       what a walk through the facts that pass a test finds
--   find-nowhere     what it does not find
use Rattle.std.proofs.Common.{◌≡◌, Bool, true, false, cond, ◌&&◌, List, [], ◌∷◌, filter, find, Option, Some, None, refl, sym, ◌∙◌, ap}
use Rattle.std.proofs.lemmas.Bool.{false≢true}
use Rattle.std.proofs.Math.Bool.{and_comm}
use Rattle.ipa_logic.specs.declared.facts.Fact.{Fact}

-- two filters are one
pub filter-both : (p q : Fact → Bool) (s : List Fact) → filter q (filter p s) ≡ filter (λ f. p f && q f) s
filter-both p q [] = refl
filter-both p q (x ∷ xs) = here (p x) (filter-both p q xs)
  where
    here : (a : Bool) → filter q (filter p xs) ≡ filter (λ f. p f && q f) xs →
        filter q (cond a (x ∷ filter p xs) (filter p xs))
        ≡ cond (a && q x) (x ∷ filter (λ f. p f && q f) xs) (filter (λ f. p f && q f) xs)
    here true h = ap (λ (t : List Fact). cond (q x) (x ∷ t) t) h
    here false h = h

-- the first of a filtered list
pub find-both : (q r : Fact → Bool) (s : List Fact) → find q (filter r s) ≡ find (λ f. r f && q f) s
find-both q r [] = refl
find-both q r (x ∷ xs) = here (r x) (find-both q r xs)
  where
    here : (b : Bool) → find q (filter r xs) ≡ find (λ f. r f && q f) xs →
        find q (cond b (x ∷ filter r xs) (filter r xs)) ≡ cond (b && q x) (Some x) (find (λ f. r f && q f) xs)
    here true e = ap (λ (o : Option Fact). cond (q x) (Some x) o) e
    here false e = e

-- both ways of filtering find the same
pub find-turned : (q r : Fact → Bool) (s : List Fact) → find q (filter r s) ≡ find r (filter q s)
find-turned q r s =
    find-both q r s ∙ (ap (λ (t : Fact → Bool). find t s) (λ i f. and_comm (r f) (q f) i) ∙ sym (find-both r q s))

module _ (q r : Fact → Bool) (weaker : (f : Fact) → q f ≡ true → r f ≡ true) where
  -- a weaker test beside another says nothing more
  implied : (f : Fact) → (r f && q f) ≡ q f
  implied f = here (r f) (q f) (weaker f)
    where
      here : (a b : Bool) → (b ≡ true → a ≡ true) → (a && b) ≡ b
      here true b h = refl
      here false true h = absurd (false≢true (h refl))
      here false false h = refl

  -- a filter behind a weaker one
  pub filter-filter : (s : List Fact) → filter q (filter r s) ≡ filter q s
  filter-filter s = filter-both r q s ∙ ap (λ (t : Fact → Bool). filter t s) (λ i f. implied f i)

  -- a weaker filter behind it leaves all
  pub filter-behind : (s : List Fact) → filter r (filter q s) ≡ filter q s
  filter-behind s =
      filter-both q r s ∙ ap (λ (t : Fact → Bool). filter t s) (λ i f. (and_comm (q f) (r f) ∙ implied f) i)

module _ (k l : Fact → Bool) (s left : List Fact) (walk : find k left ≡ find k (filter l s)) where
  -- what a walk through the facts that pass l finds
  pub find-among : (f : Fact) (rest : List Fact) → left ≡ f ∷ rest → k f ≡ true → Some f ≡ find l (filter k s)
  find-among f rest e h =
      sym (ap (λ (c : Bool). cond c (Some f) (find k rest)) h) ∙ (sym (ap (find k) e) ∙ (walk ∙ find-turned k l s))

  -- where nothing is left of it, it finds none
  pub find-nowhere : left ≡ [] → None ≡ find l (filter k s)
  find-nowhere e = sym (ap (find k) e) ∙ (walk ∙ find-turned k l s)
