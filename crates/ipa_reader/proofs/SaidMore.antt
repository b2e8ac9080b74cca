-- What is said fits with one more line.
--
--   said_nothing    where nothing is said
--   said_more       a line that says no fact and no request
--   said_elements   more elements of a sort
--   said_fact, said_session, said_request   one more fact, session or request
use Rattle.std.proofs.Common.{◌≡◌, ℕ, Bool, true, false, ◌||◌, List, [], ◌∷◌, ◌++◌, sym, subst}
use Rattle.std.proofs.lemmas.Bool.{or_parts, false≢true}
use Rattle.ipa_spec.specs.declared.names.Name.{Name}
use Rattle.ipa_logic.specs.Facts.{IsFact}
use Rattle.ipa_logic.specs.Requests.{IsRequest}
use Rattle.ipa_logic.specs.declared.facts.Fact.{Fact}
use Rattle.ipa_logic.specs.declared.facts.Request.{Request}
use Rattle.ipa_names.specs.Naming.{with_last}
use Rattle.ipa_names.specs.Meaning.{specification_of}
use Rattle.ipa_names.specs.ListLaws.{each_push, each_last, each_weaken}
use Rattle.ipa_names.specs.Soundness.{EachOf}
use Rattle.ipa_names.specs.declared.declared.Declared.{Declared}
use Rattle.ipa_reader.specs.Arrangements.{with_elements, with_request}
use Rattle.ipa_reader.specs.Setups.{size_list}
use Rattle.ipa_reader.specs.Soundness.{IsFittingSaid}
use Rattle.ipa_reader.specs.declared.sessions.SessionWork.{SessionWork}
use Rattle.ipa_reader.specs.declared.standing.Arranged.{Arranged}
use Rattle.ipa_reader.proofs.SaidFits.{IsLarger, fact_larger, request_larger}

no_items : {X : Type 0} (P : X → Type 0) (xs : List X) → xs ≡ [] → EachOf P xs
no_items P xs e = subst (EachOf P) (sym e) (record { at = λ k x f. cc })

-- a setup line stands
stands : (b : Bool) → (b || true) ≡ false → ⊥
stands b e = false≢true (sym (or_parts b true e).1)

pub said_nothing : (d : Declared) (a : Arranged) (b : Bool) → a.facts ≡ [] → a.sessions ≡ [] → IsFittingSaid d a b
said_nothing d a b facts sessions = record {
  facts = no_items _ a.facts facts;
  requests = no_items _ a.sessions sessions;
  no_fact = λ e. facts;
  no_session = λ e. sessions;
}

pub said_more : (d : Declared) (a : Arranged) (b : Bool) → IsFittingSaid d a b → (now : ℕ) → IsFittingSaid d (record a { replicas = now }) (b || true)
said_more d a b h now = record {
  facts = h.facts;
  requests = h.requests;
  no_fact = λ e. absurd (stands b e);
  no_session = λ e. absurd (stands b e);
}

pub said_elements : (d : Declared) (a : Arranged) (sort : Name) (names : List Name) (b : Bool) → IsLarger (size_list a.elements) (size_list (with_elements d a.elements sort names)) → IsFittingSaid d a b → IsFittingSaid d (record a { elements = with_elements d a.elements sort names }) (b || true)
said_elements d a sort names b grows h = record {
  facts = each_weaken a.facts h.facts (λ f fits. fact_larger (specification_of d) (size_list a.elements) (size_list (with_elements d a.elements sort names)) grows f fits);
  requests = each_weaken a.sessions h.requests
      (λ work each. each_weaken work.requests each (λ r fits. request_larger (specification_of d) (size_list a.elements) (size_list (with_elements d a.elements sort names)) grows r fits));
  no_fact = λ e. absurd (stands b e);
  no_session = λ e. absurd (stands b e);
}

pub said_fact : (d : Declared) (a : Arranged) (fact : Fact) (b : Bool) → IsFact (specification_of d) (size_list a.elements) fact → IsFittingSaid d a b → IsFittingSaid d (record a { facts = a.facts ++ fact ∷ [] }) (b || true)
said_fact d a fact b fits h = record {
  facts = each_push a.facts fact h.facts fits;
  requests = h.requests;
  no_fact = λ e. absurd (stands b e);
  no_session = λ e. absurd (stands b e);
}

pub said_session : (d : Declared) (a : Arranged) (work : SessionWork) (b : Bool) → work.requests ≡ [] → IsFittingSaid d a b → IsFittingSaid d (record a { sessions = a.sessions ++ work ∷ [] }) (b || true)
said_session d a work b none h = record {
  facts = h.facts;
  requests = each_push a.sessions work h.requests (no_items _ work.requests none);
  no_fact = λ e. absurd (stands b e);
  no_session = λ e. absurd (stands b e);
}

pub said_request : (d : Declared) (a : Arranged) (asked : Request) (b : Bool) → IsRequest (specification_of d) (size_list a.elements) asked → IsFittingSaid d a b → IsFittingSaid d (record a { sessions = with_last (with_request asked) a.sessions }) (b || true)
said_request d a asked b fits h = record {
  facts = h.facts;
  requests = each_last (with_request asked) a.sessions h.requests (λ work last each. each_push work.requests asked each fits);
  no_fact = λ e. absurd (stands b e);
  no_session = λ e. absurd (stands b e);
}
