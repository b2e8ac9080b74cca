-- What a document gives is a setting for journals.
--
--   document_setting   its specification and setup are one
--   setup_counted      its sessions have few requests
use Rattle.std.proofs.Common.{◌≡◌, ℕ, zero, suc, ◌≤◌, List, [], ◌∷◌, length, map, Some, refl, ap, subst, arith}
use Rattle.std.specs.List.{slice_get}
use Rattle.std.proofs.lemmas.List.Sums.{sum_by-cons}
use Rattle.std.proofs.lemmas.Option.{same_Some}
use Rattle.ipa_spec.specs.FaultlessFits.{IsFit-from_faultless}
use Rattle.ipa_spec.specs.FoundLaws.{map_at}
use Rattle.ipa_spec.specs.Limits.{IsFaultless}
use Rattle.ipa_spec.specs.declared.predicates.Predicate.{Predicate}
use Rattle.ipa_spec.specs.declared.names.Name.{Name}
use Rattle.ipa_logic.specs.declared.facts.Request.{Request}
use Rattle.ipa_names.specs.Meaning.{predicate_of}
use Rattle.ipa_names.specs.declared.declared.Declared.{Declared}
use Rattle.ipa_reader.specs.Documents.{ReadsAs}
use Rattle.ipa_reader.specs.Refusals.{request_count}
use Rattle.ipa_reader.specs.Setups.{IsSetup}
use Rattle.ipa_reader.specs.Standings.{standing_of}
use Rattle.ipa_reader.specs.declared.document.Document.{Document}
use Rattle.ipa_reader.specs.declared.sessions.SessionWork.{SessionWork}
use Rattle.ipa_journal_laws.specs.Writable.{IsSetting, AreCounted}

-- a predicate's list of sorts has three places
three_places : (d : Declared) (k : ℕ) (p : Predicate) → slice_get (map (predicate_of d) d.predicates) k ≡ Some p → length p.sorts ≡ 3
three_places d k p e = let at = map_at (predicate_of d) d.predicates k p e in subst (λ q. length q.sorts ≡ 3) at.2 refl

pub document_setting : (bytes : List ℕ) (document : Document) → ReadsAs bytes document → IsFaultless document.spec →
    IsSetup document.setup.universe.sizes document.setup.elements document.setup.replicas document.setup.sessions →
    IsSetting document.spec document.setup.universe.sizes document.setup.elements (length document.setup.sessions)
document_setting bytes document reads faultless setup =
    let d : Declared = (standing_of reads.forms).declared in
    let fit = IsFit-from_faultless document.spec faultless in
    let said : document.spec.predicates ≡ map (predicate_of d) d.predicates = ap (λ s. s.predicates) reads.document_is.spec in
    record {
      faultless = faultless;
      places = λ k p at.
          let three = three_places d k p (subst (λ ps. slice_get ps k ≡ Some p) said at) in
          omega (arith, three, fit.arities k p at);
      sizes_are = setup.counts;
      apart = setup.apart;
      sessions = setup.session_count;
    }

-- a list of works with fewer requests than a bound has fewer of each
each_few : (works : List SessionWork) (i : ℕ) (own : List Request) →
    slice_get (map (λ (w : SessionWork). w.requests) works) i ≡ Some own → length own ≤ request_count works
each_few [] i own e = cc
each_few (w ∷ works) zero own e =
    let same : w.requests ≡ own = same_Some w.requests own e in
    omega (arith, sum_by-cons (λ (x : SessionWork). length x.requests) w works, ap length same)
each_few (w ∷ works) (suc i) own e =
    omega (arith, sum_by-cons (λ (x : SessionWork). length x.requests) w works, each_few works i own e)

pub setup_counted : (sizes : List ℕ) (elements : List (List Name)) (replicas : ℕ) (works : List SessionWork) →
    IsSetup sizes elements replicas works → AreCounted (map (λ (w : SessionWork). w.requests) works)
setup_counted sizes elements replicas works setup = record {
  each = λ i own at. omega (arith, each_few works i own at, setup.requests);
}
