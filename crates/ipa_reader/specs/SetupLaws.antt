-- What documents and setups keep has one proof at most, so that they are the same where their parts are.
--
--   IsSetup-prop, IsKept-prop   of what a setup keeps, and of a base that is not refused
use Rattle.std.specs.Prelude.{◌≡◌, ℕ, ◌<◌, ◌≤◌, Bool, true, false, List, length, slice_get, Some}
use Rattle.std.proofs.Props.{props}
use Rattle.ipa_spec.specs.Faults.{has_repeat}
use Rattle.ipa_spec.specs.declared.names.Name.{Name}
use Rattle.ipa_spec.specs.declared.bounds.Bound.{Bound}
use Rattle.ipa_spec.specs.declared.clauses.Clause.{Clause}
use Rattle.ipa_spec.specs.declared.specification.Specification.{Specification}
use Rattle.ipa_logic.specs.Facts.{Universe, has}
use Rattle.ipa_logic.specs.Groups.{group_of, Within}
use Rattle.ipa_logic.specs.Truth.{instance_true, IsValues, KeepsClause, Keeps}
use Rattle.ipa_logic.specs.declared.facts.Fact.{Fact}
use Rattle.ipa_reader.specs.Arrangements.{elements_at}
use Rattle.ipa_reader.specs.Refusals.{request_count}
use Rattle.ipa_reader.specs.Setups.{element_count, size_list, instance_count, greatest_instance_count, IsSetup, IsKept}
use Rattle.ipa_reader.specs.declared.sessions.SessionWork.{SessionWork}

pub IsSetup-prop : (sizes : List ℕ) (elements : List (List Name)) (replicas : ℕ) (sessions : List SessionWork) →
    IsProp (IsSetup sizes elements replicas sessions)
IsSetup-prop sizes elements replicas sessions x y =
    let lists : IsProp (length elements ≤ 8) = hlevel props in
    let counts : IsProp (sizes ≡ size_list elements) = hlevel props in
    let apart : IsProp ((n : ℕ) → has_repeat (λ name. name) (elements_at elements n) ≡ false) = hlevel props in
    let sort_sizes : IsProp ((n : ℕ) → element_count elements n ≤ 256) = hlevel props in
    let some_replica : IsProp (0 < replicas) = hlevel props in
    let replica_count : IsProp (replicas ≤ 8) = hlevel props in
    let session_count : IsProp (length sessions ≤ 16) = hlevel props in
    let session_replicas : IsProp
    ((n : ℕ) (work : SessionWork) → slice_get sessions n ≡ Some work → work.replica < replicas) = hlevel props in
    let requests : IsProp (request_count sessions ≤ 16384) = hlevel props in
    λ i. record {
      lists = lists x.lists y.lists i;
      counts = counts x.counts y.counts i;
      apart = apart x.apart y.apart i;
      sort_sizes = sort_sizes x.sort_sizes y.sort_sizes i;
      some_replica = some_replica x.some_replica y.some_replica i;
      replica_count = replica_count x.replica_count y.replica_count i;
      session_count = session_count x.session_count y.session_count i;
      session_replicas = session_replicas x.session_replicas y.session_replicas i;
      requests = requests x.requests y.requests i;
    }

KeepsClause-prop : (s : Specification) (sizes : Universe) (t : Fact → Bool) (c : Clause) →
    IsProp (KeepsClause s sizes t c)
KeepsClause-prop s sizes t c x y =
    let instances : IsProp ((values : List ℕ) → IsValues sizes c values → instance_true s t values c ≡ true) =
    hlevel props in
    λ i. record { instances = instances x.instances y.instances i }

Keeps-prop : (s : Specification) (sizes : Universe) (t : Fact → Bool) → IsProp (Keeps s sizes t)
Keeps-prop s sizes t x y = λ i. record {
  clauses = λ k c e. KeepsClause-prop s sizes t c (x.clauses k c e) (y.clauses k c e) i;
}

Within-prop : (bounds : List Bound) (state : List Fact) → IsProp (Within bounds state)
Within-prop bounds state x y =
    let groups : IsProp ((n : ℕ) (b : Bound) (key : List ℕ) → slice_get bounds n ≡ Some b → length (group_of b key state) ≤ b.most) = hlevel props in
    λ i. record { groups = groups x.groups y.groups i }

pub IsKept-prop : (s : Specification) (sizes : Universe) (state : List Fact) → IsProp (IsKept s sizes state)
IsKept-prop s sizes state x y =
    let instances : IsProp (instance_count s sizes ≤ greatest_instance_count) = hlevel props in
    λ i. record {
      instances = instances x.instances y.instances i;
      clauses = Keeps-prop s sizes (has state) x.clauses y.clauses i;
      bounds = Within-prop s.bounds state x.bounds y.bounds i;
    }
