-- Places in fronts of lists, and in filtered lists.
--
--   front_at, at_front     what stands in a front
--   take_take              a front of a front
--   map_at                 what stands in a mapped list
--   filter_place           an item that passes stands behind those before it that pass
--   Placed, place_filter   and what stands in a filtered list is such an item
--   last_filter            it is the last of the front that ends with it
--   prefix_filter          what a filtered front has, the filtered list has in the same place
--   count_step             how many pass, one item further
use Rattle.std.proofs.Common.{◌≡◌, ℕ, zero, suc, ◌+◌, ◌<◌, ◌≤◌, Bool, true, false, cond, List, [], ◌∷◌, length, filter, map, Some, None, slice_get, take, refl, sym, ◌∙◌, ap, arith}
use Rattle.std.proofs.lemmas.List.Filters.{length-filter_more}
use Rattle.std.proofs.lemmas.Option.{slice_get_within, get_or_from_slice_get}

-- what stands in a front stands in the list, before its end
pub front_at : {X : Type 0} (xs : List X) (k j : ℕ) (x : X) → slice_get (take k xs) j ≡ Some x →
    (j < k) × (slice_get xs j ≡ Some x)
front_at [] zero j x e = absurd (let n : None ≡ Some x = e in cc)
front_at [] (suc k) j x e = absurd (let n : None ≡ Some x = e in cc)
front_at (y ∷ ys) zero j x e = absurd (let n : None ≡ Some x = e in cc)
front_at (y ∷ ys) (suc k) zero x e = (omega arith, e)
front_at (y ∷ ys) (suc k) (suc j) x e = let r = front_at ys k j x e in (omega (arith, r.0), r.1)

-- and the other way
pub at_front : {X : Type 0} (xs : List X) (k j : ℕ) (x : X) → j < k → slice_get xs j ≡ Some x →
    slice_get (take k xs) j ≡ Some x
at_front [] k j x l e = absurd (let n : None ≡ Some x = e in cc)
at_front (y ∷ ys) zero j x l e = absurd (omega arith)
at_front (y ∷ ys) (suc k) zero x l e = e
at_front (y ∷ ys) (suc k) (suc j) x l e = at_front ys k j x (omega arith) e

-- a front of a front
pub take_take : {X : Type 0} (xs : List X) (j k : ℕ) → j ≤ k → take j (take k xs) ≡ take j xs
take_take [] zero zero l = refl
take_take [] zero (suc k) l = refl
take_take [] (suc j) zero l = refl
take_take [] (suc j) (suc k) l = refl
take_take (y ∷ ys) zero zero l = refl
take_take (y ∷ ys) zero (suc k) l = refl
take_take (y ∷ ys) (suc j) zero l = absurd (omega arith)
take_take (y ∷ ys) (suc j) (suc k) l = ap (λ (zs : List _). y ∷ zs) (take_take ys j k (omega arith))

-- an item of a mapped list is that of an item
pub record Mapped {X Y : Type 0} (f : X → Y) (xs : List X) (j : ℕ) (y : Y) : Type 0 where
  pub item : X
  pub at : slice_get xs j ≡ Some item
  pub same : f item ≡ y

pub map_at : {X Y : Type 0} (f : X → Y) (xs : List X) (j : ℕ) (y : Y) → slice_get (map f xs) j ≡ Some y → Mapped f xs j y
map_at f [] j y e = absurd (let n : None ≡ Some y = e in cc)
map_at f (x ∷ xs) zero y e = record { item = x; at = refl; same = (let s : Some (f x) ≡ Some y = e in cc) }
map_at f (x ∷ xs) (suc j) y e = let r = map_at f xs j y e in record { item = r.item; at = r.at; same = r.same }

pub at_map : {X Y : Type 0} (f : X → Y) (xs : List X) (j : ℕ) (x : X) → slice_get xs j ≡ Some x →
    slice_get (map f xs) j ≡ Some (f x)
at_map f [] j x e = absurd (let n : None ≡ Some x = e in cc)
at_map f (y ∷ ys) zero x e = (let s : Some y ≡ Some x = e in let t : y ≡ x = cc in ap (λ (z : _). Some (f z)) t)
at_map f (y ∷ ys) (suc j) x e = at_map f ys j x e

-- an item that passes stands behind those before it that pass
pub filter_place : {X : Type 0} (p : X → Bool) (xs : List X) (k : ℕ) (x : X) → slice_get xs k ≡ Some x → p x ≡ true →
    slice_get (filter p xs) (length (filter p (take k xs))) ≡ Some x
filter_place p [] k x e h = absurd (let n : None ≡ Some x = e in cc)
filter_place p (y ∷ ys) zero x e h =
    let s : Some y ≡ Some x = e in
    let t : y ≡ x = cc in
    let passes : p y ≡ true = ap p t ∙ h in
    rw passes s
filter_place p (y ∷ ys) (suc k) x e h = by_test (p y) refl (filter_place p ys k x e h)
  where
    by_test : (b : Bool) → p y ≡ b → slice_get (filter p ys) (length (filter p (take k ys))) ≡ Some x →
        slice_get (cond b (y ∷ filter p ys) (filter p ys)) (length (cond b (y ∷ filter p (take k ys)) (filter p (take k ys))))
        ≡ Some x
    by_test true g r = r
    by_test false g r = r

-- an item that passes, behind so many others that do
pub record Placed {X : Type 0} (p : X → Bool) (xs : List X) (j : ℕ) (x : X) : Type 0 where
  pub place : ℕ
  pub at : slice_get xs place ≡ Some x
  pub passes : p x ≡ true
  pub before : length (filter p (take place xs)) ≡ j

-- what stands in a filtered list is such an item
pub place_filter : {X : Type 0} (p : X → Bool) (xs : List X) (j : ℕ) (x : X) → slice_get (filter p xs) j ≡ Some x →
    Placed p xs j x
place_filter p [] j x e = absurd (let n : None ≡ Some x = e in cc)
place_filter p (y ∷ ys) j x e = by_test (p y) refl j e (λ i f. place_filter p ys i x f)
  where
    by_test : (b : Bool) → p y ≡ b → (j : ℕ) → slice_get (cond b (y ∷ filter p ys) (filter p ys)) j ≡ Some x →
        ((i : ℕ) → slice_get (filter p ys) i ≡ Some x → Placed p ys i x) → Placed p (y ∷ ys) j x
    by_test true g zero e rest =
        let s : Some y ≡ Some x = e in
        let t : y ≡ x = cc in
        record { place = 0; at = s; passes = ap p (sym t) ∙ g; before = refl }
    by_test true g (suc j) e rest =
        let r = rest j e in
        record { place = suc r.place; at = r.at; passes = r.passes; before = rw g (ap suc r.before) }
    by_test false g j e rest =
        let r = rest j e in
        record { place = suc r.place; at = r.at; passes = r.passes; before = rw g r.before }

-- how many pass, one item further
pub count_step : {X : Type 0} (p : X → Bool) (xs : List X) (k : ℕ) (x : X) → slice_get xs k ≡ Some x →
    length (filter p (take (k + 1) xs)) ≡ length (filter p (take k xs)) + cond (p x) 1 0
count_step p xs k x e =
    length-filter_more p xs k x (slice_get_within xs k x e)
    ∙ ap (λ (z : _). length (filter p (take k xs)) + cond (p z) 1 0) (get_or_from_slice_get xs k x x e)

-- what a filtered front has, the filtered list has in the same place
pub prefix_filter : {X : Type 0} (p : X → Bool) (xs : List X) (k j : ℕ) (x : X) →
    slice_get (filter p (take k xs)) j ≡ Some x → slice_get (filter p xs) j ≡ Some x
prefix_filter p xs k j x e =
    let r = place_filter p (take k xs) j x e in
    let there = front_at xs k r.place x r.at in
    let same : take r.place (take k xs) ≡ take r.place xs = take_take xs r.place k (omega (arith, there.0)) in
    let count : length (filter p (take r.place xs)) ≡ j = ap (λ (ys : List _). length (filter p ys)) (sym same) ∙ r.before in
    ap (slice_get (filter p xs)) (sym count) ∙ filter_place p xs r.place x there.1 r.passes

-- it is the last of the front that ends with it
pub last_filter : {X : Type 0} (p : X → Bool) (xs : List X) (k : ℕ) (x : X) → slice_get xs k ≡ Some x → p x ≡ true →
    slice_get (filter p (take (k + 1) xs)) (length (filter p (take k xs))) ≡ Some x
last_filter p xs k x e h =
    ap (λ (ys : List _). slice_get (filter p (take (k + 1) xs)) (length (filter p ys)))
    (sym (take_take xs k (k + 1) (omega arith)))
    ∙ filter_place p (take (k + 1) xs) k x (at_front xs (k + 1) k x (omega arith) e) h
