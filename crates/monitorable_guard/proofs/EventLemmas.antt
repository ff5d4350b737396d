-- The order of events, and the events that a search finds.
use Rattle.monitorable_guard.proofs.Vocabulary.{◌+◌, ◌-◌, ◌≤◌, get_or, ◌≡◌, ℕ, zero, suc, true, false, List, [], ◌∷◌, take, drop, map, Option, None, Some, arith, take_rest, same_Some}
use Rattle.monitorable_guard.proofs.Vocabulary.{IsPartitionPoint, is_le, tied_between, Extends, Result, IsTrue, is_ok, length, Contains, ◌↔◌, refl, sym, ap, subst, ◌∙◌, Bor, IsTotalOrder}
use Rattle.monitorable_guard.proofs.Vocabulary.{nat_cmp_total, on_total, then_total, IsAntisymmetric, nat_cmp-IsAntisymmetric, IsPermutation, IsSortedByKey, IsSearchInRange, IsBinarySearchResult}
use Rattle.monitorable_guard.proofs.Vocabulary.{nat_cmp, ordering_then, is_lt, Ordering, Greater, IsPermutation-map, IsPermutation-sym, Contains-permutation, Valuation, value_of_term, values_of_terms}
use Rattle.monitorable_guard.proofs.Vocabulary.{Event, NameId, Term, Value, listed_values, values_listed, same_name, IsEventAmong, key_cmp, row_cmp_total, key_cmp_total, key_cmp_exact, same_order}
use Rattle.monitorable_guard.proofs.Vocabulary.{found_tells, Contains-map, Contains-from_map, name_of, key_of, event_cmp, shown_events, IsByName}
use Rattle.monitorable_guard.specs.machine.EventOrder.{BeginAsKnown, leading_known}
use Rattle.enf_data.proofs.EventOrder.{event_order_total}
use Rattle.enf_data.proofs.RisingLists.{sorted_from_strict}
use Rattle.enf_data.specs.machine.EventSets.{AreRisingEvents, event_order}
use Rattle.enf_data.specs.meaning.Values.{value_cmp, row_cmp}
use Rattle.std.proofs.lemmas.List.{get_or-map, length-map}
use Rattle.std.specs.Prelude.{◌<◌}
use Rattle.monitorable_guard.proofs.MatchLemmas.{value_of-extends}
use Rattle.std.specs.declared.cmp.Ordering.TheVariants.{Less, Equal}

pub event_cmp_total : IsTotalOrder event_cmp
event_cmp_total = then_total (on_total (λ k. k.0) nat_cmp_total) (on_total (λ k. k.1) row_cmp_total)

-- what does not fall by names and arguments does not by names
first_falls : (r s : Ordering) → is_lt (ordering_then r s) ≡ false → is_lt r ≡ false
first_falls Less s e = e
first_falls Equal s e = refl
first_falls Greater s e = refl

pub by_names : (listed : List (Bor Event)) → IsSortedByKey key_of event_cmp listed → IsSortedByKey name_of nat_cmp listed
by_names listed order k d low within = first_falls _ _ (order k d low within)

-- ---- a search by names and values

abbrev pub search_key : Bor Event → ℕ × List (Option Value)
search_key event = (event.now.name.0, map Some event.now.args)

abbrev pub search_cmp : ℕ × List (Option Value) → ℕ × List (Option Value) → Ordering
search_cmp a b = ordering_then (nat_cmp a.0 b.0) (key_cmp a.1 b.1)

pub search_cmp_total : IsTotalOrder search_cmp
search_cmp_total = then_total (on_total (λ k. k.0) nat_cmp_total) (on_total (λ k. k.1) key_cmp_total)

pub search_cmp_exact : IsAntisymmetric search_cmp
search_cmp_exact a b e = both (nat_cmp a.0 b.0) refl e
  where
    both : (r : Ordering) → nat_cmp a.0 b.0 ≡ r → ordering_then r (key_cmp a.1 b.1) ≡ Equal → a ≡ b
    both Less is t = absurd (cc)
    both Equal is t = λ i. (nat_cmp-IsAntisymmetric a.0 b.0 is i, key_cmp_exact a.1 b.1 t i)
    both Greater is t = absurd (cc)

by_search : (listed : List (Bor Event)) → IsSortedByKey key_of event_cmp listed → IsSortedByKey search_key search_cmp listed
by_search listed order k d low within =
    let a = get_or listed (k + 1) d in
    let b = get_or listed k d in
    ap (λ r. is_lt (ordering_then (nat_cmp a.now.name.0 b.now.name.0) r)) (same_order a.now.args b.now.args) ∙ order k d low within

module _ (events : List Event) (listed : List (Bor Event)) (v : Valuation) (name : NameId) (terms : List Term) (is : IsByName events listed) where
  found_to : (event : Bor Event) → Contains listed event → search_key event ≡ (name.0, map (value_of_term v) terms) → IsEventAmong events name (values_of_terms v terms)
  found_to event there same =
      let named : event.now.name ≡ name = same_name _ _ (ap (λ k. k.0) same) in
      let values : values_of_terms v terms ≡ Some event.now.args = listed_values v terms event.now.args (ap (λ k. k.1) same) in
      let held : Contains events event.now = (is.same event.now).0 (Contains-map (λ e. e.now) listed event there) in
      subst (IsEventAmong events name) (sym values) (subst (λ n. Contains events (record { name = n; args = event.now.args })) named held)

  found_from : (o : Option (List Value)) → values_of_terms v terms ≡ o → IsEventAmong events name o → (event : Bor Event) × Contains listed event
      × (search_key event ≡ (name.0, map (value_of_term v) terms))
  found_from None at among = absurd among
  found_from (Some args) at among =
      let found = Contains-from_map (λ e. e.now) listed (record { name = name; args = args }) ((is.same (record { name = name; args = args })).1 among) in
      let listed_args = values_listed v terms args at in
      (found.0, found.1, λ i. (ap (λ e. e.name.0) found.2 i, (ap (λ e. map Some e.args) found.2 ∙ listed_args) i))

  pub found_event : (r : Result ℕ ℕ) → IsSearchInRange r (length listed) → IsBinarySearchResult (λ e. search_cmp (search_key e) (name.0, map (value_of_term v) terms)) listed r
      → IsTrue (is_ok r) ↔ IsEventAmong events name (values_of_terms v terms)
  found_event r within at =
      let told = found_tells search_cmp_total search_cmp_exact search_key listed (name.0, map (value_of_term v) terms) (by_search listed is.order) r within at in (
        λ ok. let found = told.0 ok in found_to found.0 found.1 found.2,
        λ among. told.1 (found_from (values_of_terms v terms) refl among),
      )

-- a sorted list of the events is they by their names
pub sorted_by_name : (events : List Event) (given sorted : List (Bor Event)) → shown_events given ≡ events → IsPermutation given sorted
    → IsSortedByKey key_of event_cmp sorted → IsByName events sorted
sorted_by_name events given sorted all permuted order =
    let moved : IsPermutation (shown_events given) (shown_events sorted) = IsPermutation-map (λ event. event.now) given sorted permuted in
    record {
      order = order;
      same = λ event. (
        λ there. subst (λ l. Contains l event) all (Contains-permutation (shown_events sorted) (shown_events given) event (IsPermutation-sym (shown_events given) (shown_events sorted) moved) there),
        λ there. Contains-permutation (shown_events given) (shown_events sorted) event moved (subst (λ l. Contains l event) (sym all) there),
      );
    }

-- events that rise are they by their names as they are
pub rising_by_name : (events : List Event) (given : List (Bor Event)) → shown_events given ≡ events → AreRisingEvents events → IsByName events given
rising_by_name events given all rise = record {
  order = λ k d low within.
      let show = λ (event : Bor Event). event.now in
      let long : length (shown_events given) ≡ length given = length-map given show in
      let below : k < length given = omega (arith, within) in
      let falls = sorted_from_strict event_order_total (shown_events given) (subst AreRisingEvents (sym all) rise) k d.now low (omega (arith, within, long)) in
      let next = get_or-map show given (k + 1) d d.now within in
      let this = get_or-map show given k d d.now below in
      subst (λ e. is_lt (event_order e (get_or given k d).now) ≡ false) next (subst (λ e. is_lt (event_order (get_or (shown_events given) (k + 1) d.now) e) ≡ false) this falls);
  same = λ event. (λ there. subst (λ l. Contains l event) all there, λ there. subst (λ l. Contains l event) (sym all) there);
}

-- ---- events that begin with values

-- the number of the event's name, and so many of the arguments
abbrev pub beginning_key : ℕ → Bor Event → ℕ × List (Option Value)
beginning_key count event = (event.now.name.0, map Some (take count event.now.args))

then_falls : (r s t : Ordering) → (is_lt s ≡ false → is_lt t ≡ false) → is_lt (ordering_then r s) ≡ false → is_lt (ordering_then r t) ≡ false
then_falls Less s t below e = e
then_falls Equal s t below e = below e
then_falls Greater s t below e = refl

-- what does not fall does not by its first items
beginnings_fall : (count : ℕ) (a b : List Value) → is_lt (row_cmp a b) ≡ false → is_lt (row_cmp (take count a) (take count b)) ≡ false
beginnings_fall zero a b e = refl
beginnings_fall (suc count) [] [] e = e
beginnings_fall (suc count) [] (y ∷ b) e = e
beginnings_fall (suc count) (x ∷ a) [] e = e
beginnings_fall (suc count) (x ∷ a) (y ∷ b) e = then_falls (value_cmp x y) (row_cmp a b) (row_cmp (take count a) (take count b)) (beginnings_fall count a b) e

pub by_beginning : (count : ℕ) (listed : List (Bor Event)) → IsSortedByKey key_of event_cmp listed → IsSortedByKey (beginning_key count) search_cmp listed
by_beginning count listed order k d low within =
    let a = (get_or listed (k + 1) d).now in
    let b = (get_or listed k d).now in
    then_falls (nat_cmp a.name.0 b.name.0) (row_cmp a.args b.args) (key_cmp (map Some (take count a.args)) (map Some (take count b.args)))
    (λ e. ap is_lt (same_order (take count a.args) (take count b.args)) ∙ beginnings_fall count a.args b.args e)
    (order k d low within)

-- the arguments begin as known just where so many of them are the known ones
pub begins : (known : List (Option Value)) (args : List Value) → BeginAsKnown known args ↔ (map Some (take (leading_known known) args) ≡ take (leading_known known) known)
begins [] args = (λ _. refl, λ _. tt)
begins (None ∷ known) args = (λ _. refl, λ _. tt)
begins (Some value ∷ known) [] = (λ none. absurd none, λ same. absurd (cc))
begins (Some value ∷ known) (arg ∷ args) = (
  λ both. λ i. Some (both.0 i) ∷ (begins known args).0 both.1 i,
  λ same. (
    same_Some arg value (ap (λ l. get_or l 0 (Some arg)) same),
    (begins known args).1 (ap (λ l. drop 1 l) same),
  ),
)

pub leading_within : (known : List (Option Value)) → leading_known known ≤ length known
leading_within [] = omega arith
leading_within (None ∷ known) = omega arith
leading_within (Some value ∷ known) = let rest = leading_within known in omega (arith, rest)

-- terms that have these values under what goes on from v have no others under v
pub begins_under : (v u : Valuation) → Extends v u → (terms : List Term) (args : List Value) → map Some args ≡ map (value_of_term u) terms → BeginAsKnown (map (value_of_term v) terms) args
begins_under v u ext [] args is = tt
begins_under v u ext (t ∷ terms) [] is = absurd (cc)
begins_under v u ext (t ∷ terms) (arg ∷ args) is = by (value_of_term v t) refl (begins_under v u ext terms args (ap (λ l. drop 1 l) is))
  where
    by : (o : Option Value) → value_of_term v t ≡ o → BeginAsKnown (map (value_of_term v) terms) args → BeginAsKnown (o ∷ map (value_of_term v) terms) (arg ∷ args)
    by None at rest = tt
    by (Some value) at rest = (same_Some arg value (ap (λ l. get_or l 0 (Some arg)) is ∙ value_of-extends v u t value ext at), rest)

-- ---- the events between two places of a search

module _ {K : Type 0} {R : K → K → Ordering} (o : IsTotalOrder R) (exact : IsAntisymmetric R) (key : Bor Event → K) (order : List (Bor Event)) (wanted : K)
    (sorted : IsSortedByKey key R order) (from count : ℕ)
    (first : IsPartitionPoint (λ y. is_lt (R (key y) wanted) ≡ true) (λ y. is_lt (R (key y) wanted) ≡ false) order from)
    (last : IsPartitionPoint (λ y. is_le (R (key y) wanted) ≡ true) (λ y. is_le (R (key y) wanted) ≡ false) (take (length order - from) (drop from order)) count) where
  pub tied_events : (event : Event) → Contains (shown_events (take count (take (length order - from) (drop from order)))) event
      ↔ ((x : Bor Event) × Contains order x × (key x ≡ wanted) × (x.now ≡ event))
  tied_events event =
      let behind : take (length order - from) (drop from order) ≡ drop from order = take_rest order from in
      let tied = tied_between o exact key order wanted sorted from count first
      (subst (λ l. IsPartitionPoint (λ y. is_le (R (key y) wanted) ≡ true) (λ y. is_le (R (key y) wanted) ≡ false) l count) behind last) in
      let same : take count (take (length order - from) (drop from order)) ≡ take count (drop from order) = ap (take count) behind in (
        λ there.
            let found = Contains-from_map (λ e. e.now) (take count (drop from order)) event (subst (λ l. Contains (shown_events l) event) same there) in
            let both = (tied found.0).0 found.1 in
            (found.0, both.0, both.1, found.2),
        λ some. subst (λ l. Contains (shown_events l) event) (sym same) (subst (Contains (shown_events (take count (drop from order)))) some.3
            (Contains-map (λ e. e.now) (take count (drop from order)) some.0 ((tied some.0).1 (some.1, some.2)))),
      )
