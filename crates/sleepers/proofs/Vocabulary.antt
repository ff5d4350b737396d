-- The words in which the proofs of this crate speak: those of std, of the crates below and of its own specs.
pub use Rattle.std.proofs.Common.{Bool, Contains, IfNone, IfSome, IsNone, IsSome, List, None, OnOk, Option, Some, [], ap, append-nil, append_assoc, arith, cond, drop, false, get_or, inl, inr, length}
pub use Rattle.std.proofs.Common.{length-append, map, nat_eq, not, refl, reverse, rules, set, slice_get, subst, subst₂, suc, sym, take, true, true≢false, zero, ℕ, ⊎_elim, ◌&&◌, ◌++◌, ◌+◌, ◌-◌, ◌<◌}
pub use Rattle.std.proofs.Common.{◌^◌, ◌↔◌, ◌∙◌, ◌∷◌, ◌≡◌, ◌≤◌, ◌⊎◌}
pub use Rattle.std.proofs.lemmas.Bool.{cases_eq, cases_lt, cases_order, false_from_ne_true, false≢true}
pub use Rattle.std.proofs.lemmas.Bool.Decides.{Decides-and, Decides-eqb, Decides-like}
pub use Rattle.std.proofs.lemmas.Cmp.{eq_by_cmp_equiv, lists_total, nat_cmp_total, on_total, then_total, tied_itself}
pub use Rattle.std.proofs.lemmas.Fn.{always_returns_same}
pub use Rattle.std.proofs.lemmas.Grind.{flat_map-append}
pub use Rattle.std.proofs.lemmas.List.{get_or-map, get_or_default, length-map, reverse-append, set-get_or, take_all, take_more}
pub use Rattle.std.proofs.lemmas.List.Elements.{All-contains, Contains-append_left, Contains-push, Contains-push_cases}
pub use Rattle.std.proofs.lemmas.List.Filters.{dedup_is}
pub use Rattle.std.proofs.lemmas.List.Kept.{Contains-dedup_nat}
pub use Rattle.std.proofs.lemmas.List.Sorted.{Contains-permutation, IsPermutation-map, IsPermutation-reverse, IsPermutation-sym, ranks_by}
pub use Rattle.std.proofs.lemmas.Map.Iter.{iter_end}
pub use Rattle.std.proofs.lemmas.Map.Keys.{IsDistinct-IsPermutation, IsDistinct-cons, IsStrictlyIncreasing-dedup, apart_from_distinct, le_from_not_gt, sorted_from_all_adjacent}
pub use Rattle.std.proofs.lemmas.Map.Keys.{sorted_from_strictly_increasing, sorted_head, sorted_tail}
pub use Rattle.std.proofs.lemmas.Option.{get_or_from_slice_get, none-some, same_Some, slice_get_within}
pub use Rattle.std.proofs.lemmas.Result.{IfOk-weaker, on_ok_weaker}
pub use Rattle.std.proofs.lemmas.Slice.Eq.{slice_eq-Decides}
pub use Rattle.std.specs.BTreeMap.{is_at}
pub use Rattle.std.specs.BTreeMap.Range.{IsLeBy, range_contains}
pub use Rattle.std.specs.BTreeSet.{insert_key}
pub use Rattle.std.specs.Bool.{Decides}
pub use Rattle.std.specs.Borrow.{Bor}
pub use Rattle.std.specs.Cmp.{IsTotalOrder}
pub use Rattle.std.specs.Cmp.Lexicographic.{pointwise}
pub use Rattle.std.specs.List.{AllByRecursion, dedup, filter, items_where_true}
pub use Rattle.std.specs.List.Retain.{IsFiltered, ReturnsInTurn}
pub use Rattle.std.specs.List.Sorted.{IsPermutation, IsSortedByKey}
pub use Rattle.std.specs.Map.Iter.{deref}
pub use Rattle.std.specs.Option.{is_some, option_eq, option_to_list}
pub use Rattle.std.specs.Ordering.{eq_by_cmp, is_eq, is_gt, is_le, is_lt, match_ordering, nat_cmp, ordering_reverse, ordering_then}
pub use Rattle.std.specs.Set.{remove_key}
pub use Rattle.std.specs.declared.cmp.Ordering.{Ordering}
pub use Rattle.std.specs.declared.cmp.Ordering.TheVariants.{Equal, Greater, Less}
pub use Rattle.std.specs.declared.ops.Bound.TheVariants.{Included}
pub use Rattle.cursor_list.specs.machine.Split.{Split, items}
pub use Rattle.enf_data.proofs.ListFacts.{Less_from_test}
pub use Rattle.enf_data.proofs.Lists.{AllByRecursion-append, AllByRecursion-contains, AllByRecursion-from_contains, AllByRecursion-weaker, Contains-append, HasNoRepeats-push, first_or_later, here}
pub use Rattle.enf_data.proofs.Lists.{later, none_in_nil}
pub use Rattle.enf_data.proofs.ValueEquality.{derived_value_eq-Decides}
pub use Rattle.enf_data.specs.declared.events.Event.{Event}
pub use Rattle.enf_data.specs.declared.events.NameId.{NameId}
pub use Rattle.enf_data.specs.declared.values.Value.{Value}
pub use Rattle.enf_data.specs.machine.ValueTests.{value_eq-Decides}
pub use Rattle.enf_data.specs.meaning.Membership.{HasNoRepeats}
pub use Rattle.enf_data.specs.meaning.Values.{value_eq}
pub use Rattle.sleepers.specs.declared.entries.Entry.{Entry}
pub use Rattle.sleepers.specs.declared.keys.Shape.{Shape}
pub use Rattle.sleepers.specs.declared.patterns.Pattern.{Pattern}
pub use Rattle.sleepers.specs.declared.places.Beginning.{Beginning}
pub use Rattle.sleepers.specs.machine.Cases.{any_pattern, ended, sleeper}
pub use Rattle.sleepers.specs.machine.Entries.{AllButThose, ArePlaced, HasOneMoreEntry, IsAllBut, IsAsleep, IsFreePlace, entry_places, shown}
pub use Rattle.sleepers.specs.machine.EntrySteps.{CanPutIn, EntryOutcome, IsInOrder, IsOneOr, IsStep, OutcomeGoesOn, PutsInEntries, TakesOutEntries, begun_entries, entries_behind, gone_entries}
pub use Rattle.sleepers.specs.machine.Groups.{AreAlike, AreAwake, AreKept, AreNoted, AreRewound, HasIn, IsOfAwake, IsWalk, OthersStay, StandsAsleep, StandsAwake, StayGroups, Suits, WakeAlike}
pub use Rattle.sleepers.specs.machine.Groups.{ahead_of, by_place, entries_at, entries_of, group_at, held, put_by_place}
pub use Rattle.sleepers.specs.machine.NotedGroups.{CanBeFound, IsContainedIn, IsGroupFound, IsNoted, IsWithinBut, KeepsAll, KeepsOthers, Noted, PatternsSleep, awake_from, listed_patterns}
pub use Rattle.sleepers.specs.machine.PatternKeys.{fixed_of, masked_values, shape_of}
pub use Rattle.sleepers.specs.machine.Patterns.{FitArgs, HasNone, MatchesNone, MatchesPattern}
pub use Rattle.sleepers.specs.machine.Places.{ArePlacesInOrder, BeginsBefore, IsPlaceBefore, Place, PlaceChange, WasMade, beginning_at, beginning_cmp, place_cmp, places_behind, places_from, places_of}
