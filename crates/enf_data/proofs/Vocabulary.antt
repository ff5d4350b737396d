-- The words in which the proofs of this crate speak: those of std, of the crates below and of its own specs.
pub use Rattle.std.proofs.Common.{All, Bool, Contains, Err, IfOk, IsSome, IsTrue, List, MatchResult, Ok, OnErr, OnOk, Result, Some, [], ap, append-nil, append_assoc, arith, cond, drop, drop-cons}
pub use Rattle.std.proofs.Common.{drop_at, false, flat_map, get_or, get_or-drop, get_or-take, if◌then◌else◌, inl, inr, is_err, is_ok, length, length-append, length-drop, length-take, ltb, map, nat_le}
pub use Rattle.std.proofs.Common.{nat_lt, not, refl, remove, slice_get, subst, suc, sym, take, take_all, take_while, true, true≢false, zero, ℕ, ⊎_elim, ◌&&◌, ◌++◌, ◌+◌, ◌-◌, ◌<◌, ◌==◌, ◌||◌, ◌↔◌, ◌∙◌}
pub use Rattle.std.proofs.Common.{◌∷◌, ◌≡◌, ◌≢◌, ◌≤◌}
pub use Rattle.std.proofs.lemmas.Bool.{cases_lt, false≢true}
pub use Rattle.std.proofs.lemmas.Bool.Decides.{Decides-and, Decides-at, Decides-by_or, Decides-eqb, Decides-int_eq, Decides-like, nat_tests}
pub use Rattle.std.proofs.lemmas.List.{take_more}
pub use Rattle.std.proofs.lemmas.List.Elements.{All-contains, All-from_recursion, Contains-append_left, Contains-append_right, Contains-get_or, Contains-push_cases, Decides-contains}
pub use Rattle.std.proofs.lemmas.List.Sorted.{IsNonDecreasingBy-drop, searchable_from_sorted}
pub use Rattle.std.proofs.lemmas.List.Sums.{take_while-cons}
pub use Rattle.std.proofs.lemmas.Map.Keys.{IsDistinct-head, IsDistinct-tail, sorted_head, sorted_tail}
pub use Rattle.std.proofs.lemmas.Option.{none-some, same_Some, slice_get-get_or}
pub use Rattle.std.proofs.lemmas.Result.{IfOk-at_ok, on_err_weaker}
pub use Rattle.std.proofs.lemmas.Slice.Eq.{bytes_eq-Decides, slice_eq-Decides}
pub use Rattle.std.proofs.lemmas.Str.{IsUtf8-from_ascii}
pub use Rattle.std.specs.Bool.{Decides}
pub use Rattle.std.specs.Cmp.{IsTotalOrder, int_cmp_total, nat_cmp_total, on_total, tied_itself}
pub use Rattle.std.specs.Cmp.Lexicographic.{lists_total, nat_list_cmp_total}
pub use Rattle.std.specs.FinMap.{IsAntisymmetric, int_cmp-IsAntisymmetric, nat_cmp-IsAntisymmetric, slice_cmp-IsAntisymmetric}
pub use Rattle.std.specs.List.{AllByRecursion, IsDistinct, filter, find, list_all, list_any, position_or_len}
pub use Rattle.std.specs.List.Sorted.{IsBinarySearchResult, IsNonDecreasingBy, IsPartitionPoint, IsPartitionedBy, IsSearchInRange, IsSortedBy}
pub use Rattle.std.specs.Option.{option_map}
pub use Rattle.std.specs.Ordering.{eq_by_cmp, is_le, is_lt, ordering_index, ordering_reverse}
pub use Rattle.std.specs.Prelude.{None, Option, position, ◌⊎◌}
pub use Rattle.std.specs.Result.{IsErrAnd, result_ok}
pub use Rattle.std.specs.declared.cmp.Ordering.{Ordering}
pub use Rattle.std.specs.declared.cmp.Ordering.TheVariants.{Equal, Greater, Less}
pub use Rattle.enf_data.specs.declared.events.Event.{Event}
pub use Rattle.enf_data.specs.declared.events.NameId.{NameId}
pub use Rattle.enf_data.specs.declared.steps.Step.{Step}
pub use Rattle.enf_data.specs.declared.terms.Term.{Term}
pub use Rattle.enf_data.specs.declared.terms.Term.TheVariants.{Const, Var}
pub use Rattle.enf_data.specs.declared.terms.VarId.{VarId}
pub use Rattle.enf_data.specs.declared.values.Value.{Value}
pub use Rattle.enf_data.specs.declared.values.Value.TheVariants.{Num, Text}
pub use Rattle.enf_data.specs.machine.EventSets.{AreRisingEvents, InsertsEach, InsertsItem, RemovesItem, TakesOutEach, event_order, without_events}
pub use Rattle.enf_data.specs.machine.ValueTests.{value_eq-Decides}
pub use Rattle.enf_data.specs.meaning.Data.{step_at}
pub use Rattle.enf_data.specs.meaning.Membership.{HasNoRepeats, TakesOut}
pub use Rattle.enf_data.specs.meaning.Valuations.{Valuation, bindings, no_values, onto_values, value_at, value_of_term, values_of_terms, variable_cmp}
pub use Rattle.enf_data.specs.meaning.Values.{event_eq, has_event, row_cmp, row_eq, value_cmp}
pub use Rattle.indexmap.specs.IndexSet.{insert_key, remove_key, spare}
