-- The words in which the proofs of this crate speak: those of std, of the crates below and of its own specs.
pub use Rattle.std.proofs.Common.{All, Bool, Contains, append-nil, drop, get_or, lit<, lit≤, IsTrue, List, None, Option, Some, [], ap, arith, cond, false, inl, inr, length, map, nat_eq, nat_le, pos, refl, replicate}
pub use Rattle.std.proofs.Common.{subst, suc, sym, true, true≢false, zero, ℕ, ⊎_elim, ◌++◌, ◌+◌, ◌-◌, ◌<◌, ◌≤◌, ◌∙◌, ◌∷◌, ◌≡◌, ◌↔◌, ◌⊎◌, slice_get}
pub use Rattle.std.proofs.lemmas.Bool.{cases_lt}
pub use Rattle.std.proofs.lemmas.Bool.Decides.{eqb_tells, leb_tells}
pub use Rattle.std.proofs.lemmas.List.Elements.{All-cons, All-head, All-nil, All-tail, filter-append}
pub use Rattle.std.proofs.lemmas.Option.{cond_some, none-some, same_Some, slice_get-map}
pub use Rattle.std.specs.List.{filter, list_any}
pub use Rattle.std.specs.Option.{option_map}
pub use Rattle.enf_data.proofs.ListFacts.{nil_not_cons}
pub use Rattle.enf_data.proofs.Lists.{Contains-filter, Contains-from_filter, HasNoRepeats-filter, first_or_later, later, none_in_nil}
pub use Rattle.enf_data.proofs.ValuationLaws.{value_at-insert}
pub use Rattle.enf_data.proofs.ValuationFacts.{values_listed, variable_is}
pub use Rattle.enf_data.specs.declared.events.Event.{Event}
pub use Rattle.enf_data.specs.declared.events.NameId.{NameId}
pub use Rattle.enf_data.specs.declared.intervals.Interval.{Interval}
pub use Rattle.enf_data.specs.declared.steps.Step.{Step}
pub use Rattle.enf_data.specs.declared.terms.Term.{Term}
pub use Rattle.enf_data.specs.declared.terms.Term.TheVariants.{Const, Var}
pub use Rattle.enf_data.specs.declared.terms.VarId.{VarId}
pub use Rattle.enf_data.specs.declared.values.Value.{Value}
pub use Rattle.enf_data.specs.declared.values.Value.TheVariants.{Num}
pub use Rattle.enf_data.specs.meaning.Data.{IsTrace, no_step, step_at}
pub use Rattle.enf_data.specs.meaning.Membership.{HasNoRepeats, IsIn, TakesOut}
pub use Rattle.enf_data.specs.meaning.Valuations.{Valuation, no_values, onto_values, value_at, value_of_term, values_of_terms, with_values}
pub use Rattle.enf_formula.proofs.Gathering.{bound_decides}
pub use Rattle.enf_formula.proofs.Stability.{Sat_stable, absent}
pub use Rattle.enf_formula.specs.meaning.Satisfaction.{AreNumbersInOrder, AreSameValues, Classically, Formula, HeldSince, HoldsAnywhere, HoldsUntil, IsEventAmong, Sat, elapsed, formula_place}
pub use Rattle.enf_formula.specs.meaning.Satisfaction.{True, False, Atom, Equal, Less, AtMost, Not, And, Or, Implies, Exists, Forall, Prev, Next, Once, Historically, Since, Eventually, Always, Until}
pub use Rattle.slices.specs.declared.verdicts.Absence.{Absence}
pub use Rattle.slices.specs.declared.verdicts.Absence.TheVariants.{AtStep, InTrace}
pub use Rattle.slices.specs.declared.verdicts.Verdict.{Verdict}
pub use Rattle.slices.specs.declared.verdicts.Verdict.TheVariants.{Fails, Holds, Open}
pub use Rattle.slices.specs.meaning.SlicedRules.{HasKeyTerm, HasKeyValue, HoldsForKey, HoldsForOthers, IsClearAtStep, IsOfOneKey, IsSlicedPolicy, IsSlicedRule, key_variable, key_variable_of, or_else, variable_among}
pub use Rattle.slices.specs.meaning.Slices.{IsLeftOut, Keying, cut_events, cut_step, event_key, has_key, key_argument, onto_slice, origin, place_behind, slice_of}
pub use Rattle.slices.specs.meaning.Verdicts.{both_hold, denied, one_holds, verdict_of, verdict_of_all, verdict_of_atom, verdict_of_shared, verdict_of_some}
pub use Rattle.valuations.proofs.ColumnLaws.{among_or_not}
pub use Rattle.valuations.proofs.RowLaws.{value_at-bound, value_at-with_outside}
