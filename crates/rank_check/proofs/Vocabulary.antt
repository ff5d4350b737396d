-- The words in which the proofs of this crate speak: those of std, of the crates below and of its own specs.
pub use Rattle.std.proofs.Common.{Bool, Contains, IfNone, IfSome, IsTrue, List, None, Option, Some, [], ap, arith, cond, drop, eqb, false, get_or, inl, inr, le_refl, length, length-append, lit<, lit≤}
pub use Rattle.std.proofs.Common.{map, max, min, not, refl, replicate, rules, set, subst, suc, sym, take, true, true≢false, zero, ℕ, ⊎_elim, ◌&&◌, ◌*◌, ◌++◌, ◌+◌, ◌-◌, ◌<◌, ◌||◌, ◌↔◌, ◌∙◌, ◌∷◌, ◌≡◌}
pub use Rattle.std.proofs.Common.{◌≤◌, ◌⊎◌}
pub use Rattle.std.proofs.Math.Seq.{get_or-append_seam, take-append_seam}
pub use Rattle.std.proofs.lemmas.Bool.{cases_eq, cases_lt, eqb-true, false≢true, ne_eqb}
pub use Rattle.std.proofs.lemmas.Grind.{common_steps, flat_map-append, get_or-set_at}
pub use Rattle.std.proofs.lemmas.Iterator.{YieldsList-from_slice}
pub use Rattle.std.proofs.lemmas.Iterator.Search.{all_from_yields_List}
pub use Rattle.std.proofs.lemmas.List.{append-nil, get_or-replicate, get_or-set_other, get_or_append_left, get_or_past, length-map, length-replicate, length-set, map-append, map_more, take_all}
pub use Rattle.std.proofs.lemmas.List.{take_more}
pub use Rattle.std.proofs.lemmas.List.Elements.{All-from_recursion, All-head, All-nil, All-tail, Contains-append_cases, Contains-append_left, Contains-append_right, Contains-get_or, Contains-push}
pub use Rattle.std.proofs.lemmas.List.Elements.{Contains-push_cases, filter-append}
pub use Rattle.std.proofs.lemmas.List.Folds.{list_all-append, list_any-append}
pub use Rattle.std.proofs.lemmas.Map.Keys.{IsDistinct-cons}
pub use Rattle.std.proofs.lemmas.Map.Steps.{length-le_from_distinct_below}
pub use Rattle.std.proofs.lemmas.Nat.{mul-add-lt, mul-le, same_from_place}
pub use Rattle.std.proofs.lemmas.Option.{get_or_from_slice_get, none-some, same_Some, slice_get-map, slice_get_read, slice_get_within}
pub use Rattle.std.specs.List.{AllByRecursion, filter, find, flat_map, list_all, list_any, slice_get}
pub use Rattle.std.specs.Option.{option_map, option_or}
pub use Rattle.enf_data.proofs.ListFacts.{Contains-flat_map, both_true, cases_le, not_both}
pub use Rattle.enf_data.proofs.Lists.{AllByRecursion-contains, AllByRecursion-weaker, first_or_later, here, later, none_in_nil, there_from_get}
pub use Rattle.enf_data.proofs.ValuationFacts.{same_name}
pub use Rattle.enf_data.specs.declared.events.NameId.{NameId}
pub use Rattle.enf_data.specs.declared.steps.Step.{Step}
pub use Rattle.enf_data.specs.declared.terms.VarId.{VarId}
pub use Rattle.enf_data.specs.meaning.Data.{IsTrace, no_step, step_at}
pub use Rattle.enf_data.specs.meaning.Membership.{HasNoRepeats}
pub use Rattle.enf_data.specs.meaning.Valuations.{Valuation, no_values, with_values}
pub use Rattle.enf_formula.specs.machine.Cases.{at_time, empty_step, event_p, event_q, name_p, name_q}
pub use Rattle.enf_formula.specs.machine.Laws.{IsStable}
pub use Rattle.enf_formula.specs.meaning.Satisfaction.{Formula, Sat}
pub use Rattle.plan_terms.proofs.NodeLemmas.{first_node, from_one, from_two, in_one, in_two, itself, plan_at}
pub use Rattle.plan_terms.specs.machine.Cases.{each_soon, plan_cause_q, plan_cause_q_x, soon_q_x}
pub use Rattle.plan_terms.specs.machine.Laws.{NumberIsPlace, OwedStaysOwed, PlansStandIn}
pub use Rattle.plan_terms.specs.machine.StoredPlans.{plan_of}
pub use Rattle.plan_terms.specs.meaning.Owed.{IsAhead, IsLost, IsOwed, IsStillLost, LeadsThrough, LeadsTo, Obligation, obligation}
pub use Rattle.plan_terms.specs.meaning.Plans.{AlwaysPlan, Both, CausePlan, Clashes, Either, EventuallyPlan, Guarded, IsCaused, IsSuppressed, NextPlan, NothingClashes, Plan, SuppressPlan, TestOr}
pub use Rattle.plan_terms.specs.meaning.Plans.{UntilPlan, caused_at, caused_below, formula_for, guard_triggers, has_deadline, has_future, has_number, is_future, node_in, node_number, nodes, nodes_of}
pub use Rattle.plan_terms.specs.meaning.Plans.{suppressed_below, triggers, window_end}
pub use Rattle.plan_terms.specs.machine.WellFormed.{EndsInTime, IsNumberedPlan, IsSmallPlan, IsWellFormed}
pub use Rattle.rank_check.specs.declared.horizon.Survey.{Survey}
pub use Rattle.rank_check.specs.declared.rank_answers.RankRefusal.{RankRefusal}
pub use Rattle.rank_check.specs.declared.rank_answers.RankRefusal.TheVariants.{Cyclic, NoMemory, RoleClash, Untriggered}
pub use Rattle.rank_check.specs.declared.rank_answers.Role.{Role}
pub use Rattle.rank_check.specs.declared.rank_answers.Role.TheVariants.{Caused, Free, Suppressed}
pub use Rattle.rank_check.specs.machine.Cases.{guarded_twice, in_a_row, name_r, q_soon, q_until_p, soon_after, then_always_guarded, then_always_q, three_in_turn, two_in_turn}
pub use Rattle.rank_check.specs.machine.EdgeTables.{AddsEdges, EdgeTable, HasEdge, IsClosure, IsRankWithin}
pub use Rattle.rank_check.specs.machine.Limits.{ArePlansWithinLimits}
pub use Rattle.rank_check.specs.machine.PlanWalks.{Causes, bare_behind, bare_place, first_place, met_behind, place_needing, visits}
pub use Rattle.rank_check.specs.machine.Roles.{AreNamesBelow, IsMarkedName, role_for}
pub use Rattle.rank_check.specs.machine.Surveys.{IsSurvey}
pub use Rattle.rank_check.specs.machine.TransparencyLaws.{DeadlinesAreNotLost, GoesWell, LookBack, OwedNodesAreNotLost, OwedNodesHold, RootsAreNotLost, RootsHold}
pub use Rattle.rank_check.specs.meaning.AcceptedPlans.{AllIsTriggered, AreAccepted, Edge, EdgesLead, IsAcyclic, IsCauseNode, IsOnCycle, IsPath, IsStart, IsUntriggered, IsUntriggeredAt, Reaches}
pub use Rattle.rank_check.specs.meaning.AcceptedPlans.{begun_later, below, is_transparent, is_transparent_at, needs_trigger, path_triggers}
pub use Rattle.rank_check.specs.meaning.Horizon.{class_in, greatest, horizon_of, least_with, plan_size, rank_in, with_deadlines}
pub use Rattle.rank_check.specs.meaning.Ranked.{EndsIn, IsRank, NameHasRole, role_in}
pub use Rattle.rank_check.specs.meaning.Refusals.{IsFirstName, IsFirstPlace, IsPlaceOf, RefusesPlans}
pub use Rattle.trace_meaning.specs.meaning.Traces.{Good, Satisfies}
