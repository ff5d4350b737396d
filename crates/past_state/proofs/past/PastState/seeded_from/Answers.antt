use Rattle.past_state.proofs.Vocabulary.{◌∙◌, ◌↔◌, All, Contains, ap, sym, subst, map, reverse, arith, tree_in, all_operators, IsPast, formulas_of_guards, guard_names, IsAtLast, AllStand}
use Rattle.past_state.proofs.Vocabulary.{AreUpToTimeOf, StoresAt, KeptRow}
use Rattle.past_state.proofs.GuardLaws.{copies_formulas}
use Rattle.past_state.proofs.GuardLemmas.{few_outermost, new_past}
use Rattle.past_state.proofs.PastLemmas.{still_past}
use Rattle.past_state.proofs.RestoredLemmas.{made_stands}
use Rattle.past_state.proofs.RestoredRowLemmas.{at_last, can_restore, pushed_for, from_start, none_later, rows_exact, rows_within, same_kinds}
use Rattle.past_state.proofs.past.PastState.seeded_from.Goals as goal

pub restore_all-requires : goal.restore_all-requires
restore_all-requires c = can_restore (all_operators (map tree_in c.args.guards.now)) c.new-operators.result.items c.push_all.new.out.items c.args.last c.args.rows
    c.new-operators.ensures.items c.in_ok-counts.ensures.pushed c.requires.bounds

pub place_all-requires-clause-few : goal.place_all-requires-clause-few
place_all-requires-clause-few c =
    omega (
      arith,
      few_outermost (map tree_in c.args.guards.now) c.new-operators.result.items c.push_all.new.out.items c.new-operators.ensures.items c.in_ok-counts.ensures.pushed,
      c.push_all.new.out.ok.0,
      c.push_all.new.out.small,
    )

pub invariant_of-result : goal.invariant_of-result
invariant_of-result c = (
  subst (λ s. IsPast (record { guards = c.in_ok-guards.guards.value.items; operators = s.items.items })) (sym c.in_ok-operators.ensures.ok)
      (subst (λ l. IsPast (record { guards = l; operators = c.in_ok-items.items.items })) (ap (λ v. v.items) (sym c.in_ok-guards.ensures.ok))
      (still_past (record { guards = c.in_ok-placed.placed.items; operators = c.push_all.new.out.items }) c.in_ok-items.items.items
      (new_past c.args.guards.now c.in_ok-placed.placed.items c.new-operators.result.items c.push_all.new.out.items c.in_ok-placed.ensures.copies c.in_ok-placed.ensures.begin
      c.in_ok-placed.ensures.past c.requires.fresh c.new-operators.ensures.items c.in_ok-counts.ensures.pushed)
      (same_kinds c.args.last c.args.rows 0 c.push_all.new.out.items c.in_ok-items.items.items c.in_ok-items.ensures))),
  λ name. subst (λ l. Contains c.in_ok-names.names name ↔ Contains (guard_names l) name) (c.as_slice-2.ensures.value ∙ ap (λ v. v.items) (sym c.in_ok-guards.ensures.ok)) (c.in_ok-names.ensures name),
)

pub returns-clause-last : goal.returns-clause-last
returns-clause-last c = subst (λ s. All (λ o. IsAtLast c.args.last o.memory) s.items.items) (sym c.in_ok-operators.ensures.ok)
    (at_last c.args.last c.args.rows 0 c.push_all.new.out.items c.in_ok-items.items.items c.in_ok-items.ensures)

pub returns-clause-up_to : goal.returns-clause-up_to
returns-clause-up_to c = λ time from. subst (λ s. AreUpToTimeOf time s.items.items) (sym c.in_ok-operators.ensures.ok)
    (none_later c.args.last c.args.rows 0 c.push_all.new.out.items c.in_ok-items.items.items time c.in_ok-items.ensures (from_start c.args.last time from))

pub returns-clause-exact : goal.returns-clause-exact
returns-clause-exact c = subst (λ s. (r : KeptRow) → Contains c.args.rows r ↔ StoresAt s.items.items r) (sym c.in_ok-operators.ensures.ok)
    (rows_exact c.args.last c.args.rows c.push_all.new.out.items c.in_ok-items.items.items c.in_ok-items.ensures
    (rows_within c.push_all.new.out.items c.args.last c.args.rows
    (can_restore (all_operators (map tree_in c.args.guards.now)) c.new-operators.result.items c.push_all.new.out.items c.args.last c.args.rows c.new-operators.ensures.items
    c.in_ok-counts.ensures.pushed c.requires.bounds)))

pub returns-clause-stands : goal.returns-clause-stands
returns-clause-stands c = λ trace at kept.
    subst (λ s. AllStand trace (reverse (all_operators (formulas_of_guards c.in_ok-guards.guards.value.items))) s.items.items) (sym c.in_ok-operators.ensures.ok)
    (subst (λ l. AllStand trace (reverse (all_operators (formulas_of_guards l))) c.in_ok-items.items.items) (ap (λ v. v.items) (sym c.in_ok-guards.ensures.ok))
    (subst (λ l. AllStand trace (reverse (all_operators l)) c.in_ok-items.items.items) (sym (copies_formulas c.args.guards.now c.in_ok-placed.placed.items c.in_ok-placed.ensures.copies))
    (made_stands c.dependence.ensures.values trace c.args.last c.args.rows (all_operators (map tree_in c.args.guards.now)) at kept c.push_all.new.out.items c.in_ok-items.items.items
    (pushed_for (all_operators (map tree_in c.args.guards.now)) c.new-operators.result.items c.push_all.new.out.items c.new-operators.ensures.items c.in_ok-counts.ensures.pushed)
    c.in_ok-items.ensures)))
