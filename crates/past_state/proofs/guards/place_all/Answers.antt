use Rattle.past_state.proofs.Vocabulary.{ℕ, ◌∙◌, ◌+◌, ◌++◌, None, sym, subst, ap, refl, arith, option_to_list, false≢true, tree_of, safe_past}
use Rattle.std.specs.Option.{IsSome}
use Rattle.past_state.proofs.GuardLemmas.{placed_next, placed_none, start_fits, last_count, counts_some, all_placed, PlacedSoFar}
use Rattle.past_state.proofs.guards.place_all.Goals.{in-Some, in_default}
use Rattle.past_state.proofs.guards.place_all.Goals as goal

none_is_not : IsSome {T = ℕ} None → ⊥
none_is_not some = false≢true some

pub loop-guard-init : goal.loop-guard-init
loop-guard-init c = placed_none c.args.guards.now c.args.counts.items c.in_ok-placed.placed.items c.requires.counted c.in_ok-placed.ensures.items

pub loop-guard-preserved : goal.loop-guard-preserved
loop-guard-preserved c =
    elim c.match-pop.branch [
      | in-Some w ↦ subst (λ s. PlacedSoFar c.args.guards.now (c.loop-guard.guard-index + 1) c.pop.new.self.items s c.push.new.self.items) (sym w.start-is)
          (placed_next c.args.guards.now c.loop-guard.guard-index c.guard-item.result c.loop-guard.counts.items c.pop.new.self.items c.loop-guard.start w.in-Some.count
          c.loop-guard.placed.items c.push.new.self.items
          (record { guard = c.in_ok-copy.copy; start = c.loop-guard.start }) c.loop-guard-test.true c.guard-item.is c.loop-guard.invariant c.in_ok-push.ensures.items
          (c.in_ok-copy.ensures.formula ∙ ap tree_of c.formula.ensures.formula) (c.in_ok-copy.ensures.bound ∙ c.bound.ensures.bound) refl
          (c.pop.ensures.items ∙ ap (λ r. c.pop.new.self.items ++ option_to_list r) w.in-Some.is)
          (safe_past None (tree_of c.guard-item.result.formula) _ c.formula.ensures.safe))
      | in_default w ↦ absurd (none_is_not (subst IsSome w.in_default.is (c.pop.ensures.variant.1
          (omega (
            arith,
            counts_some c.args.guards.now c.loop-guard.guard-index c.loop-guard.counts.items c.loop-guard.start c.loop-guard.placed.items c.loop-guard-test.true
                c.loop-guard.invariant,
            c.loop-guard.counts.ok.0,
          )))))
    ]

pub overflow_add-start : goal.overflow_add-start
overflow_add-start c =
    let popped = c.pop.ensures.items ∙ ap (λ r. c.pop.new.self.items ++ option_to_list r) c.in-Some.is in
    let counted = last_count c.args.guards.now c.loop-guard.guard-index c.guard-item.result c.loop-guard.counts.items c.pop.new.self.items c.loop-guard.start c.in-Some.count
    c.loop-guard.placed.items c.loop-guard-test.true c.guard-item.is c.loop-guard.invariant popped in
    omega (
      arith,
      counted,
      start_fits c.args.guards.now c.loop-guard.guard-index c.loop-guard.start c.guard-item.result c.loop-guard-test.true c.guard-item.is
          c.loop-guard.invariant.start_is,
      c.requires.few,
    )

pub returns-clause-past : goal.returns-clause-past
returns-clause-past c = all_placed c.args.guards.now c.loop-guard.guard-index c.loop-guard.counts.items c.loop-guard.start c.loop-guard.placed.items c.loop-guard-test.false c.loop-guard.invariant
