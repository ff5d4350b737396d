use Rattle.pending.proofs.Vocabulary.{◌+◌, ◌∙◌, map, subst, sym, on_ok_weaker, AllByRecursion, on_ok_both, count_entries, plan_of, guards_now, CanAskOf, ArePendingEntries, IsPendingListOf}
use Rattle.pending.proofs.EntryLemmas.{listed_items}
use Rattle.pending.proofs.ProgressLemmas.{asked_behind, can_put, fit_next, goes, kept_later, leads, waits_behind}
use Rattle.pending.proofs.pending.Pending.progress.Goals as goal

pub carry-requires-clause-asked : goal.carry-requires-clause-asked
carry-requires-clause-asked c =
    subst (λ p. AllByRecursion (CanAskOf (guards_now c.args.now.now) (map plan_of c.args.plans.now)) p.instances) (sym c.self.view_is) c.requires.instances

pub carry-requires-clause-held : goal.carry-requires-clause-held
carry-requires-clause-held c = λ d.
    sym (count_entries c.self.inside.deadlines d c.self.invariant.0) ∙ (subst (IsPendingListOf (map plan_of c.args.plans.now)) (sym c.self.view_is) c.requires.keeps).due d

pub invariant_of-self : goal.invariant_of-self
invariant_of-self c = (
  c.carry.ensures.queue,
  subst (λ steps. ArePendingEntries steps c.carry.new.sleepers.entries) (sym c.in_ok-next.ensures.0)
      (c.carry.ensures.kept (c.self.inside.steps + 1) (kept_later c.self.inside.steps c.self.inside.sleepers.entries c.in_ok-next.ensures.1 c.self.invariant.1)),
)

pub put_each-requires-clause-can : goal.put_each-requires-clause-can
put_each-requires-clause-can c =
    can_put c.args.now.now (map plan_of c.args.plans.now) c.args.inserted c.self.inside.steps c.self.inside.sleepers.entries c.carry.new.sleepers.entries c.in_ok-more.more.items
    c.in_ok-next.ensures.1 c.self.invariant.1 c.args.self.now _ c.self.view_is c.requires.keeps c.requires.instances c.in_ok-more.ensures.carries c.steps_go_in_order.ensures.can_put_in

pub invariant_of-self-2 : goal.invariant_of-self-2
invariant_of-self-2 c = (
  c.put_each.ensures.queue,
  subst (λ steps. ArePendingEntries steps c.put_each.new.sleepers.entries) (sym c.in_ok-next.ensures.0)
      (c.put_each.ensures.kept (c.self.inside.steps + 1)
      (c.carry.ensures.kept (c.self.inside.steps + 1) (kept_later c.self.inside.steps c.self.inside.sleepers.entries c.in_ok-next.ensures.1 c.self.invariant.1))
      (fit_next c.args.now.now (map plan_of c.args.plans.now) c.args.inserted c.self.inside.steps c.self.inside.sleepers.entries c.carry.new.sleepers.entries c.in_ok-more.more.items
      c.in_ok-next.ensures.1 c.self.invariant.1 c.args.self.now _ c.self.view_is c.requires.keeps c.requires.instances c.in_ok-more.ensures.carries)),
)

pub returns-clause-goes : goal.returns-clause-goes
returns-clause-goes c = on_ok_weaker c.put_each.result
    (λ puts before newest is later. goes c.args.now.now (map plan_of c.args.plans.now) c.args.inserted c.self.inside.steps c.self.inside.sleepers.entries c.carry.new.sleepers.entries c.in_ok-more.more.items
    c.in_ok-next.ensures.1 c.self.invariant.1 c.args.self.now _ c.self.view_is c.requires.keeps c.requires.instances c.in_ok-more.ensures.carries
    c.put_each.new.sleepers.entries c.steps_go_in_order.ensures.in_order puts c.pending_exists.ensures.after c.sleepers_stay.ensures.stays c.sleepers_stay.ensures.early_stays
    c.requires.named before newest is later) c.put_each.ensures.puts

pub returns-clause-leads : goal.returns-clause-leads
returns-clause-leads c = on_ok_weaker c.put_each.result
    (λ puts. leads c.args.now.now (map plan_of c.args.plans.now) c.args.inserted c.self.inside.steps c.self.inside.sleepers.entries c.carry.new.sleepers.entries c.in_ok-more.more.items
    c.in_ok-next.ensures.1 c.self.invariant.1 c.args.self.now _ c.self.view_is c.requires.keeps c.requires.instances c.in_ok-more.ensures.carries
    c.put_each.new.sleepers.entries c.steps_go_in_order.ensures.in_order puts) c.put_each.ensures.puts

pub returns-clause-keeps : goal.returns-clause-keeps
returns-clause-keeps c = on_ok_both c.put_each.result _ _ _
    (λ puts held. record {
      due = λ d. count_entries c.put_each.new.deadlines d c.put_each.ensures.queue ∙ held d;
      instances = listed_items c.put_each.new.sleepers.entries;
      waits = waits_behind c.args.now.now (map plan_of c.args.plans.now) c.args.inserted c.self.inside.steps c.self.inside.sleepers.entries c.carry.new.sleepers.entries c.in_ok-more.more.items
          c.in_ok-next.ensures.1 c.self.invariant.1 c.args.self.now _ c.self.view_is c.requires.keeps c.requires.instances c.in_ok-more.ensures.carries
          c.put_each.new.sleepers.entries c.steps_go_in_order.ensures.in_order puts;
    }) c.put_each.ensures.puts c.put_each.ensures.held

pub returns-clause-instances : goal.returns-clause-instances
returns-clause-instances c = on_ok_weaker c.put_each.result
    (λ puts. asked_behind c.args.now.now (map plan_of c.args.plans.now) c.args.inserted c.self.inside.steps c.self.inside.sleepers.entries c.carry.new.sleepers.entries c.in_ok-more.more.items
    c.in_ok-next.ensures.1 c.self.invariant.1 c.args.self.now _ c.self.view_is c.requires.keeps c.requires.instances c.in_ok-more.ensures.carries
    c.put_each.new.sleepers.entries c.steps_go_in_order.ensures.in_order puts) c.put_each.ensures.puts
