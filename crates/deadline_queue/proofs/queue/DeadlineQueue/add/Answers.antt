use Rattle.std.proofs.Common.{◌≤◌, ◌+◌, arith, subst, sym}
use Rattle.std.proofs.lemmas.Map.Views.{All-values-insert_entry, All-values-set_value}
use Rattle.std.specs.BTreeMap.{is_at}
use Rattle.std.specs.Ordering.{nat_cmp}
use Rattle.deadline_queue.specs.machine.Queues.{IsDeadlineQueue}
use Rattle.deadline_queue.proofs.queue.DeadlineQueue.add.Goals.{in-Some-get_mut, in_default-get_mut}
use Rattle.deadline_queue.proofs.queue.DeadlineQueue.add.Goals as goal

pub invariant_of-self-in_default : goal.invariant_of-self-in_default
invariant_of-self-in_default c = record {
  rising = c.insert.ensures.ordered;
  some = rw c.in_ok-count.ensures.entries (All-values-insert_entry nat_cmp c.args.deadline 1 (λ count. 1 ≤ count) _ c.self.invariant.some (omega arith));
}

pub returns-in_default-clause-queue : goal.returns-in_default-clause-queue
returns-in_default-clause-queue c = invariant_of-self-in_default c

pub invariant_of-self-2 : goal.invariant_of-self-2
invariant_of-self-2 c =
    let held : IsDeadlineQueue c.insert.new.self.entries = record {
      rising = c.insert.ensures.ordered;
      some = rw c.in_ok-count.ensures.entries (All-values-insert_entry nat_cmp c.args.deadline 1 (λ count. 1 ≤ count) _ c.self.invariant.some (omega arith));
    } in
    elim c.match-get_mut.branch [
      | in-Some-get_mut w ↦ subst (λ i. IsDeadlineQueue i.counts.entries) (sym w.self-inside-is) (let h = c.get_mut.follows.holds (c.in-Some.count + 1) in
          record {
            rising = h.4;
            some = rw h.0 (All-values-set_value (is_at (nat_cmp c.args.deadline)) (λ count. 1 ≤ count) _ (c.in-Some.count + 1) held.some (omega arith));
          })
      | in_default-get_mut w ↦ subst (λ i. IsDeadlineQueue i.counts.entries) (sym w.self-inside-is) (subst (λ m. IsDeadlineQueue m.entries) (sym c.get_mut.follows.holds-at-none) held)
    ]

pub returns-clause-queue : goal.returns-clause-queue
returns-clause-queue c = invariant_of-self-2 c
