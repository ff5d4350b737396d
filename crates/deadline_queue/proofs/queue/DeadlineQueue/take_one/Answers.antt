use Rattle.std.proofs.Common.{◌≡◌, ◌≤◌, ◌-◌, Some, IfSome, arith, subst, sym}
use Rattle.std.specs.Map.{lookup}
use Rattle.std.proofs.lemmas.Map.Views.{All-map-remove_entry, All-values-set_value, IfSome-lookup_from_All}
use Rattle.std.specs.BTreeMap.{is_at}
use Rattle.std.specs.Ordering.{nat_cmp}
use Rattle.deadline_queue.specs.machine.Queues.{IsDeadlineQueue}
use Rattle.deadline_queue.proofs.queue.DeadlineQueue.take_one.Goals.{in-Some-get_mut, in_default-get_mut}
use Rattle.deadline_queue.proofs.queue.DeadlineQueue.take_one.Goals as goal

pub invariant_of-self : goal.invariant_of-self
invariant_of-self c = record {
  rising = c.remove.ensures.ordered;
  some = rw c.remove.ensures.entries (All-map-remove_entry (is_at (nat_cmp c.args.deadline)) (λ e. e.1) (λ count. 1 ≤ count) _ c.self.invariant.some);
}

pub returns-then-count-eq1-clause-queue : goal.returns-then-count-eq1-clause-queue
returns-then-count-eq1-clause-queue c = invariant_of-self c

pub invariant_of-self-2 : goal.invariant_of-self-2
invariant_of-self-2 c = elim c.match-get_mut.branch [
  | in-Some-get_mut w ↦ subst (λ i. IsDeadlineQueue i.counts.entries) (sym w.self-inside-is) (let h = c.get_mut.follows.holds (c.in-Some.count - 1) in
      let found : lookup (is_at (nat_cmp c.args.deadline)) c.self.inside.counts.entries ≡ Some c.in-Some.count = cc in
      let some : 1 ≤ c.in-Some.count = subst (λ o. IfSome o (λ count. 1 ≤ count)) found
      (IfSome-lookup_from_All (λ count. 1 ≤ count) (is_at (nat_cmp c.args.deadline)) c.self.inside.counts.entries c.self.invariant.some) in
      record {
        rising = h.4;
        some = rw h.0 (All-values-set_value (is_at (nat_cmp c.args.deadline)) (λ count. 1 ≤ count) _ (c.in-Some.count - 1) c.self.invariant.some (omega (arith, some, c.if-count-eq1.false)));
      })
  | in_default-get_mut w ↦ subst (λ i. IsDeadlineQueue i.counts.entries) (sym w.self-inside-is) (subst (λ m. IsDeadlineQueue m.entries) (sym c.get_mut.follows.holds-at-none) c.self.invariant)
]

pub returns-clause-queue : goal.returns-clause-queue
returns-clause-queue c = invariant_of-self-2 c
