use Rattle.windows.proofs.Vocabulary.{refl, sym, subst, deque_iter_rest, IsDueQueue}
use Rattle.windows.proofs.ListSteps.{all_pushed, next_pushed}
use Rattle.windows.proofs.queue.DueQueueDuplicate.duplicate.Goals as goal

pub loop-due-preserved : goal.loop-due-preserved
loop-due-preserved c =
    next_pushed c.loop-due.dues.items (deque_iter_rest c.loop-due.due-iterator) (deque_iter_rest c.next.new.self) c.push_back.new.self.items c.self.inside.dues.items c.in-Some.due.now
    c.in-Some.due.now
    c.loop-due.invariant c.in-Some.ensures.steps refl c.in_ok-push_back.ensures.items

pub invariant_of-result : goal.invariant_of-result
invariant_of-result c =
    subst (λ l. IsDueQueue (record { dues = l; far = c.self.inside.far }))
    (sym (all_pushed c.loop-due.dues.items (deque_iter_rest c.loop-due.due-iterator) c.self.inside.dues.items c.loop-due.invariant c.in-None.ensures.steps.0)) c.self.invariant
