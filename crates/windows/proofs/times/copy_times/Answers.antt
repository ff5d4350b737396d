use Rattle.windows.proofs.Vocabulary.{◌≡◌, ◌∙◌, refl, ap, deque_iter_rest}
use Rattle.windows.proofs.ListSteps.{all_pushed, next_pushed}
use Rattle.windows.proofs.times.copy_times.Goals as goal

pub loop-time-preserved : goal.loop-time-preserved
loop-time-preserved c =
    next_pushed c.loop-time.copy.items (deque_iter_rest c.loop-time.time-iterator) (deque_iter_rest c.next.new.self) c.push_back.new.self.items c.args.times.now.items c.in-Some.time.now
    c.in-Some.time.now
    c.loop-time.invariant c.in-Some.ensures.steps refl c.in_ok-push_back.ensures.items

pub returns : goal.returns
returns c =
    let all : c.loop-time.copy.items ≡ c.args.times.now.items = all_pushed c.loop-time.copy.items (deque_iter_rest c.loop-time.time-iterator) c.args.times.now.items c.loop-time.invariant c.in-None.ensures.steps.0 in ap (λ d. d.items) c.in_ok-new.ensures.ok ∙ all
