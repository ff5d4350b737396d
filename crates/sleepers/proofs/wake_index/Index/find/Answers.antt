use Rattle.sleepers.proofs.Vocabulary.{Contains, sym, subst, Noted}
use Rattle.sleepers.proofs.NotedGroupLemmas.{found_or_sleeps}
use Rattle.sleepers.proofs.wake_index.Index.find.Goals as goal

pub returns-clause-all : goal.returns-clause-all
returns-clause-all c =
    let same = c.keep_each_once.ensures.same in
    found_or_sleeps c.args.self.now c.args.events.now c.args.time c.keep_each_once.new.numbers.items
    (λ pair there above below. same pair.1 (c.in_ok-find_each.ensures.kept pair.1
    (c.in_ok-find_up_to.ensures.ok pair (subst (λ (n : Noted). Contains n.ends pair) (sym c.self.view_is) there) below)))
    (λ group pattern is event there matches. same group (c.in_ok-find_each.ensures.ok group pattern is event there matches))
