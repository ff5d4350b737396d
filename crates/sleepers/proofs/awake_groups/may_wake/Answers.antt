use Rattle.sleepers.proofs.Vocabulary.{sym, ◌∙◌}
use Rattle.sleepers.proofs.awake_groups.may_wake.Goals as goal

pub returns-then-is_begun : goal.returns-then-is_begun
returns-then-is_begun g c = λ none number x there.
    let sleeps = c.may_wake.ensures none number x.patterns x.end (c.requires.found number x there (sym c.is_begun.ensures ∙ c.if-is_begun.true)) in
    record { patterns = sleeps.some; waits = sleeps.waits; none = sleeps.none; in_time = sleeps.in_time }
