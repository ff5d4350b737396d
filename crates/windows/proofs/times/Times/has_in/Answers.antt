use Rattle.windows.proofs.Vocabulary.{◌∙◌, ap, sym, subst, Contains, false≢true, none_in_nil}
use Rattle.windows.specs.machine.StoredTimes.{stored_times}
use Rattle.windows.proofs.times.Times.has_in.Goals as goal

pub returns-in-Empty : goal.returns-in-Empty
returns-in-Empty c = (
  λ no. absurd (false≢true no),
  λ some. absurd (none_in_nil some.0 (subst (λ l. Contains l some.0) (sym c.self.view_is ∙ ap stored_times c.in-Empty.is) some.1)),
)
