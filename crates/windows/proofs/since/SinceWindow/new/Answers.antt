use Rattle.windows.proofs.Vocabulary.{ap, refl, kept_entries}
use Rattle.windows.proofs.WindowLemmas.{nothing_kept}
use Rattle.windows.proofs.since.SinceWindow.new.Goals as goal

pub returns-clause-stands : goal.returns-clause-stands
returns-clause-stands c = nothing_kept _ (ap kept_entries c.with_hasher.ensures.empty) refl
