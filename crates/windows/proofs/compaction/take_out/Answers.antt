use Rattle.windows.proofs.Vocabulary.{rules}
use Rattle.windows.proofs.EntryLemmas.{compacted}
use Rattle.windows.proofs.compaction.take_out.Goals as goal

pub returns : goal.returns
returns c = compacted _ _ (λ k v b w g call. search rules) _ _ c.retain.ensures.filtered
