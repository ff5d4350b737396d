use Rattle.windows.proofs.Vocabulary.{take}
use Rattle.windows.proofs.PartLemmas.{Gathered}
use Rattle.windows.proofs.row_parts.push_parts.Given as goal

abbrev pub invariant-loop-part : goal.invariant-loop-part
invariant-loop-part l = Gathered l.interval l.now l.columns l.entries.entries l.parts.columns l.fn.out.items (take l.part-index l.parts.rows) l.out.items
