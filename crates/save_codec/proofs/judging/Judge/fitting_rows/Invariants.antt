use Rattle.save_codec.proofs.Vocabulary.{◌≡◌, ◌++◌, map, AllByRecursion, RowFits, SaveSetting, kept_row_of, IsJudge}
use Rattle.save_codec.proofs.judging.Judge.fitting_rows.Given as goal

abbrev pub invariant-loop-row : goal.invariant-loop-row
invariant-loop-row l = record {
  kept : l.kept.items ≡ map kept_row_of l.yielded;
  fit : (s : SaveSetting) → IsJudge s l.self → AllByRecursion (RowFits s) l.yielded;
  whole : l.initial.row-iterator.rest.items ≡ l.yielded ++ l.row-iterator.rest.items;
}
