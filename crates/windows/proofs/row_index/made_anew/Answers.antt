use Rattle.windows.proofs.Vocabulary.{◌∙◌, Contains, IfSome, subst}
use Rattle.windows.specs.machine.RowIndexes.{IsIndexOf}
use Rattle.windows.proofs.row_index.made_anew.Goals as goal

pub of-requires-clause-within : goal.of-requires-clause-within
of-requires-clause-within c = λ x there.
    (subst (λ o. IfSome o (IsIndexOf c.args.among.now c.requires.indexed.0)) c.in-Some.is c.requires.indexed.1).within x (subst (λ l. Contains l x) (c.in_ok-columns.ensures ∙ c.columns.ensures) there)
