use Rattle.valuations.proofs.Vocabulary.{◌∙◌, subst, sym, IsSome, refl}
use Rattle.valuations.proofs.RowLaws.{cell_some, table_row-length}
use Rattle.valuations.proofs.laws.in_table_binds.Goals as goal

pub returns : goal.returns
returns c = λ t v table has x there.
    let some = cell_some t.columns has.0 x (table_row-length t has.0 table has.1) there in
    subst IsSome (sym (has.2 x there ∙ some.1)) refl
