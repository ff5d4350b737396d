use Rattle.windows.proofs.Vocabulary.{sym, subst, KeepsRows, RowSurvives, AreTables}
use Rattle.windows.proofs.entries.keep_surviving.Goals as goal

pub returns-in-Only-clause-keeps : goal.returns-in-Only-clause-keeps
returns-in-Only-clause-keeps c = subst (λ s. KeepsRows (RowSurvives s) c.args.entries.now.entries c.keep_rows.new.entries.entries) (sym c.in-Only.is) c.keep_rows.ensures.keeps

pub returns-in-Only-clause-tables : goal.returns-in-Only-clause-tables
returns-in-Only-clause-tables c = λ any. subst AreTables (sym c.in-Only.is) (c.keep_rows.ensures.table any)

pub returns-in-AllBut-clause-keeps : goal.returns-in-AllBut-clause-keeps
returns-in-AllBut-clause-keeps c = subst (λ s. KeepsRows (RowSurvives s) c.args.entries.now.entries c.forget_rows.new.entries.entries) (sym c.in-AllBut.is) c.forget_rows.ensures.keeps

pub returns-in-AllBut-clause-tables : goal.returns-in-AllBut-clause-tables
returns-in-AllBut-clause-tables c = λ any. subst AreTables (sym c.in-AllBut.is) c.forget_rows.ensures.table
