use Rattle.monitorable_guard.proofs.Vocabulary.{sym, subst, Contains, IsSome, refl, ◌∙◌, Valuation, with_values, agrees_once, cell_some, table_row-length, value_at-with_inside, value_at-with_outside}
use Rattle.monitorable_guard.proofs.Vocabulary.{AgreesWithRow}
use Rattle.monitorable_guard.proofs.laws.evaluated_are_rows.Goals as goal

pub returns : goal.returns
returns c = λ trace i tables f bound v t safe binds stand table opens holds.
    record {
      fit = table.fits;
      rise = table.rising;
      are = λ row long.
          let w : Valuation = with_values t.columns row v in
          let here : AgreesWithRow w t.columns row = λ x there. value_at-with_inside t.columns row v x table.distinct long there in
          let told = c.evaluated_is_satisfied.ensures trace i tables f bound v t safe binds stand opens holds w
          (λ x b. sym (value_at-with_outside t.columns row v x (λ there. ((opens.exact x).0 there).1 b)))
          (λ x there. let some = cell_some t.columns row x long there in subst IsSome (sym (here x there ∙ some.1)) refl) in (
            λ there. told.0 (row, there, here),
            λ sat. let has = told.1 sat in
                subst (Contains t.rows) (agrees_once w t.columns has.0 row table.distinct (table_row-length t has.0 table has.1) long has.2 here) has.1,
          );
    }
