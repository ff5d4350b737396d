use Rattle.windows.proofs.Vocabulary.{subst, Contains, IfOk-weaker, Valuation, none_in_nil, HasValuation}
use Rattle.windows.proofs.row_answers.no_rows.Goals as goal

pub returns-clause-rows : goal.returns-clause-rows
returns-clause-rows c = IfOk-weaker c.from_rows.result _ (λ t. (v : Valuation) → HasValuation t v → ⊥)
    (λ t same v has. none_in_nil has.0 (subst (λ rows. Contains rows has.0) c.new.ensures.items ((same has.0).0 has.1))) c.from_rows.ensures.rows
