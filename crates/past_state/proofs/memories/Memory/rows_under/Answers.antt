use Rattle.past_state.proofs.Vocabulary.{◌↔◌, sym, subst, IfOk-weaker, AgreesWhereBound, HasValuation, given_last_answers, LastFits, FitMemory, memory_given, AnswersBy, SurvivesFor}
use Rattle.past_state.proofs.LazyTableLemmas.{window_rows}
use Rattle.past_state.proofs.memories.Memory.rows_under.Goals as goal

pub returns-in-Prev-clause-rows : goal.returns-in-Prev-clause-rows
returns-in-Prev-clause-rows g c = IfOk-weaker c.rows_under.result _ _ (λ t rows w.
    let last = given_last_answers c.in-Prev.slot c.args.time (subst LastFits c.in-Prev.is c.requires.last) w in
    subst (λ m. HasValuation t w ↔ (HasValuation (memory_given m c.args.time c.args.tables.now) w
    × AgreesWhereBound (memory_given m c.args.time c.args.tables.now).columns (g.V.Lookup.valuation c.args.v.now) w)) (sym c.in-Prev.is)
    (λ has. let both = (rows w).0 has in (last.1 both.0, both.1), λ both. (rows w).1 (last.0 both.0, both.1))) c.rows_under.ensures.rows

pub returns-in-Once-clause-rows : goal.returns-in-Once-clause-rows
returns-in-Once-clause-rows g c = IfOk-weaker c.rows_under-in-Once.result _ _ (λ t rows w.
    let fits = subst (λ m. FitMemory m c.args.tables.now) c.in-Once.is c.requires.fits in
    subst (λ m. HasValuation t w ↔ (HasValuation (memory_given m c.args.time c.args.tables.now) w
    × AgreesWhereBound (memory_given m c.args.time c.args.tables.now).columns (g.V.Lookup.valuation c.args.v.now) w)) (sym c.in-Once.is)
    (window_rows c.in-Once.window c.args.time c.args.tables.now c.as_surviving-surviving.result w (HasValuation t w)
    (AgreesWhereBound c.in-Once.window.columns (g.V.Lookup.valuation c.args.v.now) w) fits.0 fits.1 c.as_surviving-surviving.ensures
    (subst (λ r. HasValuation t w ↔ (AnswersBy c.in-Once.window c.args.time (SurvivesFor c.as_surviving-surviving.result) r w × AgreesWhereBound c.in-Once.window.columns (g.V.Lookup.valuation c.args.v.now) w))
    c.table.ensures (rows w)))) c.rows_under-in-Once.ensures.rows

pub returns-in-Since-clause-rows : goal.returns-in-Since-clause-rows
returns-in-Since-clause-rows g c = IfOk-weaker c.rows_under-in-Since.result _ _ (λ t rows w.
    let fits = subst (λ m. FitMemory m c.args.tables.now) c.in-Since.is c.requires.fits in
    subst (λ m. HasValuation t w ↔ (HasValuation (memory_given m c.args.time c.args.tables.now) w
    × AgreesWhereBound (memory_given m c.args.time c.args.tables.now).columns (g.V.Lookup.valuation c.args.v.now) w)) (sym c.in-Since.is)
    (window_rows c.in-Since.window c.args.time c.args.tables.now c.as_surviving-surviving.result w (HasValuation t w)
    (AgreesWhereBound c.in-Since.window.columns (g.V.Lookup.valuation c.args.v.now) w) fits.0 fits.1 c.as_surviving-surviving.ensures
    (subst (λ r. HasValuation t w ↔ (AnswersBy c.in-Since.window c.args.time (SurvivesFor c.as_surviving-surviving.result) r w × AgreesWhereBound c.in-Since.window.columns (g.V.Lookup.valuation c.args.v.now) w))
    c.table-in-Since.ensures (rows w)))) c.rows_under-in-Since.ensures.rows
