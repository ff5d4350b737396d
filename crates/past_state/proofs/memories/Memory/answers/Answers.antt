use Rattle.past_state.proofs.Vocabulary.{◌↔◌, IsTrue, sym, subst, AnswersBy, HasValuation, FitMemory, memory_given, SurvivesFor}
use Rattle.past_state.proofs.LazyTableLemmas.{window_has}
use Rattle.past_state.proofs.memories.Memory.answers.Goals as goal

pub returns-in-Once : goal.returns-in-Once
returns-in-Once g c =
    let fits = subst (λ m. FitMemory m c.args.tables.now) c.in-Once.is c.requires.fits in
    let v = g.V.Lookup.valuation c.args.v.now in
    subst (λ m. IsTrue c.answers-in-Once.result ↔ HasValuation (memory_given m c.args.time c.args.tables.now) v) (sym c.in-Once.is)
    (window_has c.in-Once.window c.args.time c.args.tables.now c.as_surviving-surviving.result v (IsTrue c.answers-in-Once.result) fits.0 fits.1 c.as_surviving-surviving.ensures
    (subst (λ r. IsTrue c.answers-in-Once.result ↔ AnswersBy c.in-Once.window c.args.time (SurvivesFor c.as_surviving-surviving.result) r v) c.table.ensures c.answers-in-Once.ensures))

pub returns-in-Since : goal.returns-in-Since
returns-in-Since g c =
    let fits = subst (λ m. FitMemory m c.args.tables.now) c.in-Since.is c.requires.fits in
    let v = g.V.Lookup.valuation c.args.v.now in
    subst (λ m. IsTrue c.answers-in-Since.result ↔ HasValuation (memory_given m c.args.time c.args.tables.now) v) (sym c.in-Since.is)
    (window_has c.in-Since.window c.args.time c.args.tables.now c.as_surviving-surviving.result v (IsTrue c.answers-in-Since.result) fits.0 fits.1 c.as_surviving-surviving.ensures
    (subst (λ r. IsTrue c.answers-in-Since.result ↔ AnswersBy c.in-Since.window c.args.time (SurvivesFor c.as_surviving-surviving.result) r v) c.table-in-Since.ensures c.answers-in-Since.ensures))
