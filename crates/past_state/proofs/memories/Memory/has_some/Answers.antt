use Rattle.past_state.proofs.Vocabulary.{◌∷◌, [], ◌↔◌, IsTrue, sym, subst, FitMemory, memory_given, AgreesWhereBound, AnswersBy, BindsColumns, SurvivesFor, Valuation}
use Rattle.monitorable_guard.proofs.AnswerLemmas.{given_some}
use Rattle.monitorable_guard.specs.machine.Evaluation.{FirstHasUnder}
use Rattle.past_state.proofs.LazyTableLemmas.{window_some}
use Rattle.past_state.proofs.memories.Memory.has_some.Goals as goal

pub returns-in_ok-rows-in-Prev : goal.returns-in_ok-rows-in-Prev
returns-in_ok-rows-in-Prev g c = given_some (g.V.Lookup.valuation c.args.v.now) (memory_given c.args.self.now c.args.time c.args.tables.now ∷ []) c.in_ok-rows-in-Prev.rows c.in_ok-rows-in-Prev.ensures.table
    (c.in_ok-rows-in-Prev.ensures.columns, c.in_ok-rows-in-Prev.ensures.rows) c.is_empty.result c.is_empty.ensures.empty

pub returns-in-Once : goal.returns-in-Once
returns-in-Once g c =
    let fits = subst (λ m. FitMemory m c.args.tables.now) c.in-Once.is c.requires.fits in
    subst (λ m. IsTrue c.has_some.result ↔ FirstHasUnder (memory_given m c.args.time c.args.tables.now ∷ []) (g.V.Lookup.valuation c.args.v.now)) (sym c.in-Once.is)
    (window_some c.in-Once.window c.args.time c.args.tables.now c.as_surviving-surviving.result (g.V.Lookup.valuation c.args.v.now) (IsTrue c.has_some.result) fits.0 fits.1
    c.as_surviving-surviving.ensures
    (subst (λ r. IsTrue c.has_some.result ↔ ((w : Valuation) × BindsColumns w c.in-Once.window.columns × AnswersBy c.in-Once.window c.args.time (SurvivesFor c.as_surviving-surviving.result) r w
    × AgreesWhereBound c.in-Once.window.columns (g.V.Lookup.valuation c.args.v.now) w)) c.table.ensures c.has_some.ensures))

pub returns-in-Since : goal.returns-in-Since
returns-in-Since g c =
    let fits = subst (λ m. FitMemory m c.args.tables.now) c.in-Since.is c.requires.fits in
    subst (λ m. IsTrue c.has_some-in-Since.result ↔ FirstHasUnder (memory_given m c.args.time c.args.tables.now ∷ []) (g.V.Lookup.valuation c.args.v.now)) (sym c.in-Since.is)
    (window_some c.in-Since.window c.args.time c.args.tables.now c.as_surviving-surviving.result (g.V.Lookup.valuation c.args.v.now) (IsTrue c.has_some-in-Since.result) fits.0 fits.1
    c.as_surviving-surviving.ensures
    (subst (λ r. IsTrue c.has_some-in-Since.result ↔ ((w : Valuation) × BindsColumns w c.in-Since.window.columns × AnswersBy c.in-Since.window c.args.time (SurvivesFor c.as_surviving-surviving.result) r w
    × AgreesWhereBound c.in-Since.window.columns (g.V.Lookup.valuation c.args.v.now) w)) c.table-in-Since.ensures c.has_some-in-Since.ensures))
