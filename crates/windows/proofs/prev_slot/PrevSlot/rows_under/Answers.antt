use Rattle.windows.proofs.Vocabulary.{◌∙◌, ◌↔◌, sym, false≢true, IfOk-weaker, Valuation, AgreesWhereBound, HasValuation, GivesLast}
use Rattle.windows.proofs.RowAnswerLemmas.{slot_given, slot_not_given}
use Rattle.windows.proofs.SlotLemmas.{not_given, none_given}
use Rattle.windows.proofs.prev_slot.PrevSlot.rows_under.Goals.{in-Some+else-has, in_default}
use Rattle.windows.proofs.prev_slot.PrevSlot.rows_under.Goals as goal

pub returns-then-has-clause-rows : goal.returns-then-has-clause-rows
returns-then-has-clause-rows g c =
    IfOk-weaker c.rows_of_table.result _ (λ t. (w : Valuation) → HasValuation t w ↔ (GivesLast c.args.self.now.interval c.args.time c.args.self.now.last w
    × AgreesWhereBound c.args.self.now.columns (g.V.Lookup.valuation c.args.v.now) w))
    (λ t has. slot_given c.self.inside.interval c.self.inside.columns c.self.inside.last c.args.self.now c.args.time (g.V.Lookup.valuation c.args.v.now) c.in-Some.last t c.self.view_is
    c.self.invariant.fits c.in-Some.is
    (c.has.ensures.0 c.if-has.true) has) c.rows_of_table.ensures.rows

pub returns-clause-rows : goal.returns-clause-rows
returns-clause-rows g c =
    IfOk-weaker c.no_rows.result _ (λ t. (w : Valuation) → HasValuation t w ↔ (GivesLast c.args.self.now.interval c.args.time c.args.self.now.last w
    × AgreesWhereBound c.args.self.now.columns (g.V.Lookup.valuation c.args.v.now) w))
    (λ t none. slot_not_given c.self.inside.interval c.self.inside.columns c.self.inside.last c.args.self.now c.args.time (g.V.Lookup.valuation c.args.v.now) t c.self.view_is
    (λ w gives. elim c.match-self.branch [
      | in-Some+else-has b ↦ none w ((not_given c.self.inside.interval c.args.time c.self.inside.last b.in-Some.last t b.in-Some.is
          (λ within. false≢true (sym b.if-has.false ∙ b.has.ensures.1 within)) none w).1 gives)
      | in_default b ↦ none w ((none_given c.self.inside.interval c.args.time c.self.inside.last t b.in_default.is none w).1 gives)
    ]) none) c.no_rows.ensures.rows
