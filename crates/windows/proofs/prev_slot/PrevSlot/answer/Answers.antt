use Rattle.windows.proofs.Vocabulary.{◌↔◌, ◌∙◌, sym, subst, false≢true, IfOk-weaker, Valuation, HasValuation, GivesLast}
use Rattle.windows.proofs.SlotLemmas.{given, not_given, none_given}
use Rattle.windows.proofs.prev_slot.PrevSlot.answer.Goals.{in-Some+else-has, in_default}
use Rattle.windows.proofs.prev_slot.PrevSlot.answer.Goals as goal

pub returns-then-has-clause-rows : goal.returns-then-has-clause-rows
returns-then-has-clause-rows c =
    IfOk-weaker c.duplicate.result _ (λ t. (v : Valuation) → HasValuation t v ↔ GivesLast c.args.self.now.interval c.args.time c.args.self.now.last v)
    (λ t same v. subst (λ s. HasValuation t v ↔ GivesLast s.interval c.args.time s.last v) c.self.view_is
    (given c.self.inside.interval c.args.time c.self.inside.last c.in-Some.last t c.in-Some.is (c.has.ensures.0 c.if-has.true) same v)) c.duplicate.ensures

pub returns-clause-rows : goal.returns-clause-rows
returns-clause-rows c =
    IfOk-weaker c.no_rows.result _ (λ t. (v : Valuation) → HasValuation t v ↔ GivesLast c.args.self.now.interval c.args.time c.args.self.now.last v)
    (λ t none v. subst (λ s. HasValuation t v ↔ GivesLast s.interval c.args.time s.last v) c.self.view_is
    (elim c.match-self.branch [
      | in-Some+else-has w ↦ not_given c.self.inside.interval c.args.time c.self.inside.last w.in-Some.last t w.in-Some.is (λ within. false≢true (sym w.if-has.false ∙ w.has.ensures.1 within)) none v
      | in_default w ↦ none_given c.self.inside.interval c.args.time c.self.inside.last t w.in_default.is none v
    ])) c.no_rows.ensures.rows
