use Rattle.windows.proofs.Vocabulary.{◌≡◌, ◌∙◌, ap, sym, subst, none-some, same_Some, Some, Relation}
use Rattle.windows.specs.declared.steps.LastStep.{LastStep}
use Rattle.windows.specs.machine.Slots.{LastHasColumns, Slot, with_rows}
use Rattle.windows.proofs.prev_slot.PrevSlot.pass.Goals as goal

pub returns-in_default : goal.returns-in_default
returns-in_default c = λ rows columns none.
    absurd (none-some c.requires.bare.0 (sym c.in_default.is ∙ c.replace.ensures.value ∙ ap (λ (s : Slot). s.last) c.self.view_is ∙ c.requires.bare.1))

pub commit-requires-clause-columns : goal.commit-requires-clause-columns
commit-requires-clause-columns c = subst (LastHasColumns c.self.inside.columns) (sym c.replace.ensures.value ∙ c.in-Some.is) c.self.invariant.fits

pub returns : goal.returns
returns c = λ rows columns none.
    let last = c.in-Some.last in
    let was : Some last ≡ Some c.requires.bare.0 = sym c.in-Some.is ∙ c.replace.ensures.value ∙ ap (λ (s : Slot). s.last) c.self.view_is ∙ c.requires.bare.1 in
    let same_columns : last.rows.columns ≡ rows.columns = subst (LastHasColumns c.self.inside.columns) (sym c.replace.ensures.value ∙ c.in-Some.is) c.self.invariant.fits
    ∙ ap (λ (s : Slot). s.columns) c.self.view_is ∙ sym columns in
    let same_rows : last.rows.rows ≡ rows.rows = ap (λ (l : LastStep). l.rows.rows) (same_Some last c.requires.bare.0 was) ∙ c.requires.bare.2 ∙ sym none in
    let same : last.rows ≡ rows = (λ i. record { columns = same_columns i; rows = same_rows i }) in
    subst (λ (s : Slot). c.commit.new.self ≡ record s { last = Some (with_rows c.args.time rows) }) c.self.view_is
    (c.commit.ensures ∙ ap (λ (r : Relation). record { interval = c.self.inside.interval; columns = c.self.inside.columns; last = Some (with_rows c.args.time r) }) same)
