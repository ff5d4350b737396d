use Rattle.valuations.proofs.Vocabulary.{Contains, sym, ap, ◌∙◌, false≢true, option_copied, value_at, bound_in}
use Rattle.valuations.proofs.ColumnLaws.{is_among-Decides}
use Rattle.valuations.proofs.ScopeLaws.{filled_keeps, filled_unbound, part_inside, part_outside}
use Rattle.valuations.proofs.frame.Frame.+get.Goals as goal

pub returns-then-contains : goal.returns-then-contains
returns-then-contains t c =
    let tells = is_among-Decides c.in-Part.variables.now c.args.variable in
    let there = tells.0 (sym c.contains.ensures.value ∙ c.if-contains.true) in
    c.get-then-contains.ensures ∙ sym (part_inside (bound_in c.in-Part.below.now) c.in-Part.variables.now c.args.variable there) ∙ ap (λ f. value_at (bound_in f) c.args.variable) (sym c.in-Part.is)

pub returns-else-contains : goal.returns-else-contains
returns-else-contains t c =
    let tells = is_among-Decides c.in-Part.variables.now c.args.variable in
    let absent = λ (there : Contains c.in-Part.variables.now c.args.variable). false≢true (sym c.if-contains.false ∙ c.contains.ensures.value ∙ tells.1 there) in
    sym (part_outside (bound_in c.in-Part.below.now) c.in-Part.variables.now c.args.variable absent) ∙ ap (λ f. value_at (bound_in f) c.args.variable) (sym c.in-Part.is)

pub returns-in-Some : goal.returns-in-Some
returns-in-Some t c =
    let known = sym c.get-in-Row.ensures ∙ ap option_copied c.in-Some.is in
    sym (filled_keeps (bound_in c.in-Row.below.now) c.in-Row.columns.now c.in-Row.row.now c.args.variable c.in-Some.value.now known) ∙ ap (λ f. value_at (bound_in f) c.args.variable) (sym c.in-Row.is)

pub returns-in-None : goal.returns-in-None
returns-in-None t c =
    let unknown = sym c.get-in-Row.ensures ∙ ap option_copied c.in-None.is in
    c.cell_of.ensures ∙ sym (filled_unbound (bound_in c.in-Row.below.now) c.in-Row.columns.now c.in-Row.row.now c.args.variable unknown) ∙ ap
    (λ f. value_at (bound_in f) c.args.variable) (sym c.in-Row.is)
