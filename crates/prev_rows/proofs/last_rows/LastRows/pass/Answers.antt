use Rattle.prev_rows.proofs.Vocabulary.{◌≡◌, ◌∙◌, [], Some, ap, refl, subst, sym, KeepsColumns, Relation, Slot, with_rows}
use Rattle.prev_rows.proofs.GrownLemmas.{kept_is, told_columns}
use Rattle.prev_rows.specs.declared.last_rows.Kept.TheVariants.{Told}
use Rattle.prev_rows.proofs.last_rows.LastRows.pass.Goals as goal

pub returns-in-Told-clause-ok : goal.returns-in-Told-clause-ok
returns-in-Told-clause-ok c = λ rows columns none.
    let same : c.in-Told.slot ≡ c.args.self.now = kept_is c.self.inside.kept (Told c.in-Told.slot) c.args.self.now c.in-Told.is c.self.view_is in
    subst (λ (s : Slot). c.pass.new.self ≡ record s { last = Some (with_rows c.args.time rows) }) same
    (c.pass.ensures rows (columns ∙ sym (ap (λ (s : Slot). s.columns) same)) none)

pub returns-in-Told-clause-kind : goal.returns-in-Told-clause-kind
returns-in-Told-clause-kind c =
    let same : c.in-Told.slot ≡ c.args.self.now = kept_is c.self.inside.kept (Told c.in-Told.slot) c.args.self.now c.in-Told.is c.self.view_is in
    let none : Relation = record { columns = c.in-Told.slot.columns; rows = [] } in
    subst (λ s. KeepsColumns s c.pass.new.self) same (told_columns c.in-Told.slot c.pass.new.self c.args.time none refl (c.pass.ensures none refl refl))
