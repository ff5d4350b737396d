use Rattle.prev_rows.proofs.Vocabulary.{◌≡◌, subst, IsTakenOver}
use Rattle.prev_rows.proofs.GrownLemmas.{grown_over, kept_is}
use Rattle.prev_rows.specs.declared.last_rows.Kept.TheVariants.{Told}
use Rattle.prev_rows.proofs.last_rows.LastRows.grow.Goals as goal

pub returns-in_ok-add-in-Told-clause-ok : goal.returns-in_ok-add-in-Told-clause-ok
returns-in_ok-add-in-Told-clause-ok c =
    let same : c.in-Told.slot ≡ c.args.self.now = kept_is c.self.inside.kept (Told c.in-Told.slot) c.args.self.now c.in-Told.is c.self.view_is in
    grown_over c.args.self.now c.in_ok-grown-in-Told.grown c.add.new.self c.args.time c.args.rows.now
    (subst (λ s. IsTakenOver c.args.time s c.in_ok-grown-in-Told.grown) same c.in_ok-grown-in-Told.ensures) c.in_ok-add-in-Told.ensures.ok
