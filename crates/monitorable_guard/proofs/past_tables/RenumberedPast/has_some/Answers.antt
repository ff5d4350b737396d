use Rattle.monitorable_guard.proofs.Vocabulary.{ℕ, ◌<◌, length, List, arith, length-map, Contains-get_or, get_or, Relation, IfOk-weaker}
use Rattle.monitorable_guard.proofs.AskedGuards.{renumbered_some}
use Rattle.monitorable_guard.specs.machine.Reordering.{no_table, renumbered}
use Rattle.monitorable_guard.proofs.past_tables.RenumberedPast.has_some.Goals as goal

as_long : (numbers : List ℕ) (tables : List Relation) (operator : ℕ) → operator < length (renumbered numbers tables) → operator < length numbers
as_long numbers tables operator within = omega (arith, within, length-map numbers (λ n. get_or tables n no_table))

pub has_some-requires : goal.has_some-requires
has_some-requires g c =
    let numbers = c.args.self.now.numbers.now in
    c.args.self.now.within (get_or numbers c.args.operator 0)
    (Contains-get_or numbers c.args.operator 0 (as_long numbers (g.P.Past.tables c.args.self.now.past.now) c.args.operator c.requires))

pub returns : goal.returns
returns g c =
    let numbers = c.args.self.now.numbers.now in
    let tables = g.P.Past.tables c.args.self.now.past.now in
    let within = as_long numbers tables c.args.operator c.requires in
    let same = renumbered_some numbers tables (g.V.Lookup.valuation c.args.v.now) c.args.operator within
    (c.args.self.now.within (get_or numbers c.args.operator 0) (Contains-get_or numbers c.args.operator 0 within)) in
    IfOk-weaker c.has_some.result _ _ (λ b told. (λ t. same.0 (told.0 t), λ has. told.1 (same.1 has))) c.has_some.ensures
