use Rattle.monitorable_guard.proofs.Vocabulary.{ℕ, ◌<◌, length, List, arith, length-map, Contains-get_or, get_or, Relation}
use Rattle.monitorable_guard.proofs.AskedGuards.{ok_renumbered}
use Rattle.monitorable_guard.specs.machine.Reordering.{no_table, renumbered}
use Rattle.monitorable_guard.proofs.past_tables.RenumberedPast.rows_under.Goals as goal

as_long : (numbers : List ℕ) (tables : List Relation) (operator : ℕ) → operator < length (renumbered numbers tables) → operator < length numbers
as_long numbers tables operator within = omega (arith, within, length-map numbers (λ n. get_or tables n no_table))

pub rows_under-requires : goal.rows_under-requires
rows_under-requires g c =
    let numbers = c.args.self.now.numbers.now in
    c.args.self.now.within (get_or numbers c.args.operator 0)
    (Contains-get_or numbers c.args.operator 0 (as_long numbers (g.P.Past.tables c.args.self.now.past.now) c.args.operator c.requires))

pub returns-clause-rows : goal.returns-clause-rows
returns-clause-rows g c =
    let numbers = c.args.self.now.numbers.now in
    let tables = g.P.Past.tables c.args.self.now.past.now in
    let within = as_long numbers tables c.args.operator c.requires in
    ok_renumbered numbers tables (g.V.Lookup.valuation c.args.v.now) c.args.operator within c.rows_under.result
    (c.args.self.now.within (get_or numbers c.args.operator 0) (Contains-get_or numbers c.args.operator 0 within)) c.rows_under.ensures.rows
