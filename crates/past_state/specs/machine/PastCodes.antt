-- How past states and their tables are stored.
use Rattle.std.specs.Coded.{Coded, coded_list, coded×, code_by}
use Rattle.std.specs.Prelude.{List, refl}
use Rattle.valuations.specs.machine.Tables.{Relation, relation_code}
use Rattle.past_state.specs.declared.guards.PlacedGuard.{PlacedGuard}
use Rattle.past_state.specs.declared.memories.StepTables.{StepTables}
use Rattle.past_state.specs.declared.operators.OperatorState.{OperatorState}
use Rattle.past_state.specs.machine.Past.{Past, PastTables}
use Rattle.past_state.specs.contracts.guards.PlacedGuard as placed
use Rattle.past_state.specs.contracts.operators.OperatorState as operator
use Rattle.past_state.specs.contracts.memories.StepTables as brought

abbrev pub past_code : Coded Past
past_code =
    code_by (List PlacedGuard × List OperatorState) (coded× (coded_list placed.the_row.coded) (coded_list
    operator.the_row.coded)) (λ p. (p.guards, p.operators))
    (λ p. record { guards = p.0; operators = p.1 }) (λ _. refl)

abbrev pub tables_code : Coded PastTables
tables_code =
    code_by (List PlacedGuard × (List StepTables × List Relation)) (coded× (coded_list placed.the_row.coded) (coded×
    (coded_list brought.the_row.coded) (coded_list relation_code))) (λ t. (t.guards, (t.steps, t.stack)))
    (λ p. record { guards = p.0; steps = p.1.0; stack = p.1.1 }) (λ _. refl)
