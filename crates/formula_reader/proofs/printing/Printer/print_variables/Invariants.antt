use Rattle.formula_reader.proofs.Vocabulary.{◌≡◌, ◌++◌, codes, take, flat_map, variable_text}
use Rattle.formula_reader.proofs.printing.Printer.print_variables.Given as goal

abbrev pub invariant-loop-variable : goal.invariant-loop-variable
invariant-loop-variable l =
    l.out.items ≡ l.initial.out.items ++ flat_map (λ item. codes ", " ++ variable_text l.self.vars.now item) (take l.variable-index l.rest)
