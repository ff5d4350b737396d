use Rattle.formula_reader.proofs.Vocabulary.{◌++◌, ◌∷◌, [], Bool, OnErr, sym, subst, ◌∙◌, AppendsPart, on_err_from, part_none, part_first, part_behind, part_last, enclosed_text, formula_text}
use Rattle.formula_reader.proofs.Vocabulary.{separated_text, operand_text, operator_text, variable_text}
use Rattle.enf_formula.specs.machine.FormulaViews as tree
use Rattle.formula_reader.proofs.printing.Printer.+printing.Goals as goal

pub print_infix-returns-in_err-print_operand-clause-err : goal.print_infix-returns-in_err-print_operand-clause-err
print_infix-returns-in_err-print_operand-clause-err t c =
    on_err_from _ (part_first ((operand_text c.args.self.now.signature.now c.args.self.now.vars.now (tree.tree_of c.args.left.now)))
    ((32 ∷ []) ++ ((operator_text c.args.operator.now) ++ ((32 ∷ []) ++ ((operand_text c.args.self.now.signature.now c.args.self.now.vars.now (tree.tree_of c.args.right.now))))))
    c.args.out.now.items c.print_operand.new.out.items c.in_err-print_operand.ensures.err)

pub print_infix-returns-in_err-print-clause-err : goal.print_infix-returns-in_err-print-clause-err
print_infix-returns-in_err-print-clause-err t c =
    on_err_from _ (part_behind ((operand_text c.args.self.now.signature.now c.args.self.now.vars.now (tree.tree_of c.args.left.now)))
    ((32 ∷ []) ++ ((operator_text c.args.operator.now) ++ ((32 ∷ []) ++ ((operand_text c.args.self.now.signature.now c.args.self.now.vars.now (tree.tree_of c.args.right.now))))))
    c.args.out.now.items c.print_operand.new.out.items c.print.new.out.items c.in_ok-print_operand.ensures.ok
    (part_behind (32 ∷ []) ((operator_text c.args.operator.now) ++ ((32 ∷ []) ++ ((operand_text c.args.self.now.signature.now c.args.self.now.vars.now
    (tree.tree_of c.args.right.now))))) c.print_operand.new.out.items c.print_bytes.new.out.items c.print.new.out.items c.in_ok-print_bytes.ensures.ok
    (part_first (operator_text c.args.operator.now) ((32 ∷ []) ++ ((operand_text c.args.self.now.signature.now c.args.self.now.vars.now (tree.tree_of c.args.right.now))))
    c.print_bytes.new.out.items c.print.new.out.items c.in_err-print.ensures.err)))

pub print_infix-returns-in_err-print_bytes-2-clause-err : goal.print_infix-returns-in_err-print_bytes-2-clause-err
print_infix-returns-in_err-print_bytes-2-clause-err t c =
    on_err_from _ (part_behind ((operand_text c.args.self.now.signature.now c.args.self.now.vars.now (tree.tree_of c.args.left.now)))
    ((32 ∷ []) ++ ((operator_text c.args.operator.now) ++ ((32 ∷ []) ++ ((operand_text c.args.self.now.signature.now c.args.self.now.vars.now (tree.tree_of c.args.right.now))))))
    c.args.out.now.items c.print_operand.new.out.items c.print_bytes-2.new.out.items c.in_ok-print_operand.ensures.ok
    (part_behind (32 ∷ []) ((operator_text c.args.operator.now) ++ ((32 ∷ []) ++ ((operand_text c.args.self.now.signature.now c.args.self.now.vars.now
    (tree.tree_of c.args.right.now))))) c.print_operand.new.out.items c.print_bytes.new.out.items c.print_bytes-2.new.out.items c.in_ok-print_bytes.ensures.ok
    (part_behind (operator_text c.args.operator.now) ((32 ∷ []) ++ ((operand_text c.args.self.now.signature.now c.args.self.now.vars.now (tree.tree_of c.args.right.now))))
    c.print_bytes.new.out.items c.print.new.out.items c.print_bytes-2.new.out.items c.in_ok-print.ensures.ok
    (part_none ((32 ∷ []) ++ ((operand_text c.args.self.now.signature.now c.args.self.now.vars.now (tree.tree_of c.args.right.now)))) c.print.new.out.items
    c.print_bytes-2.new.out.items c.in_err-print_bytes-2.ensures.err))))

pub print_infix-returns-clause-err : goal.print_infix-returns-clause-err
print_infix-returns-clause-err t c =
    part_last c.print_operand-2.result ((operand_text c.args.self.now.signature.now c.args.self.now.vars.now (tree.tree_of c.args.left.now)))
    ((32 ∷ []) ++ ((operator_text c.args.operator.now) ++ ((32 ∷ []) ++ ((operand_text c.args.self.now.signature.now c.args.self.now.vars.now (tree.tree_of c.args.right.now))))))
    c.args.out.now.items c.print_operand.new.out.items c.print_operand-2.new.out.items c.in_ok-print_operand.ensures.ok
    (part_last c.print_operand-2.result (32 ∷ []) ((operator_text c.args.operator.now) ++
    ((32 ∷ []) ++ ((operand_text c.args.self.now.signature.now c.args.self.now.vars.now (tree.tree_of c.args.right.now))))) c.print_operand.new.out.items c.print_bytes.new.out.items
    c.print_operand-2.new.out.items c.in_ok-print_bytes.ensures.ok (part_last c.print_operand-2.result (operator_text c.args.operator.now)
    ((32 ∷ []) ++ ((operand_text c.args.self.now.signature.now c.args.self.now.vars.now (tree.tree_of c.args.right.now)))) c.print_bytes.new.out.items c.print.new.out.items
    c.print_operand-2.new.out.items c.in_ok-print.ensures.ok (part_last c.print_operand-2.result (32 ∷ [])
    ((operand_text c.args.self.now.signature.now c.args.self.now.vars.now (tree.tree_of c.args.right.now))) c.print.new.out.items c.print_bytes-2.new.out.items
    c.print_operand-2.new.out.items c.in_ok-print_bytes-2.ensures.ok c.print_operand-2.ensures.err)))

pub print_operand-returns-in_err-print_formula-clause-err : goal.print_operand-returns-in_err-print_formula-clause-err
print_operand-returns-in_err-print_formula-clause-err t c =
    subst (λ (alone : Bool). OnErr c.from_residual-in_err-print_formula.result (AppendsPart
    (enclosed_text alone (formula_text c.args.self.now.signature.now c.args.self.now.vars.now (tree.tree_of c.args.formula.now))) c.args.out.now.items c.print_formula-2.new.out.items))
    (sym c.if-stands_alone.false ∙ c.stands_alone.ensures)
    (on_err_from _ (part_behind (40 ∷ []) ((formula_text c.args.self.now.signature.now c.args.self.now.vars.now (tree.tree_of c.args.formula.now)) ++ ((41 ∷ []))) c.args.out.now.items
    c.print_bytes.new.out.items c.print_formula-2.new.out.items c.in_ok-print_bytes.ensures.ok
    (part_first ((formula_text c.args.self.now.signature.now c.args.self.now.vars.now (tree.tree_of c.args.formula.now))) (41 ∷ []) c.print_bytes.new.out.items
    c.print_formula-2.new.out.items c.in_err-print_formula.ensures.err)))

pub print_prefix-returns-in_err-print-clause-err : goal.print_prefix-returns-in_err-print-clause-err
print_prefix-returns-in_err-print-clause-err t c =
    on_err_from _ (part_first (operator_text c.args.operator.now) ((32 ∷ []) ++ ((operand_text c.args.self.now.signature.now c.args.self.now.vars.now (tree.tree_of c.args.formula.now))))
    c.args.out.now.items c.print.new.out.items c.in_err-print.ensures.err)

pub print_prefix-returns-clause-err : goal.print_prefix-returns-clause-err
print_prefix-returns-clause-err t c =
    part_last c.print_operand.result (operator_text c.args.operator.now) ((32 ∷ []) ++
    ((operand_text c.args.self.now.signature.now c.args.self.now.vars.now (tree.tree_of c.args.formula.now)))) c.args.out.now.items c.print.new.out.items c.print_operand.new.out.items
    c.in_ok-print.ensures.ok (part_last c.print_operand.result (32 ∷ []) ((operand_text c.args.self.now.signature.now c.args.self.now.vars.now (tree.tree_of c.args.formula.now)))
    c.print.new.out.items c.print_bytes.new.out.items c.print_operand.new.out.items c.in_ok-print_bytes.ensures.ok c.print_operand.ensures.err)

pub print_quantified-returns-in_err-print_variables-clause-err : goal.print_quantified-returns-in_err-print_variables-clause-err
print_quantified-returns-in_err-print_variables-clause-err t c =
    on_err_from _ (part_behind c.args.word.now ((separated_text (variable_text c.args.self.now.vars.now) (44 ∷ 32 ∷ []) c.args.variables.now) ++
    ((46 ∷ 32 ∷ []) ++ ((operand_text c.args.self.now.signature.now c.args.self.now.vars.now (tree.tree_of c.args.formula.now))))) c.args.out.now.items c.print_bytes.new.out.items
    c.print_variables.new.out.items c.in_ok-print_bytes.ensures.ok (part_first ((separated_text (variable_text c.args.self.now.vars.now) (44 ∷ 32 ∷ []) c.args.variables.now))
    ((46 ∷ 32 ∷ []) ++ ((operand_text c.args.self.now.signature.now c.args.self.now.vars.now (tree.tree_of c.args.formula.now)))) c.print_bytes.new.out.items
    c.print_variables.new.out.items c.in_err-print_variables.ensures.err))

pub print_quantified-returns-in_err-print_bytes-2-clause-err : goal.print_quantified-returns-in_err-print_bytes-2-clause-err
print_quantified-returns-in_err-print_bytes-2-clause-err t c =
    on_err_from _ (part_behind c.args.word.now ((separated_text (variable_text c.args.self.now.vars.now) (44 ∷ 32 ∷ []) c.args.variables.now) ++
    ((46 ∷ 32 ∷ []) ++ ((operand_text c.args.self.now.signature.now c.args.self.now.vars.now (tree.tree_of c.args.formula.now))))) c.args.out.now.items c.print_bytes.new.out.items
    c.print_bytes-2.new.out.items c.in_ok-print_bytes.ensures.ok (part_behind ((separated_text (variable_text c.args.self.now.vars.now) (44 ∷ 32 ∷ []) c.args.variables.now))
    ((46 ∷ 32 ∷ []) ++ ((operand_text c.args.self.now.signature.now c.args.self.now.vars.now (tree.tree_of c.args.formula.now)))) c.print_bytes.new.out.items
    c.print_variables.new.out.items c.print_bytes-2.new.out.items c.in_ok-print_variables.ensures.ok
    (part_none ((46 ∷ 32 ∷ []) ++ ((operand_text c.args.self.now.signature.now c.args.self.now.vars.now (tree.tree_of c.args.formula.now)))) c.print_variables.new.out.items
    c.print_bytes-2.new.out.items c.in_err-print_bytes-2.ensures.err)))

pub print_quantified-returns-clause-err : goal.print_quantified-returns-clause-err
print_quantified-returns-clause-err t c =
    part_last c.print_operand.result c.args.word.now ((separated_text (variable_text c.args.self.now.vars.now) (44 ∷ 32 ∷ []) c.args.variables.now) ++
    ((46 ∷ 32 ∷ []) ++ ((operand_text c.args.self.now.signature.now c.args.self.now.vars.now (tree.tree_of c.args.formula.now))))) c.args.out.now.items c.print_bytes.new.out.items
    c.print_operand.new.out.items c.in_ok-print_bytes.ensures.ok (part_last c.print_operand.result
    ((separated_text (variable_text c.args.self.now.vars.now) (44 ∷ 32 ∷ []) c.args.variables.now))
    ((46 ∷ 32 ∷ []) ++ ((operand_text c.args.self.now.signature.now c.args.self.now.vars.now (tree.tree_of c.args.formula.now)))) c.print_bytes.new.out.items
    c.print_variables.new.out.items c.print_operand.new.out.items c.in_ok-print_variables.ensures.ok
    (part_last c.print_operand.result (46 ∷ 32 ∷ []) ((operand_text c.args.self.now.signature.now c.args.self.now.vars.now (tree.tree_of c.args.formula.now)))
    c.print_variables.new.out.items c.print_bytes-2.new.out.items c.print_operand.new.out.items c.in_ok-print_bytes-2.ensures.ok c.print_operand.ensures.err))
