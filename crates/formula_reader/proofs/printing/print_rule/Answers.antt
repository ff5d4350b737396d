use Rattle.formula_reader.proofs.Vocabulary.{◌++◌, ℕ, List, codes, ap, ◌∙◌, on_err_from, part_first, part_behind, formula_text}
use Rattle.enf_formula.specs.machine.FormulaViews as tree
use Rattle.formula_reader.proofs.printing.print_rule.Goals as goal

pub returns-in_err-print_formula-clause-err : goal.returns-in_err-print_formula-clause-err
returns-in_err-print_formula-clause-err c =
    on_err_from _ (part_behind (codes "rule ") (c.args.rule.now.name ++ ((codes ": ") ++
    ((formula_text c.args.signature.now c.args.rule.now.vars (tree.tree_of c.args.rule.now.formula)) ++ ((codes ";"))))) c.args.out.now.items c.print_bytes.new.out.items
    c.print_formula.new.out.items c.in_ok-print_bytes.ensures.ok (part_behind c.args.rule.now.name
    ((codes ": ") ++ ((formula_text c.args.signature.now c.args.rule.now.vars (tree.tree_of c.args.rule.now.formula)) ++ ((codes ";")))) c.print_bytes.new.out.items
    c.print_bytes-2.new.out.items c.print_formula.new.out.items (c.in_ok-print_bytes-2.ensures.ok ∙ ap (λ (t : List ℕ). c.print_bytes.new.out.items ++ t) c.bytes.ensures.value)
    (part_behind (codes ": ") ((formula_text c.args.signature.now c.args.rule.now.vars (tree.tree_of c.args.rule.now.formula)) ++ ((codes ";"))) c.print_bytes-2.new.out.items
    c.print_bytes-3.new.out.items c.print_formula.new.out.items c.in_ok-print_bytes-3.ensures.ok
    (part_first ((formula_text c.args.signature.now c.args.rule.now.vars (tree.tree_of c.args.rule.now.formula))) (codes ";") c.print_bytes-3.new.out.items c.print_formula.new.out.items
    c.in_err-print_formula.ensures.err))))
