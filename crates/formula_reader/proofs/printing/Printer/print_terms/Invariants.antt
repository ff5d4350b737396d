use Rattle.formula_reader.proofs.Vocabulary.{◌≡◌, ◌++◌, codes, take, flat_map, term_text}
use Rattle.formula_reader.proofs.printing.Printer.print_terms.Given as goal

abbrev pub invariant-loop-term : goal.invariant-loop-term
invariant-loop-term l =
    l.out.items ≡ l.initial.out.items ++ flat_map (λ item. codes "," ++ term_text l.self.vars.now item) (take l.term-index l.rest)
