use Rattle.enf_value.proofs.Vocabulary.{[], ◌∷◌, ap, ◌∙◌, ◌++◌, flat_map, escaped, on_err_from}
use Rattle.enf_value.proofs.Parts.{part_inside}
use Rattle.enf_value.proofs.printing.print_text.Goals as goal

pub returns-in_err-print_escaped-clause-err : goal.returns-in_err-print_escaped-clause-err
returns-in_err-print_escaped-clause-err c =
    on_err_from _ (part_inside (34 ∷ []) (flat_map escaped c.args.bytes.now) (34 ∷ []) c.args.out.now.items c.push_reserved.new.self.items c.print_escaped.new.out.items
    (c.push_reserved.ensures.items ∙ ap (λ l. l ++ 34 ∷ []) c.reserve.ensures.items) c.in_err-print_escaped.ensures.err)
