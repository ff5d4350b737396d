-- The first argument, and then the others.
use Rattle.action_report.proofs.Vocabulary.{◌≡◌, ◌++◌, ◌∷◌, sym, ap, ◌∙◌}
use Rattle.action_report.proofs.RowLemmas.{commas, ends_value, first_fits, first_text, others_text, rows_join}
use Rattle.action_report.proofs.cursor.Cursor.+arguments.Goals as goal

pub returns-in_default-2-clause-again : goal.returns-in_default-2-clause-again
returns-in_default-2-clause-again t c = λ args rest are ends e.
    let f = first_fits c.args.sorts.now c.in-Some.others.now c.in-Some.sort.now args c.in-Some.ensures.cases.0 are in
    absurd (c.in_default-2.not-Some f.value (c.in_ok-value.ensures.again f.value (commas f.values ++ rest) f.fit (ends_value f.value f.values rest ends)
    (first_text c.args.mark.now rest c.args.self.now.rest.now args f.values f.value f.args_are e)).0)

pub returns-in-Ok-clause-again : goal.returns-in-Ok-clause-again
returns-in-Ok-clause-again t c = λ args rest are ends e.
    let f = first_fits c.args.sorts.now c.in-Some.others.now c.in-Some.sort.now args c.in-Some.ensures.cases.0 are in
    let read = c.in_ok-value.ensures.again f.value (commas f.values ++ rest) f.fit (ends_value f.value f.values rest ends)
    (first_text c.args.mark.now rest c.args.self.now.rest.now args f.values f.value f.args_are e) in
    let same : c.in-Some-2.value ≡ f.value = cc (read.0, c.in-Some-2.is) in
    rows_join c.arguments.result c.args.row.now _ c.arguments.new.row f.values args c.in-Some-2.value _ rest c.in-Ok.ensures.ok (f.args_are ∙ ap (λ v. v ∷ f.values) (sym same))
    (c.arguments.ensures.again f.values rest f.more ends (others_text rest c.argument.new.self.rest.now f.values read.1))
