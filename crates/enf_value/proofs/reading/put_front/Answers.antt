use Rattle.enf_value.proofs.Vocabulary.{sym, ◌∙◌, eqb-true, eqb-false}
use Rattle.enf_value.proofs.TextTokens.{none_from_texts, none_from_numbers, none_onward}
use Rattle.enf_value.proofs.reading.put_front.Goals as goal

pub returns-then-begins_text-clause-none : goal.returns-then-begins_text-clause-none
returns-then-begins_text-clause-none c =
    none_onward _ _ c.put_text.result c.put_text.ensures.none (none_from_texts c.args.bytes.now (eqb-true _ 34 (sym c.begins_text.ensures ∙ c.if-begins_text.true)))

pub returns-else-begins_text-clause-none : goal.returns-else-begins_text-clause-none
returns-else-begins_text-clause-none c =
    none_onward _ _ c.put_number.result c.put_number.ensures.none (none_from_numbers c.args.bytes.now (eqb-false _ 34 (sym c.begins_text.ensures ∙ c.if-begins_text.false)))
