use Rattle.enf_value.proofs.Vocabulary.{sym, ◌∙◌, eqb-true, eqb-false}
use Rattle.enf_value.proofs.TextTokens.{none_from_texts, none_from_numbers, none_through}
use Rattle.enf_value.proofs.reading.read_front.Goals as goal

pub returns-in_ok-read_text-clause-none : goal.returns-in_ok-read_text-clause-none
returns-in_ok-read_text-clause-none c =
    none_through _ _ _ c.in_ok-read_text.field-0 c.map.result c.map.ensures.cases c.in_ok-read_text.ensures.none
    (none_from_texts c.args.bytes.now (eqb-true _ 34 (sym c.begins_text.ensures ∙ c.if-begins_text.true)))

pub returns-else-begins_text-clause-none : goal.returns-else-begins_text-clause-none
returns-else-begins_text-clause-none c =
    none_through _ _ _ c.read_number.result c.map-else-begins_text.result c.map-else-begins_text.ensures.cases c.read_number.ensures.none
    (none_from_numbers c.args.bytes.now (eqb-false _ 34 (sym c.begins_text.ensures ∙ c.if-begins_text.false)))
