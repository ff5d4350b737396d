use Rattle.formula_reader.proofs.Vocabulary.{◌≡◌, ap, sym, ◌∙◌, placed_from, printed_tokens, tokens, rule_pieces}
use Rattle.formula_reader.proofs.TokensApart.{rule-apart}
use Rattle.formula_reader.proofs.PrintedPieces.{printed-rule}
use Rattle.formula_reader.proofs.laws.text_is_cut.Goals as goal

pub returns : goal.returns
returns c = λ entries rule h.
    let cut : tokens (printed_tokens (rule_pieces entries rule)) ≡ placed_from 0 (rule_pieces entries rule) =
    c.printed_is_cut.ensures 0 (rule_pieces entries rule) (rule-apart entries rule h) in
    sym (ap tokens (printed-rule entries rule)) ∙ cut
