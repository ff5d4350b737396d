use Rattle.policy_syntax.proofs.Vocabulary.{◌≡◌, true, sym, ap, subst, ◌∙◌, arith, next_lexeme_of, PolicyLexeme, is_constant, lexeme_of, IsLexemeTaken}
use Rattle.policy_syntax.proofs.PartMoves.{constant_fine}
use Rattle.policy_syntax.proofs.PartPhrases.{variable_read, constant_read}
use Rattle.policy_syntax.proofs.parts.Parts.term.Goals as goal

pub returns-in-Name-clause-read : goal.returns-in-Name-clause-read
returns-in-Name-clause-read c = variable_read _ _ _ _ _ _ c.requires c.in_ok-place.ensures.taken

pub returns : goal.returns
returns c =
    let stands : is_constant (next_lexeme_of c.args.self.now) ≡ true = ap is_constant (sym c.lexeme-2.ensures) ∙ sym c.begins_constant.ensures ∙ c.if-not-begins_constant.false in
    let is : is_constant (lexeme_of c.in_ok-place-2.lexeme) ≡ true = ap is_constant c.in_ok-place-2.ensures.lexeme ∙ stands in
    record {
      read = constant_read _ _ _ _ _ _ _ c.requires c.in_ok-place-2.ensures.taken is c.constant.ensures;
      nodes = grind arith;
      taken = (
        c.in_ok-place-2.place,
        subst (λ (x : PolicyLexeme). IsLexemeTaken c.args.depth.level x c.in_ok-place-2.place c.args.self.now.cursor c.take.new.self.cursor)
            c.in_ok-place-2.ensures.lexeme c.in_ok-place-2.ensures.taken,
      );
      judged = constant_fine _ _ _ stands c.in_ok-place-2.ensures.taken.low;
    }
