use Rattle.policy_syntax.proofs.Vocabulary.{◌≡◌, ◌∷◌, Option, IfSome, true≢false, sym, subst, ◌∙◌, arith, common_steps, PlacedToken, IsProper, placed_of, token_of, tokens_at, lexeme_of}
use Rattle.policy_syntax.proofs.Ranges.{IsSound, sound, token_ahead}
use Rattle.policy_syntax.proofs.cursor.lexeme_at.Goals as goal

pub returns-in-Some-clause-cursor : goal.returns-in-Some-clause-cursor
returns-in-Some-clause-cursor c =
    let proper : IsProper (token_of c.in-Some.next.token) = subst (λ (found : Option PlacedToken). IfSome found (λ next. IsProper (token_of next.token))) c.in-Some.is c.in_ok-next.ensures.proper in
    let is : IsSound (lexeme_of c.of_token.result) = subst IsSound (sym c.of_token.ensures) (sound _ proper) in
    record {
      short = c.requires.short;
      within = grind (arith, common_steps);
      in_range = is.0;
      nothing = λ ends. absurd (true≢false (sym ends ∙ is.1));
    }

pub returns-in-Some-clause-rest : goal.returns-in-Some-clause-rest
returns-in-Some-clause-rest c =
    let bytes = c.args.bytes.now in
    let P : PlacedToken → Type 0 = λ next. tokens_at bytes c.args.at ≡ placed_of next ∷ tokens_at bytes next.end in
    let found : P c.in-Some.next = subst (λ (found : Option PlacedToken). IfSome found P) c.in-Some.is c.in_ok-next.ensures.some in
    let proper : IsProper (token_of c.in-Some.next.token) = subst (λ (found : Option PlacedToken). IfSome found (λ next. IsProper (token_of next.token))) c.in-Some.is c.in_ok-next.ensures.proper in
    let is : IsSound (lexeme_of c.of_token.result) = subst IsSound (sym c.of_token.ensures) (sound _ proper) in
    token_ahead bytes c.args.at c.in-Some.next.place c.in-Some.next.end (token_of c.in-Some.next.token) _ c.of_token.ensures is found
