use Rattle.policy_syntax.proofs.Vocabulary.{◌≡◌, subst, infix_tree, SyntaxTree, syntax_tree_of, SyntaxFormula}
use Rattle.policy_syntax.proofs.reader.joined.Goals as goal

pub returns : goal.returns
returns c =
    let Q : SyntaxTree → SyntaxFormula → SyntaxFormula → Type 0 = λ made f g. made ≡ infix_tree c.args.operator c.args.place c.args.interval (syntax_tree_of f) (syntax_tree_of g) in
    let made = syntax_tree_of c.with_infix.result in
    subst (λ (f : SyntaxFormula). Q made f c.args.right) c.in_ok-left.ensures
    (subst (λ (g : SyntaxFormula). Q made c.in_ok-left.left.value g) c.in_ok-right.ensures c.with_infix.ensures)
