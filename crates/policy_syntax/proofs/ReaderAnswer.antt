-- The answer of the reader, from what the automaton refuses.
use Rattle.policy_syntax.proofs.Vocabulary.{◌≡◌, ℕ, List, [], length, None, Result, Err, sym, ap, subst, ◌∙◌, err_from_is_err_and, IsErrAnd, Bars, policy_tree, IsPolicyText, PolicyRead, lexemes}
use Rattle.policy_syntax.proofs.Vocabulary.{IsPolicy, PolicyRule, CallGivesSyntax, GivesSyntaxAnswer, syntax_answer_of, IsSyntaxAnswer, SyntaxRefusal, SyntaxPolicy}
use Rattle.policy_syntax.proofs.OneTree.{policy_one}
use Rattle.policy_syntax.proofs.Policies.{Answer, error_answer, error_gives, judged, policy_out}

-- the answer of a call, and no other
abbrev pub Answers : List ℕ → Answer → Type 0
Answers bytes answer = GivesSyntaxAnswer bytes answer × ((other : Answer) → IsSyntaxAnswer bytes other → CallGivesSyntax answer other)

pub answers_err : (bytes : List ℕ) (r : Result SyntaxPolicy SyntaxRefusal) (refusal : SyntaxRefusal) → IsErrAnd r (λ y. y ≡ refusal) → Bars (judged bytes) refusal → Answers bytes (syntax_answer_of r)
answers_err bytes r refusal is bars =
    let p = err_from_is_err_and r is in
    subst (λ (x : Result SyntaxPolicy SyntaxRefusal). Answers bytes (syntax_answer_of x)) (sym p.1)
    (subst (λ (y : SyntaxRefusal). Answers bytes (Err y)) (sym p.2) (error_answer bytes refusal bars, error_gives bytes refusal bars))

-- what was read is the text's policy, where nothing is refused
pub read_text : (bytes : List ℕ) (rules : List PolicyRule) → judged bytes ≡ None → PolicyRead (lexemes bytes) [] rules → IsPolicyText bytes rules
read_text bytes rules none read =
    let text = policy_out bytes (length bytes) none in
    let one = policy_one text.1.read.phrase read.phrase (text.1.read.spells ∙ sym read.spells) text.1.read.fits read.fits in
    let same : text.0 ≡ rules = sym text.1.read.tree_is ∙ ap policy_tree one ∙ read.tree_is in
    record { read = read; within = subst IsPolicy same text.1.within }
