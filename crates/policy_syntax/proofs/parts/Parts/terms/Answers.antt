use Rattle.policy_syntax.proofs.Vocabulary.{◌≡◌, List, [], ◌∷◌, ◌++◌, sym, ap, subst, ◌∙◌, arith, TermsRead, SyntaxTerm}
use Rattle.policy_syntax.proofs.PartPhrases.{last_term, next_term, snoc_append}
use Rattle.policy_syntax.proofs.FormulaPhrases.{not_at}
use Rattle.policy_syntax.proofs.PartMoves.{argument, argument_comma, mark_stops, mark_taken, refuses_no_memory, term_barred, term_taken}
use Rattle.policy_syntax.proofs.AutomatonSteps.{after, begins, follows_err, refused_after}
use Rattle.policy_syntax.proofs.parts.Parts.terms.Invariants.{IsFront}
use Rattle.policy_syntax.proofs.parts.Parts.terms.Goals as goal

pub returns-then-not-is_at-clause-read : goal.returns-then-not-is_at-clause-read
returns-then-not-is_at-clause-read c =
    let pushed : c.push.new.self ≡ c.terms.terms ++ c.in_ok-term.term ∷ [] = grind arith in
    let P : List SyntaxTerm → Type 0 = λ xs. TermsRead c.args.depth.level c.args.depth.scope c.args.self.now.cursor.rest c.term.new.self.cursor.rest xs in
    subst P (sym pushed) (c.terms.invariant.read _ _ (last_term c.args.depth.level c.args.depth.scope _ _ _ c.in_ok-term.ensures.read))

pub terms-preserved : goal.terms-preserved
terms-preserved c =
    let f = after _ _ _ _ _ _ c.terms.invariant.follows (term_taken _ _ _ _ _ _ _ (argument c.args.depth.level c.args.depth.scope) c.requires c.in_ok-term.ensures.taken.1
    c.in_ok-term.ensures.judged c.in_ok-term.ensures.nodes) in
    let pushed : c.push.new.self ≡ c.terms.terms ++ c.in_ok-term.term ∷ [] = grind arith in
    record {
      read = λ more after r. subst (λ (xs : List SyntaxTerm). TermsRead c.args.depth.level c.args.depth.scope c.args.self.now.cursor.rest after xs)
          (snoc_append c.terms.terms c.in_ok-term.term more ∙ ap (λ (xs : List SyntaxTerm). xs ++ more) (sym pushed))
          (c.terms.invariant.read _ _ (next_term c.args.depth.level c.args.depth.scope _ _ _ _ _ _ _ c.requires c.in_ok-term.ensures.read c.in_ok-take_symbol.ensures.taken r));
      follows = after _ _ _ _ _ _ f (mark_taken _ _ _ _ _ _ _ _ (argument_comma c.args.depth.level c.args.depth.scope) c.requires c.in_ok-take_symbol.ensures.taken c.in_ok-take_symbol.ensures.nodes);
    }

pub returns-in_err-term-clause-follows : goal.returns-in_err-term-clause-follows
returns-in_err-term-clause-follows c =
    follows_err _ _ _ _ _ _ c.from_residual.ensures.1 (refused_after _ _ _ _ _ c.terms.invariant.follows
    (term_barred _ _ _ _ _ _ (argument c.args.depth.level c.args.depth.scope) c.in_err-term.ensures.judged))

pub returns-then-is_err-clause-follows : goal.returns-then-is_err-clause-follows
returns-then-is_err-clause-follows c = refuses_no_memory _ _

pub returns-then-not-is_at-clause-follows : goal.returns-then-not-is_at-clause-follows
returns-then-not-is_at-clause-follows c =
    after _ _ _ _ _ _ c.terms.invariant.follows (term_taken _ _ _ _ _ _ _ (argument c.args.depth.level c.args.depth.scope) c.requires c.in_ok-term.ensures.taken.1
    c.in_ok-term.ensures.judged c.in_ok-term.ensures.nodes)

pub returns-in_err-take_symbol-clause-follows : goal.returns-in_err-take_symbol-clause-follows
returns-in_err-take_symbol-clause-follows c =
    let f = after _ _ _ _ _ _ c.terms.invariant.follows (term_taken _ _ _ _ _ _ _ (argument c.args.depth.level c.args.depth.scope) c.requires c.in_ok-term.ensures.taken.1
    c.in_ok-term.ensures.judged c.in_ok-term.ensures.nodes) in
    follows_err _ _ _ _ _ _ c.from_residual-in_err-take_symbol.ensures.1
    (refused_after _ _ _ _ _ f (mark_stops _ _ _ _ _ _ _ (argument_comma c.args.depth.level c.args.depth.scope) (c.is_at.ensures.0 c.if-not-is_at.false) c.in_err-take_symbol.ensures.barred))

pub returns-then-not-is_at-clause-ends : goal.returns-then-not-is_at-clause-ends
returns-then-not-is_at-clause-ends c = not_at _ _ c.is_at.ensures c.if-not-is_at.true

pub terms-init : goal.terms-init
terms-init c =
    let P : List SyntaxTerm → Type 0 = λ xs. IsFront c.args.depth.level c.args.depth.scope c.args.self.now c.args.self.now xs in
    subst P (sym c.new-terms.ensures) (record { read = λ more after r. r; follows = begins _ _ })
