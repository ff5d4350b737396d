use Rattle.obligations.proofs.Vocabulary.{true≢false, None, Contains, sym, subst, ◌∙◌, append-nil, on_ok_weaker, IsEventAmong, values_of_terms, bound_in, suppress_literal}
use Rattle.obligations.proofs.LeafLemmas.{nothing_suppressed, one_pushed}
use Rattle.obligations.proofs.leaves.push_suppress.Goals as goal

pub returns-then-not-branch : goal.returns-then-not-branch
returns-then-not-branch c = (
  None,
  nothing_suppressed (bound_in c.args.v.now) c.args.terms.now c.requires c.args.events.now c.args.name c.args.node
      (λ among. true≢false (sym (c.in_ok-is_there.ensures.1 among) ∙ c.if-not-branch.true)),
  sym (append-nil c.args.out.now.items),
)

pub returns : goal.returns
returns c = on_ok_weaker c.push_literal.result (λ grown.
    one_pushed (λ e. Contains c.args.events.now e → ⊥) (λ e. suppress_literal e c.args.node) c.args.name c.args.out.now.items c.push_literal.new.out.items
    (values_of_terms (bound_in c.args.v.now) c.args.terms.now)
    (λ args at none. none (subst (IsEventAmong c.args.events.now c.args.name) at (c.in_ok-is_there.ensures.0 c.if-not-branch.false))) grown)
    c.push_literal.ensures
