use Rattle.obligations.proofs.Vocabulary.{true≢false, Contains, sym, subst, ◌∙◌, on_ok_weaker, IsEventAmong, values_of_terms, bound_in, cause_literal}
use Rattle.obligations.proofs.LeafLemmas.{one_pushed}
use Rattle.obligations.proofs.leaves.push_cause.Goals as goal

pub returns : goal.returns
returns c = on_ok_weaker c.push_literal.result (λ grown.
    one_pushed (Contains c.args.events.now) (λ e. cause_literal e c.args.node) c.args.name c.args.out.now.items c.push_literal.new.out.items (values_of_terms (bound_in c.args.v.now) c.args.terms.now)
    (λ args at there. true≢false (sym (c.in_ok-is_there.ensures.1 (subst (IsEventAmong c.args.events.now c.args.name) (sym at) there)) ∙ c.if-branch.false)) grown)
    c.push_literal.ensures
