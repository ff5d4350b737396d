use Rattle.obligations.proofs.Vocabulary.{true≢false, sym, ◌∙◌, bound_in}
use Rattle.obligations.proofs.LeafLemmas.{nothing_suppressed}
use Rattle.obligations.proofs.leaves.suppress_missing.Goals as goal

pub returns-then-not-branch : goal.returns-then-not-branch
returns-then-not-branch c =
    nothing_suppressed (bound_in c.args.v.now) c.args.terms.now c.requires c.args.events.now c.args.name c.args.node
    (λ among. true≢false (sym (c.in_ok-is_there.ensures.1 among) ∙ c.if-not-branch.true))
