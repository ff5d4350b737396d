use Rattle.save_codec.proofs.Vocabulary.{List, ap, sym, ◌∙◌, Plan, future_in}
use Rattle.save_codec.proofs.judging.Judge.named.Goals as goal

pub returns-clause-named : goal.returns-clause-named
returns-clause-named c = λ s is. c.in_ok-found.ensures ∙ ap (λ (plans : List Plan). future_in plans c.args.rule c.args.node) (sym is.plans)
