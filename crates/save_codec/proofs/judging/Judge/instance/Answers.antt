-- The node is the one that the numbers name.
use Rattle.save_codec.proofs.Vocabulary.{refl, ◌∙◌}
use Rattle.save_codec.proofs.InstanceLemmas.{named_there}
use Rattle.save_codec.proofs.judging.Judge.instance.Goals as goal

pub returns-in-Some-found-clause-judges : goal.returns-in-Some-found-clause-judges
returns-in-Some-found-clause-judges c = λ s is before.
    let n = c.turn.new.named in
    let due = c.args.due.now in
    c.instance_at.ensures s is (named_there s s.plans due n.rule n.node n.found c.in-Some-found.found refl (c.in_ok-turn.ensures.numbers.0 ∙ c.in-Some.ensures.some.0)
    (c.in_ok-turn.ensures.numbers.1 ∙ c.in-Some.ensures.some.1) (c.turn.ensures.named s is before) c.in-Some-found.is)
