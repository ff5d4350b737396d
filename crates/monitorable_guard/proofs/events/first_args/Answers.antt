use Rattle.monitorable_guard.proofs.Vocabulary.{ap, ◌∙◌, take}
use Rattle.std.proofs.lemmas.List.{take_min}
use Rattle.monitorable_guard.proofs.events.first_args.Goals as goal

pub returns : goal.returns
returns c = ap (λ n. take n c.as_slice-args.result.now) c.min.ensures ∙ take_min c.args.count c.as_slice-args.result.now ∙ ap (take c.args.count) c.as_slice-args.ensures
