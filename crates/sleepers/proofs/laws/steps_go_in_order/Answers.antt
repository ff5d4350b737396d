use Rattle.sleepers.proofs.StepLemmas.{all_made, can_put_in, in_order}
use Rattle.sleepers.proofs.Vocabulary.{IsAsleep}
use Rattle.sleepers.proofs.laws.steps_go_in_order.Goals as goal

pub returns-clause-can_put_in : goal.returns-clause-can_put_in
returns-clause-can_put_in g c = λ events time first later all outcomes left anew step. can_put_in first later (IsAsleep events time) all outcomes left anew step

pub returns-clause-in_order : goal.returns-clause-in_order
returns-clause-in_order g c = λ events time first later all outcomes left anew grown step puts.
    in_order first later (IsAsleep events time) all outcomes left anew grown step puts

pub returns-clause-made : goal.returns-clause-made
returns-clause-made g c = λ events time first later next all outcomes left anew grown step puts below.
    all_made first later next below (IsAsleep events time) all outcomes left anew grown step puts
