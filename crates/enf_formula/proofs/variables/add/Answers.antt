use Rattle.enf_formula.proofs.Gathering.{adds_one}
use Rattle.enf_formula.proofs.variables.add.Goals as goal

pub returns : goal.returns
returns c = adds_one c.args.found.now c.insert.new.self c.args.x c.in-Ok.ensures.updates.0
