use Rattle.enf_formula.proofs.Vocabulary.{tree_of}
use Rattle.enf_formula.proofs.Gathering.{are_free}
use Rattle.enf_formula.proofs.formulas.Formula.free_vars.Goals as goal

pub returns : goal.returns
returns c =
    are_free (tree_of c.args.self.now) c.listed.result c.new-found.result.keys c.gather.new.found.keys c.new-found.ensures.empty c.in_ok-gather.ensures c.listed.ensures.same c.listed.ensures.rising
