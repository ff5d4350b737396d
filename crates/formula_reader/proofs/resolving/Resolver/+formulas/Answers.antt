use Rattle.formula_reader.proofs.Vocabulary.{◌≡◌, arith, length, refl, take, common_steps, syntax_tree_of}
use Rattle.formula_reader.proofs.PointsInTurn.{both_passes, bound_passes}
use Rattle.formula_reader.proofs.resolving.Resolver.+formulas.Goals as goal

pub resolve_both-returns-clause-ok : goal.resolve_both-returns-clause-ok
resolve_both-returns-clause-ok t c =
    both_passes c.args.self.now.signature.now c.args.variables.now c.resolve_boxed.new.variables c.resolve_boxed-2.new.variables
    (syntax_tree_of c.args.left.now) (syntax_tree_of c.args.right.now) (c.in_ok-left.ensures).ok (c.in_ok-right.ensures).ok

pub resolve_bound-returns-clause-ok : goal.resolve_bound-returns-clause-ok
resolve_bound-returns-clause-ok t c =
    let kept : c.truncate.new.self.items ≡ take (length c.args.variables.now.scope.items) c.resolve_boxed.new.variables.scope.items =
    grind (arith, common_steps, c.truncate.ensures.items, c.len-outside.ensures) in
    bound_passes c.args.self.now.signature.now c.args.variables.now c.bind_all.new.variables c.resolve_boxed.new.variables
    (record c.resolve_boxed.new.variables { scope = c.truncate.new.self }) c.args.bindings.now (syntax_tree_of c.args.formula.now)
    (c.in_ok-vars.ensures).ok (c.in_ok-body.ensures).ok refl refl kept
