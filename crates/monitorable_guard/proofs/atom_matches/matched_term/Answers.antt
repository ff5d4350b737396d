use Rattle.monitorable_guard.proofs.Vocabulary.{◌≡◌, None, ap, sym, subst, ◌∙◌, option_copied, value_at, IsLeastFor}
use Rattle.monitorable_guard.proofs.MatchLemmas.{bound_least}
use Rattle.std.specs.FinMap as finite
use Rattle.monitorable_guard.proofs.atom_matches.matched_term.Goals as goal

pub returns-in_ok-bind-in-Var-clause-some : goal.returns-in_ok-bind-in-Var-clause-some
returns-in_ok-bind-in-Var-clause-some c =
    let absent : value_at c.args.v c.in-Var.variable ≡ None = sym c.get.ensures ∙ ap option_copied c.in_default.is in
    let new : c.bind.new.self ≡ finite.insert c.args.v c.in-Var.variable c.args.value.now = c.in_ok-bind-in-Var.ensures.ok in
    subst (λ term. IsLeastFor term c.args.value.now c.args.v c.bind.new.self) (sym c.in-Var.is) (bound_least c.args.v c.bind.new.self c.in-Var.variable c.args.value.now absent new)
