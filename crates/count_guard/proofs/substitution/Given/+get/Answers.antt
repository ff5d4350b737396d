use Rattle.count_guard.proofs.Vocabulary.{◌≡◌, None, Some, sym, ap, ◌∙◌, last_term, substitution_of}
use Rattle.std.specs.Option.{option_copied}
use Rattle.count_guard.proofs.GivenTerms.{found_last, not_found}
use Rattle.count_guard.proofs.substitution.Given.+get.Goals as goal

pub returns-in-Some : goal.returns-in-Some
returns-in-Some t c =
    let found : last_term c.in-With.xs.now c.in-With.terms.now c.args.variable None ≡ Some c.in-Some.term.now = sym c.last_in.ensures ∙ ap option_copied c.in-Some.is in
    sym (found_last c.in-With.xs.now c.in-With.terms.now c.args.variable (substitution_of c.in-With.outer.now) c.in-Some.term.now found)
    ∙ ap (λ g. substitution_of g c.args.variable) (sym c.in-With.is)

pub returns-in-None : goal.returns-in-None
returns-in-None t c =
    let absent : last_term c.in-With.xs.now c.in-With.terms.now c.args.variable None ≡ None = sym c.last_in.ensures ∙ ap option_copied c.in-None.is in
    c.get.ensures ∙ sym (not_found c.in-With.xs.now c.in-With.terms.now c.args.variable (substitution_of c.in-With.outer.now) absent)
    ∙ ap (λ g. substitution_of g c.args.variable) (sym c.in-With.is)
