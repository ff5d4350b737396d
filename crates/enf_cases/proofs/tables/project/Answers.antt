use Rattle.std.proofs.Common.{Contains, sym, subst, ◌∙◌}
use Rattle.enf_cases.proofs.tables.project.Goals as goal

pub project-requires-clause-within : goal.project-requires-clause-within
project-requires-clause-within c = λ x there. subst (λ l. Contains l x)
    (c.as_slice-then-are_distinct-2.ensures ∙ c.columns-then-are_distinct.ensures.columns)
    (c.are_within.ensures c.if-are_within.true x (subst (λ l. Contains l x)
    (sym c.as_slice-then-are_distinct.ensures) there))
