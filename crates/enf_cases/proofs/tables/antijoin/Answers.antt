use Rattle.std.proofs.Common.{Contains, sym, subst, ◌∙◌}
use Rattle.enf_cases.proofs.tables.antijoin.Goals as goal

pub antijoin-requires : goal.antijoin-requires
antijoin-requires c = λ x there. subst (λ l. Contains l x) (c.as_slice-2.ensures ∙ c.columns-2.ensures.columns)
    (c.are_within.ensures c.if-are_within.true x (subst (λ l. Contains l x)
    (sym (c.as_slice.ensures ∙ c.columns.ensures.columns)) there))
