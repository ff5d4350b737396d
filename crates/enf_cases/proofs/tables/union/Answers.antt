use Rattle.std.proofs.Common.{Contains, sym, subst, ◌∙◌}
use Rattle.enf_cases.proofs.tables.union.Goals as goal

pub union-requires : goal.union-requires
union-requires c = (
  λ x there. subst (λ l. Contains l x) (c.as_slice-then-are_within-2.ensures ∙
      c.columns-then-are_within-2.ensures.columns) (c.are_within-then-are_within.ensures c.if-are_within-2.true x
      (subst (λ l. Contains l x) (sym (c.as_slice-then-are_within.ensures ∙
      c.columns-then-are_within.ensures.columns)) there)),
  λ x there. subst (λ l. Contains l x) (c.as_slice-2.ensures ∙ c.columns-2.ensures.columns)
      (c.are_within.ensures c.if-are_within.true x (subst (λ l. Contains l x)
      (sym (c.as_slice.ensures ∙ c.columns.ensures.columns)) there)),
)
