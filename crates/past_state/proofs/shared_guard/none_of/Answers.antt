use Rattle.past_state.proofs.Vocabulary.{◌≡◌, ◌∙◌, List, [], ◌∷◌, ap, refl, sym, subst, here, IfOk-weaker, none_in_nil, AreOpen, IsTable, tree_of, variable_cmp_total, Contains, HasNoRepeats}
use Rattle.enf_data.proofs.RisingLists.{rising_distinct}
use Rattle.past_state.proofs.shared_guard.none_of.Goals as goal

no_item : {X : Type 0} (xs : List X) → ((x : X) → Contains xs x → ⊥) → xs ≡ []
no_item [] none = refl
no_item (x ∷ xs) none = absurd (none x (here x xs))

pub from_rows-requires-clause-distinct : goal.from_rows-requires-clause-distinct
from_rows-requires-clause-distinct c = subst HasNoRepeats (sym c.in_ok-columns.ensures) (rising_distinct variable_cmp_total c.columns.result.now c.columns.ensures.rising)

pub returns-clause-table : goal.returns-clause-table
returns-clause-table c = IfOk-weaker c.of.result _ IsTable (λ right same. subst IsTable (sym same) c.in_ok-rows.ensures.table) c.of.ensures

pub returns-clause-none : goal.returns-clause-none
returns-clause-none c = IfOk-weaker c.of.result _ (λ right. right.rows ≡ [])
    (λ right same. ap (λ t. t.rows) same ∙ no_item c.in_ok-rows.rows.rows (λ row there. none_in_nil row (subst (λ l. Contains l row) c.new.ensures.items ((c.in_ok-rows.ensures.rows row).0 there)))) c.of.ensures

pub returns-clause-columns : goal.returns-clause-columns
returns-clause-columns c = IfOk-weaker c.of.result _ (λ right. AreOpen (tree_of c.args.guard.now.formula) c.args.guard.now.bound right.columns)
    (λ right same. subst (AreOpen (tree_of c.args.guard.now.formula) c.args.guard.now.bound) (sym (ap (λ t. t.columns) same ∙ c.in_ok-rows.ensures.columns ∙ c.in_ok-columns.ensures)) c.columns.ensures) c.of.ensures
