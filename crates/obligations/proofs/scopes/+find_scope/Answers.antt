-- What is found below the first of two nodes, or below the second.
use Rattle.obligations.proofs.Vocabulary.{◌≡◌, false, nat_eq, IfOk, ⊎_elim, ne_eqb, refl, sym, ap, subst, ◌∙◌, Plan, has_number, plan_of, FindsScope}
use Rattle.plan_terms.specs.declared.plans.Plan.{Plan as Stored}
use Rattle.obligations.proofs.ScopeLemmas.{HasTwo, below_first, below_second_if}
use Rattle.obligations.proofs.scopes.+find_scope.Goals as goal

pub returns-then-branch : goal.returns-then-branch
returns-then-branch t c =
    let plan : Plan = plan_of c.args.plan.now in
    let left : Plan = plan_of c.in-Both.left.value in
    let right : Plan = plan_of c.in-Both.right.value in
    let other : has_number c.args.node plan ≡ false = ap (λ n. nat_eq n c.args.node) (sym c.node.ensures) ∙ ne_eqb c.node.result c.args.node c.if-node.false in
    let Two : Stored → Type 0 = λ p. HasTwo (plan_of p) left right c.args.scope.now.items in
    let two : HasTwo plan left right c.args.scope.now.items = ⊎_elim (λ k. subst Two (sym k.1) refl) (⊎_elim (λ k. subst Two (sym k.1) refl) (λ k. subst Two (sym k.4) refl)) c.in-Both.is in
    let found : FindsScope c.args.node left c.args.scope.now.items c.find_scope-in-Both.new.scope.items c.in_ok-find_scope-in-Both.field-0 =
    subst (λ (p : Stored). FindsScope c.args.node (plan_of p) c.args.scope.now.items c.find_scope-in-Both.new.scope.items c.in_ok-find_scope-in-Both.field-0) c.deref-in-Both.ensures
    c.in_ok-find_scope-in-Both.ensures in
    below_first plan left right _ _ c.args.node other two (subst (FindsScope c.args.node left c.args.scope.now.items c.find_scope-in-Both.new.scope.items) c.if-branch.true found)

pub returns-else-branch : goal.returns-else-branch
returns-else-branch t c =
    let plan : Plan = plan_of c.args.plan.now in
    let left : Plan = plan_of c.in-Both.left.value in
    let right : Plan = plan_of c.in-Both.right.value in
    let other : has_number c.args.node plan ≡ false = ap (λ n. nat_eq n c.args.node) (sym c.node.ensures) ∙ ne_eqb c.node.result c.args.node c.if-node.false in
    let Two : Stored → Type 0 = λ p. HasTwo (plan_of p) left right c.args.scope.now.items in
    let two : HasTwo plan left right c.args.scope.now.items = ⊎_elim (λ k. subst Two (sym k.1) refl) (⊎_elim (λ k. subst Two (sym k.1) refl) (λ k. subst Two (sym k.4) refl)) c.in-Both.is in
    let none : FindsScope c.args.node left c.args.scope.now.items c.find_scope-in-Both.new.scope.items c.in_ok-find_scope-in-Both.field-0 =
    subst (λ (p : Stored). FindsScope c.args.node (plan_of p) c.args.scope.now.items c.find_scope-in-Both.new.scope.items c.in_ok-find_scope-in-Both.field-0) c.deref-in-Both.ensures
    c.in_ok-find_scope-in-Both.ensures in
    below_second_if c.find_scope-in-Both-2.result plan left right _ _ _ c.args.node other two
    (subst (FindsScope c.args.node left c.args.scope.now.items c.find_scope-in-Both.new.scope.items) c.if-branch.false none)
    (subst (λ (p : Stored). IfOk c.find_scope-in-Both-2.result (FindsScope c.args.node (plan_of p) c.find_scope-in-Both.new.scope.items c.find_scope-in-Both-2.new.scope.items))
    c.deref-in-Both-2.ensures c.find_scope-in-Both-2.ensures)
