use Rattle.plan_terms.proofs.Vocabulary.{◌≡◌, false, nat_eq, Option, Some, None, ⊎_elim, ne_eqb, sym, ap, subst, ◌∙◌, find, option_copied, option_map, Plan, nodes, has_number, node_number, plan_of}
use Rattle.plan_terms.specs.declared.plans.Plan.{Plan as Stored}
use Rattle.plan_terms.proofs.NodeSearch.{in_first, in_second}
use Rattle.plan_terms.proofs.plans.Plan.+at.Goals as goal

pub returns-in-Some : goal.returns-in-Some
returns-in-Some t c =
    let number = c.args.node in
    let found : Plan = plan_of c.in-Some.found.now in
    let Goal : Stored → Type 0 = λ p. nat_eq (node_number (plan_of p)) number ≡ false → Some found ≡ find (has_number number) (nodes (plan_of p)) in
    let other : nat_eq (node_number (plan_of c.args.self.now)) number ≡ false = ap (λ n. nat_eq n number) (sym c.node.ensures) ∙ ne_eqb c.node.result number c.if-node.false in
    let is : find (has_number number) (nodes (plan_of c.in-Both.left.value)) ≡ Some found =
    ap (λ (p : Stored). find (has_number number) (nodes (plan_of p))) (sym c.deref.ensures) ∙ sym c.at.ensures ∙ ap (λ r. option_map plan_of (option_copied r)) c.in-Some.is in
    ⊎_elim (λ k. subst Goal (sym k.1) (λ o. in_first number _ _ _ _ found o is)) (⊎_elim (λ k. subst Goal (sym k.1) (λ o. in_first number _ _ _ _ found o is))
    (λ k. subst Goal (sym k.4) (λ o. in_first number _ _ _ _ found o is))) c.in-Both.is other

pub returns-in-None : goal.returns-in-None
returns-in-None t c =
    let number = c.args.node in
    let found : Option Plan = option_map plan_of (option_copied c.at-in-None.result) in
    let Goal : Stored → Type 0 = λ p. nat_eq (node_number (plan_of p)) number ≡ false → found ≡ find (has_number number) (nodes (plan_of p)) in
    let other : nat_eq (node_number (plan_of c.args.self.now)) number ≡ false = ap (λ n. nat_eq n number) (sym c.node.ensures) ∙ ne_eqb c.node.result number c.if-node.false in
    let none : find (has_number number) (nodes (plan_of c.in-Both.left.value)) ≡ None =
    ap (λ (p : Stored). find (has_number number) (nodes (plan_of p))) (sym c.deref.ensures) ∙ sym c.at.ensures ∙ ap (λ r. option_map plan_of (option_copied r)) c.in-None.is in
    let is : found ≡ find (has_number number) (nodes (plan_of c.in-Both.right.value)) =
    c.at-in-None.ensures ∙ ap (λ (p : Stored). find (has_number number) (nodes (plan_of p))) c.deref-in-None.ensures in
    ⊎_elim (λ k. subst Goal (sym k.1) (λ o. in_second number _ _ _ _ found o none is))
    (⊎_elim (λ k. subst Goal (sym k.1) (λ o. in_second number _ _ _ _ found o none is)) (λ k. subst Goal (sym k.4) (λ o. in_second number _ _ _ _ found o none is))) c.in-Both.is
    other
