use Rattle.obligations.proofs.Vocabulary.{◌≡◌, ◌∙◌, Some, ap, sym, subst, none-some, option_copied, option_map, same_Some, plan_of, IsUnmovedIn}
use Rattle.obligations.proofs.moved_plans.stays_met.Goals as goal

pub returns-in-Some : goal.returns-in-Some
returns-in-Some c = λ yes node found.
    let same : Some (plan_of c.in-Some.node.now) ≡ Some node =
    sym (ap (λ o. option_map plan_of (option_copied o)) c.in-Some.is) ∙ (c.node_in.ensures ∙ found) in
    subst (IsUnmovedIn c.args.kind c.args.name) (same_Some (plan_of c.in-Some.node.now) node same) (c.is_unmoved.ensures yes)

pub returns-in-None : goal.returns-in-None
returns-in-None c = λ yes node found.
    absurd (none-some node (sym (ap (λ o. option_map plan_of (option_copied o)) c.in-None.is) ∙ (c.node_in.ensures ∙ found)))
