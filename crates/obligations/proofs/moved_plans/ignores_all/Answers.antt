use Rattle.obligations.proofs.Vocabulary.{◌≡◌, ◌∙◌, All, Some, ap, sym, subst, none-some, option_copied, option_map, same_Some, take_all, All-contains, NameId, plan_of, IgnoresIn}
use Rattle.std.proofs.lemmas.List.Elements.{All-more}
use Rattle.obligations.proofs.moved_plans.ignores_all.Goals as goal

pub returns-in_default-clause-ignores : goal.returns-in_default-clause-ignores
returns-in_default-clause-ignores c = λ yes name there node found.
    absurd (none-some node (sym (ap (λ o. option_map plan_of (option_copied o)) c.in_default.is) ∙ (c.node_in.ensures ∙ found)))

pub loop-name-preserved : goal.loop-name-preserved
loop-name-preserved c =
    All-more (λ (name : NameId). IgnoresIn name (plan_of c.in-Some.node.now)) c.args.names.now c.loop-name.name-index _ c.loop-name-test.true c.loop-name.invariant
    (c.ignores.ensures c.if-not-ignores.false)

pub returns-clause-ignores : goal.returns-clause-ignores
returns-clause-ignores c = λ yes name there node found.
    let same : Some (plan_of c.in-Some.node.now) ≡ Some node =
    sym (ap (λ o. option_map plan_of (option_copied o)) c.in-Some.is) ∙ (c.node_in.ensures ∙ found) in
    let all : All (λ (name : NameId). IgnoresIn name (plan_of c.in-Some.node.now)) c.args.names.now =
    subst (All (λ (name : NameId). IgnoresIn name (plan_of c.in-Some.node.now))) (take_all c.loop-name.name-index c.args.names.now c.loop-name-test.false) c.loop-name.invariant in
    subst (IgnoresIn name) (same_Some (plan_of c.in-Some.node.now) node same)
    (All-contains (λ (n : NameId). IgnoresIn n (plan_of c.in-Some.node.now)) c.args.names.now name all there)
