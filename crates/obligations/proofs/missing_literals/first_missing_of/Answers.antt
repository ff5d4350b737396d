use Rattle.obligations.proofs.Vocabulary.{IfSome, option_copied, option_map, ◌∙◌, sym, subst, ap, IfOk-weaker, plan_of, IsWanted, IsWantedOf, node_of, AsksPartOrNothing, AsksPart}
use Rattle.std.specs.Prelude.{◌≡◌, Some, map}
use Rattle.obligations.proofs.WantedLiteralLemmas.{if_some}
use Rattle.obligations.proofs.missing_literals.first_missing_of.Goals as goal

pub returns-in-Some-2-clause-wanted : goal.returns-in-Some-2-clause-wanted
returns-in-Some-2-clause-wanted c =
    let now = c.args.now.now in
    let i = c.args.instance.now in
    let node = plan_of c.in-Some.node.now in
    let part = plan_of c.in-Some-2.part.now in
    let found : node_of (map plan_of c.args.plans.now) i ≡ Some node = sym c.node_in.ensures ∙ ap (λ o. option_map plan_of (option_copied o)) c.in-Some.is in
    let asks : AsksPart now node i c.args.forced part = subst (λ o. AsksPartOrNothing now node i c.args.forced (option_map plan_of (option_copied o))) c.in-Some-2.is c.in_ok-part.ensures in
    IfOk-weaker c.find_missing.result _ (λ l. IfSome l (IsWantedOf now (map plan_of c.args.plans.now) i)) (λ l wanted.
    if_some l (IsWanted now part i.valuation) (IsWantedOf now (map plan_of c.args.plans.now) i)
    (λ literal w. record {
      node = node;
      found = found;
      part = part;
      has = asks.has;
      inside = asks.inside;
      wanted = w;
    }) wanted) c.find_missing.ensures.wanted
