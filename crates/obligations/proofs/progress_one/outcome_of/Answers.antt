use Rattle.obligations.proofs.Vocabulary.{◌≡◌, ◌∙◌, Some, ap, sym, option_copied, option_map, plan_of}
use Rattle.obligations.proofs.Vocabulary.{node_of}
use Rattle.std.specs.Prelude.{map}
use Rattle.obligations.proofs.SuccessorLemmas.{becomes, comes_one, parts_end, parts_stand, served_in}
use Rattle.obligations.proofs.progress_one.outcome_of.Goals as goal

pub begun_for-requires-clause-ends : goal.begun_for-requires-clause-ends
begun_for-requires-clause-ends c =
    parts_end c.args.now.now (map plan_of c.args.plans.now) c.args.inserted c.args.instance.now c.requires.asked (plan_of c.in-Some.node.now)
    (sym c.node_in.ensures ∙ ap (λ o. option_map plan_of (option_copied o)) c.in-Some.is)
    (option_map plan_of (option_copied c.in_ok-becoming.becoming.begins)) c.in_ok-becoming.ensures.part

pub returns-clause-after : goal.returns-clause-after
returns-clause-after c =
    let now = c.args.now.now in
    let plans = map plan_of c.args.plans.now in
    let i = c.args.instance.now in
    let node = plan_of c.in-Some.node.now in
    let found : node_of plans i ≡ Some node = sym c.node_in.ensures ∙ ap (λ o. option_map plan_of (option_copied o)) c.in-Some.is in
    let part = option_map plan_of (option_copied c.in_ok-becoming.becoming.begins) in
    λ trace is served.
    becomes now plans c.args.inserted i c.requires.asked node found c.in_ok-becoming.becoming.stays part c.in_ok-becoming.ensures c.in_ok-begun.begun.items c.in_ok-begun.ensures.begun
    trace is (served_in now plans c.args.inserted i c.requires.asked node found trace is served)

pub returns-clause-asked : goal.returns-clause-asked
returns-clause-asked c =
    let plans = map plan_of c.args.plans.now in
    let i = c.args.instance.now in
    let node = plan_of c.in-Some.node.now in
    let found : node_of plans i ≡ Some node = sym c.node_in.ensures ∙ ap (λ o. option_map plan_of (option_copied o)) c.in-Some.is in
    let part = option_map plan_of (option_copied c.in_ok-becoming.becoming.begins) in
    c.in_ok-begun.ensures.asked plans
    (parts_stand c.args.now.now plans c.args.inserted i c.requires.asked node found c.nodes_have_scopes.ensures.found c.requires.named part c.in_ok-becoming.ensures.part)

pub returns-clause-come : goal.returns-clause-come
returns-clause-come c =
    let plans = map plan_of c.args.plans.now in
    let i = c.args.instance.now in
    let node = plan_of c.in-Some.node.now in
    let found : node_of plans i ≡ Some node = sym c.node_in.ensures ∙ ap (λ o. option_map plan_of (option_copied o)) c.in-Some.is in
    let part = option_map plan_of (option_copied c.in_ok-becoming.becoming.begins) in
    comes_one c.args.now.now plans c.args.inserted i c.requires.asked node found c.in_ok-becoming.becoming.stays part c.in_ok-becoming.ensures c.in_ok-begun.begun.items c.in_ok-begun.ensures.comes
