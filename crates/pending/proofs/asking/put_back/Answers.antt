use Rattle.pending.proofs.Vocabulary.{◌<◌, arith, length, map, refl, plan_of}
use Rattle.pending.proofs.AskingLemmas.{back_all, back_among, back_fewer, back_more, back_nodes, back_none, back_own, old_there}
use Rattle.obligations.specs.machine.MovedPlans.{IsUnmovedOf}
use Rattle.pending.proofs.asking.put_back.Goals as goal

pub loop-at-init : goal.loop-at-init
loop-at-init c = back_none (IsUnmovedOf (map plan_of c.args.plans.now) c.args.kind c.args.name) c.args.asked.now.items c.args.agenda.now c.requires.nodes

pub put_group_back-requires-clause-places : goal.put_group_back-requires-clause-places
put_group_back-requires-clause-places c =
    let within : c.loop-at.at < length c.loop-at.asked.items = omega (arith, (c.in-Some.ensures.variant).0 refl, c.loop-at.asked.ok.0) in
    back_own (IsUnmovedOf (map plan_of c.args.plans.now) c.args.kind c.args.name) c.args.asked.now.items c.args.agenda.now c.loop-at.asked.items c.loop-at.agenda c.loop-at.at
    c.loop-at.invariant c.in-Some.group.now c.in-Some.group.now within c.in-Some.ensures.value c.requires.places

pub put_group_back-requires-clause-nodes : goal.put_group_back-requires-clause-nodes
put_group_back-requires-clause-nodes c =
    let within : c.loop-at.at < length c.loop-at.asked.items = omega (arith, (c.in-Some.ensures.variant).0 refl, c.loop-at.asked.ok.0) in
    c.loop-at.invariant.own c.in-Some.group.now
    (old_there (IsUnmovedOf (map plan_of c.args.plans.now) c.args.kind c.args.name) c.args.asked.now.items c.args.agenda.now c.loop-at.asked.items c.loop-at.agenda c.loop-at.at
    c.loop-at.invariant c.in-Some.group.now c.in-Some.group.now within c.in-Some.ensures.value)

pub loop-at-preserved : goal.loop-at-preserved
loop-at-preserved c =
    let within : c.loop-at.at < length c.loop-at.asked.items = omega (arith, (c.in-Some.ensures.variant).0 refl, c.loop-at.asked.ok.0) in
    back_more (IsUnmovedOf (map plan_of c.args.plans.now) c.args.kind c.args.name) c.args.asked.now.items c.args.agenda.now c.loop-at.asked.items c.loop-at.agenda c.loop-at.at
    c.loop-at.invariant c.in-Some.group.now c.put_group_back.new.group within c.in-Some.ensures.value c.put_group_back.new.agenda c.put_group_back.ensures.node
    c.put_group_back.ensures.among c.put_group_back.ensures.fewer c.in_ok-put_group_back.ensures.kept c.in_ok-put_group_back.ensures.goes

pub returns-clause-asked : goal.returns-clause-asked
returns-clause-asked c =
    back_all (IsUnmovedOf (map plan_of c.args.plans.now) c.args.kind c.args.name) c.args.asked.now.items c.args.agenda.now c.loop-at.asked.items c.loop-at.agenda c.loop-at.at
    (omega (arith, c.loop-at-test.false, c.len-at-end.ensures, c.args.asked.now.ok.0)) c.loop-at.invariant

pub returns-in_err-put_group_back-clause-among : goal.returns-in_err-put_group_back-clause-among
returns-in_err-put_group_back-clause-among c =
    let within : c.loop-at.at < length c.loop-at.asked.items = omega (arith, (c.in-Some.ensures.variant).0 refl, c.loop-at.asked.ok.0) in
    back_among (IsUnmovedOf (map plan_of c.args.plans.now) c.args.kind c.args.name) c.args.asked.now.items c.args.agenda.now c.loop-at.asked.items c.loop-at.agenda c.loop-at.at
    c.loop-at.invariant c.in-Some.group.now c.put_group_back.new.group within c.in-Some.ensures.value c.put_group_back.new.agenda c.put_group_back.ensures.node
    c.put_group_back.ensures.among c.put_group_back.ensures.fewer

pub returns-in_err-put_group_back-clause-fewer : goal.returns-in_err-put_group_back-clause-fewer
returns-in_err-put_group_back-clause-fewer c =
    let within : c.loop-at.at < length c.loop-at.asked.items = omega (arith, (c.in-Some.ensures.variant).0 refl, c.loop-at.asked.ok.0) in
    back_fewer (IsUnmovedOf (map plan_of c.args.plans.now) c.args.kind c.args.name) c.args.asked.now.items c.args.agenda.now c.loop-at.asked.items c.loop-at.agenda c.loop-at.at
    c.loop-at.invariant c.in-Some.group.now c.put_group_back.new.group within c.in-Some.ensures.value c.put_group_back.new.agenda c.put_group_back.ensures.node
    c.put_group_back.ensures.among c.put_group_back.ensures.fewer

pub returns-in_err-put_group_back-clause-nodes : goal.returns-in_err-put_group_back-clause-nodes
returns-in_err-put_group_back-clause-nodes c =
    let within : c.loop-at.at < length c.loop-at.asked.items = omega (arith, (c.in-Some.ensures.variant).0 refl, c.loop-at.asked.ok.0) in
    back_nodes (IsUnmovedOf (map plan_of c.args.plans.now) c.args.kind c.args.name) c.args.asked.now.items c.args.agenda.now c.loop-at.asked.items c.loop-at.agenda c.loop-at.at
    c.loop-at.invariant c.in-Some.group.now c.put_group_back.new.group within c.in-Some.ensures.value c.put_group_back.new.agenda c.put_group_back.ensures.node
    c.put_group_back.ensures.among c.put_group_back.ensures.fewer
