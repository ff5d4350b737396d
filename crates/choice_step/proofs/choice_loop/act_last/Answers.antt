use Rattle.choice_step.proofs.Vocabulary.{◌≡◌, ◌∙◌, [], IsTrue, HaveSameEvents, arith, eqb-true, guard_names, situation_plans, sym}
use Rattle.choice_step.proofs.FirstActionLemmas.{nil_of}
use Rattle.choice_step.proofs.LoopActionLemmas.{none_gained}
use Rattle.choice_step.proofs.TurnLemmas.{none_after, none_stale_now}
use Rattle.choice_step.proofs.choice_loop.act_last.Goals.{After-is_empty}
use Rattle.choice_step.proofs.choice_loop.act_last.Goals as goal

pub act_for-requires : goal.act_for-requires
act_for-requires c = record { can = c.requires.can; missed = c.requires.missed; wanted = c.requires.wanted; first = c.requires.first; kept = c.requires.kept }

-- no name is stale
none : (c : After-is_empty) → IsTrue c.is_empty.result → c.act_for.new.stale.items ≡ []
none c ended = nil_of c.act_for.new.stale.items (omega (arith, eqb-true c.act_for.new.stale.len 0 (sym c.is_empty.ensures ∙ ended), c.act_for.new.stale.ok.0))

same : (c : After-is_empty) → IsTrue c.is_empty.result → HaveSameEvents (guard_names c.args.situation.now.past.now.guards) c.args.present.now c.act_for.new.events
same c ended =
    none_stale_now (guard_names c.args.situation.now.past.now.guards) c.args.present.now c.act_for.new.events c.act_for.new.stale.items (none c ended)
    (c.in_ok-act_for.ensures.stale c.args.present.now (λ event named fresh. (λ there. there, λ there. there)))

pub returns-clause-same : goal.returns-clause-same
returns-clause-same c ended = same (goal.at.returns-clause-same c).After-is_empty ended

pub returns-clause-nothing : goal.returns-clause-nothing
returns-clause-nothing c ended =
    let situation = c.args.situation.now in
    let leads = c.in_ok-act_for.ensures.acts c.requires.missed.0 c.requires.missed.1 in
    none_after c.unwoken_is_idle.ensures.missed situation c.requires.can c.args.present.now c.act_for.new.events c.args.missed.rule
    (same (goal.at.returns-clause-nothing c).After-is_empty ended)
    (none_gained (situation_plans situation) situation.pending.now.instances situation.past.now situation.inserted situation.time situation.position c.requires.can.step.roles
    c.requires.missed.0 c.args.present.now leads.0 c.act_for.new.events leads.2)
    (c.requires.last c.if-not-last.false) (c.in_ok-act_for.ensures.met (none (goal.at.returns-clause-nothing c).After-is_empty ended))
