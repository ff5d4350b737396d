use Rattle.enf_run.proofs.Vocabulary.{List, [], ◌∙◌, ◌∷◌, ◌+◌, ◌<◌, length, take, drop, subst, sym, ap, refl, take_all, err_from_is_err_and, ActedStep, acted_step, acted_steps, policy_rules_of, Action, flat_map}
use Rattle.enf_run.proofs.Vocabulary.{action_line, CutsSteps, GivesSteps, seen_of}
use Rattle.enf_run.proofs.LineLemmas.{cut_actions, cut_handing, cut_line, gives_more, gives_none, gives_one, split_at, taken_next}
use Rattle.enf_run.proofs.TextLemmas.{Broken, Whole, some_cut, whole_handed}
use Rattle.enf_run.proofs.step_lines.write_steps.Goals as goal

pub loop-step-init : goal.loop-step-init
loop-step-init g c = record {
  given = gives_none c.args.names.now.signature.now (policy_rules_of c.args.names.now.policy.now) (seen_of (g.G.Sink.seen c.args.gate.now) (g.R.Sink.seen c.args.report.now));
  late = refl;
}

pub loop-step-preserved : goal.loop-step-preserved
loop-step-preserved g c =
    let gate = g.G.Sink.seen in
    let report = g.R.Sink.seen in
    let entries = c.args.names.now.signature.now in
    let rules = policy_rules_of c.args.names.now.policy.now in
    let first = seen_of (gate c.args.gate.now) (report c.args.report.now) in
    let before = seen_of (gate c.loop-step.gate) (report c.loop-step.report) in
    let after = seen_of (gate c.hand_on_for.new.gate) (report c.write_actions.new.report) in
    let steps = c.args.steps.now in
    let i = c.loop-step.step-index in
    let step = acted_step c.step-item.result in
    let said = subst (λ (actions : List Action). Whole (flat_map (action_line entries rules) actions)
    (report c.loop-step.report) (report c.write_actions.new.report)) c.as_slice-in-loop-step.ensures
    c.in_ok-write_actions.ensures in
    let handed = c.in_ok-hand_on_for.ensures in
    let line = whole_handed _ (gate c.loop-step.gate) (gate c.write_line.new.gate) (gate c.hand_on_for.new.gate)
    c.in_ok-write_line.ensures handed.told handed.writes handed.reads handed.late in
    let one = gives_one entries rules step before after line said in
    record {
      given = subst (λ (all : List ActedStep). GivesSteps entries rules all first after) (sym (taken_next steps i c.step-item.result c.loop-step-test.true c.step-item.is))
          (gives_more entries rules (acted_steps (take i steps)) (step ∷ []) first before after c.loop-step.invariant.given one);
      late = line.late ∙ c.loop-step.invariant.late;
    }

pub returns-in_err-write_line-clause-cut : goal.returns-in_err-write_line-clause-cut
returns-in_err-write_line-clause-cut g c =
    let p = err_from_is_err_and c.from_residual.result c.from_residual.ensures.1 in
    let gate = g.G.Sink.seen in
    let report = g.R.Sink.seen in
    let entries = c.args.names.now.signature.now in
    let rules = policy_rules_of c.args.names.now.policy.now in
    let first = seen_of (gate c.args.gate.now) (report c.args.report.now) in
    let before = seen_of (gate c.loop-step.gate) (report c.loop-step.report) in
    let after = seen_of (gate c.write_line.new.gate) (report c.loop-step.report) in
    let steps = c.args.steps.now in
    let i = c.loop-step.step-index in
    let cut = c.in_err-write_line.field-0.0 in
    rw (p.1, p.2) (subst (λ (all : List ActedStep). CutsSteps entries rules all cut first after) (sym (split_at steps i c.step-item.result c.loop-step-test.true c.step-item.is))
    (cut_line entries rules (acted_steps (take i steps)) (acted_step c.step-item.result)
    (acted_steps (drop (i + 1) steps)) cut first before after c.loop-step.invariant.given c.in_err-write_line.ensures
    refl))

pub returns-in_err-write_line-clause-late : goal.returns-in_err-write_line-clause-late
returns-in_err-write_line-clause-late g c = c.in_err-write_line.ensures.late ∙ c.loop-step.invariant.late

pub returns-in_err-hand_on_for-clause-cut : goal.returns-in_err-hand_on_for-clause-cut
returns-in_err-hand_on_for-clause-cut g c =
    let p = err_from_is_err_and c.from_residual-in_err-hand_on_for.result c.from_residual-in_err-hand_on_for.ensures.1 in
    let gate = g.G.Sink.seen in
    let report = g.R.Sink.seen in
    let entries = c.args.names.now.signature.now in
    let rules = policy_rules_of c.args.names.now.policy.now in
    let first = seen_of (gate c.args.gate.now) (report c.args.report.now) in
    let before = seen_of (gate c.loop-step.gate) (report c.loop-step.report) in
    let after = seen_of (gate c.hand_on_for.new.gate) (report c.loop-step.report) in
    let steps = c.args.steps.now in
    let i = c.loop-step.step-index in
    let cut = c.in_err-hand_on_for.field-0.0 in
    let held = c.in_err-hand_on_for.ensures in
    rw (p.1, p.2) (subst (λ (all : List ActedStep). CutsSteps entries rules all cut first after) (sym (split_at steps i c.step-item.result c.loop-step-test.true c.step-item.is))
    (cut_handing entries rules (acted_steps (take i steps)) (acted_step c.step-item.result)
    (acted_steps (drop (i + 1) steps)) cut first before after c.loop-step.invariant.given (gate c.write_line.new.gate)
    c.in_ok-write_line.ensures held.told held.held held.writes held.reads refl))

pub returns-in_err-hand_on_for-clause-late : goal.returns-in_err-hand_on_for-clause-late
returns-in_err-hand_on_for-clause-late g c = c.in_err-hand_on_for.ensures.late ∙ c.in_ok-write_line.ensures.late ∙ c.loop-step.invariant.late

pub returns-in_err-write_actions-clause-cut : goal.returns-in_err-write_actions-clause-cut
returns-in_err-write_actions-clause-cut g c =
    let p = err_from_is_err_and c.from_residual-in_err-write_actions.result c.from_residual-in_err-write_actions.ensures.1 in
    let gate = g.G.Sink.seen in
    let report = g.R.Sink.seen in
    let entries = c.args.names.now.signature.now in
    let rules = policy_rules_of c.args.names.now.policy.now in
    let first = seen_of (gate c.args.gate.now) (report c.args.report.now) in
    let before = seen_of (gate c.loop-step.gate) (report c.loop-step.report) in
    let after = seen_of (gate c.hand_on_for.new.gate) (report c.write_actions.new.report) in
    let steps = c.args.steps.now in
    let i = c.loop-step.step-index in
    let cut = c.in_err-write_actions.field-0.0 in
    let said = subst (λ (actions : List Action). Broken (flat_map (action_line entries rules) actions) cut
    (report c.loop-step.report) (report c.write_actions.new.report)) c.as_slice-in-loop-step.ensures
    c.in_err-write_actions.ensures in
    let handed = c.in_ok-hand_on_for.ensures in
    let line = whole_handed _ (gate c.loop-step.gate) (gate c.write_line.new.gate) (gate c.hand_on_for.new.gate)
    c.in_ok-write_line.ensures handed.told handed.writes handed.reads handed.late in
    rw (p.1, p.2) (subst (λ (all : List ActedStep). CutsSteps entries rules all cut first after) (sym (split_at steps i c.step-item.result c.loop-step-test.true c.step-item.is))
    (cut_actions entries rules (acted_steps (take i steps)) (acted_step c.step-item.result)
    (acted_steps (drop (i + 1) steps)) cut first before after c.loop-step.invariant.given line
    (handed.whole (subst (λ (actions : List Action). 0 < length actions) (sym c.as_slice.ensures)
    (some_cut (action_line entries rules) _ cut (report c.loop-step.report) (report c.write_actions.new.report) said)))
    said))

pub returns-in_err-write_actions-clause-late : goal.returns-in_err-write_actions-clause-late
returns-in_err-write_actions-clause-late g c = c.in_ok-hand_on_for.ensures.late ∙ c.in_ok-write_line.ensures.late ∙ c.loop-step.invariant.late

pub returns-clause-whole : goal.returns-clause-whole
returns-clause-whole g c =
    let gate = g.G.Sink.seen in
    let report = g.R.Sink.seen in
    let entries = c.args.names.now.signature.now in
    let rules = policy_rules_of c.args.names.now.policy.now in
    subst (λ (all : List ActedStep). GivesSteps entries rules all (seen_of (gate c.args.gate.now) (report c.args.report.now)) (seen_of (gate c.loop-step.gate) (report c.loop-step.report)))
    (ap acted_steps (take_all c.loop-step.step-index c.args.steps.now c.loop-step-test.false)) c.loop-step.invariant.given
