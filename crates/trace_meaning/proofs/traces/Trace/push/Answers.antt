use Rattle.std.proofs.Common.{◌≡◌, ◌≤◌, ◌++◌, ◌∷◌, [], List, Bool, true, false, cond, sym, subst}
use Rattle.enf_data.specs.meaning.Data.{IsTrace}
use Rattle.enf_data.specs.meaning.Membership.{HasNoRepeats}
use Rattle.enf_data.specs.declared.steps.Step.{Step}
use Rattle.trace_meaning.specs.meaning.Traces.{last_time}
use Rattle.trace_meaning.proofs.Growth.{trace_grows}
use Rattle.trace_meaning.proofs.traces.Trace.push.Goals as goal

grown : (pushed : Bool) (trace after : List Step) (step : Step) → IsTrace trace → last_time trace ≤ step.time → HasNoRepeats step.events → after
    ≡ cond pushed (trace ++ step ∷ []) trace → IsTrace after
grown true trace after step t later distinct e = subst IsTrace (sym e) (trace_grows trace step t later distinct)
grown false trace after step t later distinct e = subst IsTrace (sym e) t

pub invariant_of-self : goal.invariant_of-self
invariant_of-self c =
    grown _ c.self.inside.steps.items _ c.args.step c.self.invariant (subst (λ trace. last_time trace ≤ c.args.step.time) (sym c.self.view_is) c.requires)
    c.as_slice-events.ensures.distinct c.push.ensures.items

pub returns-clause-trace : goal.returns-clause-trace
returns-clause-trace c =
    grown _ c.self.inside.steps.items _ c.args.step c.self.invariant (subst (λ trace. last_time trace ≤ c.args.step.time) (sym c.self.view_is) c.requires)
    c.as_slice-events.ensures.distinct c.push.ensures.items
