-- What is asked that waits for events: a step without one changes nothing of it.
use Rattle.enf_data.specs.declared.steps.Step.{Step}
use Rattle.std.specs.List.{AllByRecursion}
use Rattle.std.specs.Prelude.{◌≡◌, ◌↔◌, ◌+◌, List, Option, Some}
use Rattle.past_state.specs.machine.GuardPlaces.{guards_at}
use Rattle.sleepers.specs.declared.patterns.Pattern.{Pattern}
use Rattle.sleepers.specs.machine.Patterns.{HasNone}
use Rattle.trace_audit.specs.declared.residuals.Link.{Link}
use Rattle.trace_audit.specs.declared.residuals.Residual.{Residual}
use Rattle.trace_audit.specs.machine.Moments.{AuditMoment, IsAt}
use Rattle.trace_audit.specs.machine.Residuals.{CanLinkGoOn, LinksMean, Means, ResidualCanGoOn}

-- over the step what is asked stays: the positions from it on meet it where those after it do
abbrev pub StaysAsked : AuditMoment → Residual → Type 0
StaysAsked now rest = (trace : List Step) → IsAt now trace → ResidualCanGoOn (guards_at now.tables) rest
    → Means trace now.position rest ↔ Means trace (now.position + 1) rest

abbrev pub LinksStayAsked : AuditMoment → List Link → Type 0
LinksStayAsked now links = (trace : List Step) → IsAt now trace
    → AllByRecursion (CanLinkGoOn (guards_at now.tables)) links
    → LinksMean trace now.position (Unit {0}) links ↔ LinksMean trace (now.position + 1) (Unit {0}) links

-- it stays over each step without an event of the patterns, if there are any
abbrev pub WaitsForEvents : Residual → Option (List Pattern) → Type 0
WaitsForEvents rest waits = (now : AuditMoment) (patterns : List Pattern) → waits ≡ Some patterns
    → HasNone patterns now.events → StaysAsked now rest

abbrev pub LinksWait : List Link → Option (List Pattern) → Type 0
LinksWait links waits = (now : AuditMoment) (patterns : List Pattern) → waits ≡ Some patterns
    → HasNone patterns now.events → LinksStayAsked now links
