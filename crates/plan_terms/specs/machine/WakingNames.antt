-- The names whose events wake a plan.
use Rattle.enf_data.specs.declared.events.NameId.{NameId}
use Rattle.std.specs.Option.{option_or}
use Rattle.std.specs.Prelude.{List, [], ◌∷◌, Option, None, Some}
use Rattle.plan_terms.specs.meaning.Plans.{Plan, SuppressPlan, Both, Either, TestOr, Guarded, of_each, triggers}

-- the names of which at least one has an event at each step at which the plan misses or begins something, if the plan
-- tells such names: what is suppressed is there, and a guard holds only where one of its triggers is
abbrev pub waking_names : Plan → Option (List NameId)
waking_names (SuppressPlan node place name terms) = Some (name ∷ [])
waking_names (Both node left right) = of_each (waking_names left) (waking_names right)
waking_names (Either node left right) = of_each (waking_names left) (waking_names right)
waking_names (TestOr node guard test body) = waking_names body
waking_names (Guarded node xs guard test body) = option_or (triggers test) (waking_names body)
waking_names plan = None
