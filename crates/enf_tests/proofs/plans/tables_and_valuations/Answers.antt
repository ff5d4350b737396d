use Rattle.std.proofs.Common.{◌∙◌, ap}
use Rattle.enf_data.specs.meaning.Valuations.{value_at, variable_cmp}
use Rattle.std.specs.FinMap as map
use Rattle.enf_tests.proofs.plans.tables_and_valuations.Goals as goal

pub bind-requires : goal.bind-requires
bind-requires g c = ap (λ v. value_at v (record { 0 = 3 })) c.empty-v.ensures ∙ map.get-empty variable_cmp (record { 0 = 3 })
