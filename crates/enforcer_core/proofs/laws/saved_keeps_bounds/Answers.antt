use Rattle.enforcer_core.proofs.SavedBoundLemmas.{saved_keeps}
use Rattle.enforcer_core.proofs.laws.saved_keeps_bounds.Goals as goal

pub returns : goal.returns
returns c =
    saved_keeps c.nodes_have_scopes.ensures.found c.number_is_place.ensures c.operators_are_nodes.ensures
    c.safe_values_fit.ensures.values c.safe_with_listed.ensures.none c.kept_values_held.ensures.operators
    c.kept_values_held.ensures.rows c.pending_is_right.ensures.pending c.pending_can_be.ensures c.kept_can_be_restored.ensures.within c.pending_is_one.ensures.pending c.serving_ends.ensures.near
    c.read_is_sorted.ensures c.read_is_well_formed.ensures c.plans_keep_sorts.ensures.policy c.policy_plans_keep_meaning.ensures.safe c.sound_keeps_bounds.ensures
