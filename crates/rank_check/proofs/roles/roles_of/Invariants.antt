use Rattle.rank_check.proofs.Vocabulary.{◌≡◌, ◌<◌, length, map, NameId, plan_of, role_in, NameHasRole, Clashes}
use Rattle.rank_check.proofs.roles.roles_of.Given as goal

abbrev pub invariant-loop-number : goal.invariant-loop-number
invariant-loop-number l = record {
  count : length l.roles.items ≡ l.number;
  roles : (name : NameId) → name.0 < l.number → NameHasRole (map plan_of l.plans) name (role_in l.roles.items name);
  clear : (name : NameId) → name.0 < l.number → Clashes (map plan_of l.plans) name → ⊥;
}
