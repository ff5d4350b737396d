use Rattle.rank_check.proofs.Vocabulary.{◌≡◌, ◌↔◌, length, take, Contains, NameId, IsMarkedName}
use Rattle.rank_check.proofs.roles.marks_of.Given as goal

abbrev pub invariant-loop-name : goal.invariant-loop-name
invariant-loop-name l = record {
  count : length l.marks.items ≡ l.fn.names;
  marked : (name : NameId) → IsMarkedName l.marks.items name ↔ Contains (take l.name-index l.listed) name;
}
