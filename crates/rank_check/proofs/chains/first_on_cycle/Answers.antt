use Rattle.rank_check.proofs.Vocabulary.{Option, Some, None, IfSome, IfNone, NameId, IsOnCycle, IsClosure, HasEdge, EdgeTable, IsFirstName}
use Rattle.rank_check.proofs.chains.first_on_cycle.Goals as goal

found_of : (edges closed : EdgeTable) (first : Option NameId) → IsClosure edges closed → IfSome first (IsFirstName (λ name. HasEdge closed name name))
    → IfSome first (IsFirstName (IsOnCycle (HasEdge edges)))
found_of edges closed (Some name) is first = record {
  has = is.only name name first.has;
  first = λ other cycle. first.first other (is.all other other cycle);
}
found_of edges closed None is first = first

none_of : (edges closed : EdgeTable) (first : Option NameId) → IsClosure edges closed → IfNone first ((name : NameId) → HasEdge closed name name → ⊥)
    → IfNone first ((name : NameId) → IsOnCycle (HasEdge edges) name → ⊥)
none_of edges closed (Some name) is none = none
none_of edges closed None is none = λ name cycle. none name (is.all name name cycle)

pub returns-clause-found : goal.returns-clause-found
returns-clause-found c = found_of c.args.edges.now c.in_ok-closed.closed c.first_to_itself.result c.in_ok-closed.ensures c.first_to_itself.ensures.found

pub returns-clause-none : goal.returns-clause-none
returns-clause-none c = none_of c.args.edges.now c.in_ok-closed.closed c.first_to_itself.result c.in_ok-closed.ensures c.first_to_itself.ensures.none
