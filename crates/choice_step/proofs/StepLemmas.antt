-- What is wanted at a step, and the literals of its roots, after a trace for which a past state stands.
use Rattle.choice_step.proofs.Vocabulary.{ℕ, List, subst, ⊎_elim, inl, inr, Event, Value, AreKnown, IsConstantOf, AreTablesAtStep, Past, PastTables, formulas_of_guards, Plan}
use Rattle.choice_step.proofs.Vocabulary.{Action, Instance, Literal, IsKnownBehind, IsKnownFor, IsLiteralAt, IsLiteralBehind, IsWantedAt, IsWantedFrom}

known_behind : (plans : List Plan) (pending : List Instance) (past : Past) (time : ℕ) (events : List Event) (tables : PastTables)
    → AreTablesAtStep past time events tables → AreKnown past events tables → (value : Value)
    → IsKnownFor plans pending events tables value → IsKnownBehind plans pending past events value
known_behind plans pending past time events tables are known value is =
    ⊎_elim
    (λ bound. inl bound)
    (λ others. inr (⊎_elim
    (λ argument. inl argument)
    (λ others. ⊎_elim
    (λ tabled. ⊎_elim
    (λ argument. inl argument)
    (λ behind. inr (⊎_elim (λ constant. inr (inl constant)) (λ kept. inl kept) behind))
    (known value tabled))
    (λ others. inr (inr (⊎_elim
    (λ constant. inl (subst (λ gs. IsConstantOf (formulas_of_guards gs) value) are.2.0 constant))
    (λ leaf. inr leaf)
    others)))
    others)
    others))
    is

pub wanted_from_at : (plans : List Plan) (pending : List Instance) (past : Past) (time : ℕ) (given events : List Event) (tables : PastTables)
    (action : Action) → AreTablesAtStep past time given tables → AreKnown past given tables
    → IsWantedAt plans pending events given tables action → IsWantedFrom plans pending past given events action
wanted_from_at plans pending past time given events tables action are known wanted = record {
  leaf = wanted.leaf;
  there = wanted.there;
  asked = wanted.asked;
  is = wanted.is;
  changes = wanted.changes;
  known = λ value arg. known_behind plans pending past time given tables are known value (wanted.known value arg);
}

pub literal_behind : (plans : List Plan) (pending : List Instance) (past : Past) (time : ℕ) (events : List Event) (tables : PastTables)
    (literal : Literal) → AreTablesAtStep past time events tables → AreKnown past events tables
    → IsLiteralAt plans pending events tables literal → IsLiteralBehind plans pending past events literal
literal_behind plans pending past time events tables literal are known at = record {
  leaf = at.leaf;
  there = at.there;
  root = at.root;
  is = at.is;
  known = λ value arg. known_behind plans pending past time events tables are known value (at.known value arg);
}
