-- Lawful change, one list of records after another.
use Rattle.std.proofs.Common.{ℕ, zero, suc, ◌≤◌, List, [], ◌∷◌, ◌++◌, map, arith}
use Rattle.std.specs.List.{All}
use Rattle.std.proofs.lemmas.List.Elements.{All-append, All-head, All-tail, All-weaker}
use Rattle.enf_data.specs.meaning.Membership.{HasNoRepeats}
use Rattle.trace_meaning.specs.machine.Laws.{OrderOfAny, WithinJoins, LawfulJoins}
use Rattle.trace_meaning.specs.meaning.Traces.{AreInOrder, IsInsertedLawfully, IsLaterThan, OutStep, IsUntil, event_of}
use Rattle.trace_meaning.proofs.RecordLaws.{records_changed_join}
use Rattle.trace_meaning.specs.declared.kinds.StepKind.{StepKind}
use Rattle.trace_meaning.specs.declared.kinds.StepKind.TheVariants.{System, Inserted}

pub order_of_any : OrderOfAny
order_of_any [] i j d e h order below = absurd (omega arith)
order_of_any (o ∷ out) i zero d e h order below = absurd (omega arith)
order_of_any (o ∷ out) zero (suc j) d e h order below = h.0 j e (omega arith)
order_of_any (o ∷ out) (suc i) (suc j) d e h order below = order_of_any out i j d e h.1 (omega arith) (omega arith)

-- a step until a time and one from it on
later_from : (k l : StepKind) (t u c : ℕ) → IsUntil c k t → c ≤ u → IsLaterThan k l t u
later_from System l t u c until from = omega arith
later_from Inserted System t u c until from = omega arith
later_from Inserted Inserted t u c until from = omega arith

in_order_join : (c : ℕ) (out more : List OutStep) → All (λ o. IsUntil c o.kind o.step.time) out → All (λ o. c ≤ o.step.time) more → AreInOrder out → AreInOrder more → AreInOrder (out ++ more)
in_order_join c [] more until from a b = b
in_order_join c (o ∷ out) more until from a b = (
  All-append (λ p. IsLaterThan o.kind p.kind o.step.time p.step.time) out more a.0
      (All-weaker (λ p. c ≤ p.step.time) (λ p. IsLaterThan o.kind p.kind o.step.time p.step.time)
      (λ p h. later_from o.kind p.kind o.step.time p.step.time c (All-head (λ o. IsUntil c o.kind o.step.time) o out until) h) more from),
  in_order_join c out more (All-tail (λ o. IsUntil c o.kind o.step.time) o out until) from a.1 b,
)

until_weaker : (k : StepKind) (c d t : ℕ) → c ≤ d → IsUntil c k t → IsUntil d k t
until_weaker System c d t le h = omega arith
until_weaker Inserted c d t le h = omega arith

pub within_joins : WithinJoins
within_joins a b c out more ab bc first then = record {
  from = All-append (λ o. a ≤ o.step.time) out more first.from (All-weaker (λ o. b ≤ o.step.time) (λ o. a ≤ o.step.time) (λ o h. omega arith) more then.from);
  until = All-append (λ o. IsUntil c o.kind o.step.time) out more (All-weaker (λ o. IsUntil b o.kind o.step.time) (λ o. IsUntil c o.kind o.step.time)
      (λ o h. until_weaker o.kind b c o.step.time bc h) out first.until) then.until;
}

pub lawful_joins : LawfulJoins
lawful_joins causable suppressible a b c records records' out out' first then before after = record {
  changed = records_changed_join causable suppressible records records' out out' before.changed after.changed;
  inserted = All-append (λ o. IsInsertedLawfully causable suppressible o o.kind) out out' before.inserted after.inserted;
  once = All-append (λ (o : OutStep). HasNoRepeats (map event_of o.changes)) out out' before.once after.once;
  in_order = in_order_join b out out' first.until then.from before.in_order after.in_order;
}
