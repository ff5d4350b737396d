use Rattle.pending.proofs.Vocabulary.{◌≡◌, ◌++◌, ◌∷◌, [], ap, sym, ◌∙◌, arith, append_assoc, length, length-append, map, plan_of, entries_from, eqb-true}
use Rattle.std.proofs.Common.{append-nil}
use Rattle.pending.proofs.EntryLemmas.{entries_more, none_from}
use Rattle.pending.proofs.entries.put_begun.Goals as goal

pub loop-instance-preserved : goal.loop-instance-preserved
loop-instance-preserved c =
    let plans = map plan_of c.args.plans.now in
    let place = c.args.place.now in
    let loop = c.loop-instance.invariant in
    let yielded = c.loop-instance.yielded in
    let x = c.in-Some.instance in
    let rest = c.next.new.self.rest.items in
    let count : c.loop-instance.among ≡ length yielded = loop.1 in
    let entry = c.in_ok-entry_behind.ensures in
    let into = loop.2 in (
      loop.0 ∙ ap (λ l. yielded ++ l) c.in-Some.ensures.steps.0 ∙ sym (append_assoc yielded (x ∷ []) rest),
      omega (arith, count, length-append yielded (x ∷ [])),
      c.in_ok-push.ensures.items ∙ (λ i. into i ++ entry i ∷ [])
          ∙ append_assoc c.args.into.now.items (entries_from plans c.args.time place c.args.number 0 yielded) _
          ∙ ap (λ l. c.args.into.now.items ++ l) (sym (entries_more plans c.args.time place c.args.number 0 yielded x c.loop-instance.among (omega (arith, count)))),
    )

pub returns-then-is_empty : goal.returns-then-is_empty
returns-then-is_empty c =
    let instances = c.args.instances in
    let none = eqb-true instances.len 0 (sym c.is_empty.ensures ∙ c.if-is_empty.true) in
    sym (ap (λ l. c.args.into.now.items ++ l) (none_from (map plan_of c.args.plans.now) c.args.time c.args.place.now c.args.number 0 instances.items (omega (arith, none, instances.ok.0)))
    ∙ append-nil c.args.into.now.items)
