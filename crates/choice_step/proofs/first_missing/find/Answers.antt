use Rattle.choice_step.proofs.Vocabulary.{◌≡◌, ◌∙◌, [], eqb-false, eqb-true, length, subst, sym, on_ok_weaker}
use Rattle.choice_step.proofs.FirstActionLemmas.{above, nil_of}
use Rattle.choice_step.proofs.NextLemmas.{first_of_instance, not_done}
use Rattle.choice_step.specs.machine.StillToAsk.{IsDecidedAt, IsNextAt}
use Rattle.choice_step.proofs.first_missing.find.Goals as goal

pub find_waiting-requires : goal.find_waiting-requires
find_waiting-requires c = record { can = c.requires.can; now = c.requires.now; kept = (c.requires.kept.0, c.requires.kept.1.asking) }

pub returns-in_default-clause-kept : goal.returns-in_default-clause-kept
returns-in_default-clause-kept c told is = record { asking = c.in_ok-next.ensures.kept told is.asking; roots = is.roots }

pub returns-in_default-clause-next : goal.returns-in_default-clause-next
returns-in_default-clause-next c =
    let now = c.args.now.now in
    not_done c.args.situation.now now.ordered.now now.events.now now.stale.now (c.find_waiting.new.asking.ahead ≡ [])
    (IsDecidedAt c.args.situation.now now.events.now now.stale.now) c.in_ok-next.next c.in_default.not-Done c.in_ok-next.ensures.next

pub returns-in_default-clause-first : goal.returns-in_default-clause-first
returns-in_default-clause-first c = first_of_instance (record c.args.unasked.now { asking = c.find_waiting.new.asking }) c.in_ok-next.next c.in_ok-next.ensures.waits

pub returns-then-not-is_empty-clause-kept : goal.returns-then-not-is_empty-clause-kept
returns-then-not-is_empty-clause-kept c told is = record { asking = c.in_ok-next.ensures.kept told is.asking; roots = is.roots }

pub returns-then-not-is_empty-clause-next : goal.returns-then-not-is_empty-clause-next
returns-then-not-is_empty-clause-next c =
    above (length c.args.now.now.stale.now) (λ none. eqb-false _ 0 (sym c.is_empty.ensures ∙ c.if-not-is_empty.true) none)

pub find_root-requires : goal.find_root-requires
find_root-requires c = record {
  can = c.requires.can;
  now = c.requires.now;
  fewer = c.requires.fewer;
  fresh = nil_of c.args.now.now.stale.now (eqb-true _ 0 (sym c.is_empty.ensures ∙ c.if-not-is_empty.false));
  kept = (c.requires.kept.0, record { asking = c.in_ok-next.ensures.kept c.requires.kept.0 c.requires.kept.1.asking; roots = c.requires.kept.1.roots });
  none = subst (IsNextAt c.args.situation.now c.args.now.now (c.find_waiting.new.asking.ahead ≡ [])) c.in-Done.is c.in_ok-next.ensures.next;
}

pub returns-clause-kept : goal.returns-clause-kept
returns-clause-kept c =
    on_ok_weaker c.find_root.result
    (λ keeps told is. keeps told (record { asking = c.in_ok-next.ensures.kept told is.asking; roots = is.roots }))
    c.find_root.ensures.kept
