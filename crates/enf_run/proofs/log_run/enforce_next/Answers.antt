use Rattle.enf_run.proofs.Vocabulary.{refl, subst, sym, err_from_is_err_and, policy_rules_of, Input, RefusesNext}
use Rattle.enf_run.proofs.IntakeLemmas.{reads_item, reads_refused}
use Rattle.enf_run.proofs.LogLemmas.{item_time}
use Rattle.enf_run.proofs.TurnCallLemmas.{cuts_next, falls}
use Rattle.enf_run.proofs.log_run.enforce_next.Goals as goal

pub enforce_item-requires-clause-time : goal.enforce_item-requires-clause-time
enforce_item-requires-clause-time g c =
    let r = reads_item c.args.names.now.signature.now Input c.args.reader.now c.next_record.new.self c.requires.going c.in-Ok-Item.item (rw c.in-Ok-Item.field-0-is at c.in-Ok-Item.ensures) in
    item_time c.args.names.now.signature.now _ c.in-Ok-Item.item r.0.2

pub returns-in_err-enforce_item-in-Ok-Item-clause-cut : goal.returns-in_err-enforce_item-in-Ok-Item-clause-cut
returns-in_err-enforce_item-in-Ok-Item-clause-cut g c =
    let entries = c.args.names.now.signature.now in
    let r = reads_item entries Input c.args.reader.now c.next_record.new.self c.requires.going c.in-Ok-Item.item (rw c.in-Ok-Item.field-0-is at c.in-Ok-Item.ensures) in
    let p = err_from_is_err_and c.from_residual.result c.from_residual.ensures.1 in
    rw (p.1, p.2) (cuts_next entries (policy_rules_of c.args.names.now.policy.now) c.args.reader.now.rest _
    c.in-Ok-Item.item _ _ c.in_err-enforce_item-in-Ok-Item.field-0.0 r.0
    c.in_err-enforce_item-in-Ok-Item.ensures.cut)

pub returns-in-None-clause-next : goal.returns-in-None-clause-next
returns-in-None-clause-next g c =
    let r = reads_item c.args.names.now.signature.now Input c.args.reader.now c.next_record.new.self c.requires.going c.in-Ok-Item.item (rw c.in-Ok-Item.field-0-is at c.in-Ok-Item.ensures) in
    rw c.in_ok-enforce_item-in-Ok-Item.ensures.stays
    (record { item = c.in-Ok-Item.item; begins = r.0; reader_is = r.1; taken = rw c.in-None.is at c.in_ok-enforce_item-in-Ok-Item.ensures.answer })

pub returns-in-Some-clause-next : goal.returns-in-Some-clause-next
returns-in-Some-clause-next g c =
    let r = reads_item c.args.names.now.signature.now Input c.args.reader.now c.next_record.new.self c.requires.going c.in-Ok-Item.item (rw c.in-Ok-Item.field-0-is at c.in-Ok-Item.ensures) in
    falls c.args.names.now.signature.now c.args.reader.now.rest _ c.in-Ok-Item.item c.in-Some.why _ _ r.0 (rw c.in-Some.is at c.in_ok-enforce_item-in-Ok-Item.ensures.answer)

pub returns-in_ok-refusal_of-in-Err-clause-next : goal.returns-in_ok-refusal_of-in-Err-clause-next
returns-in_ok-refusal_of-in-Err-clause-next g c =
    let entries = c.args.names.now.signature.now in
    let why = c.in_ok-refusal_of-in-Err.ensures in (
      subst (RefusesNext entries Input c.args.reader.now.rest c.args.enforcer.now.clock) (sym why.0)
          (reads_refused entries Input c.args.reader.now c.next_record.new.self c.requires.going c.in-Err.refusal why.1
          c.in-Err.ensures),
      refl,
    )
