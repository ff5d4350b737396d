use Rattle.log_stream.proofs.Vocabulary.{ap, refl, sym, subst, ◌∙◌, ◌++◌, ◌∷◌, [], IsOk, List, Bor, option_or, Event, NameId, Sort, err_from_is_err_and, Events}
use Rattle.log_stream.proofs.RecordParts.{event_placed, event_with_bad_row, event_without_name, event_without_open, fails_bad, still_refused, unknown_placed}
use Rattle.log_stream.proofs.records.read_event.Goals.{in-Some-declared, in-None}
use Rattle.log_stream.proofs.records.read_event.Goals as goal

pub returns-in_default-clause-err : goal.returns-in_default-clause-err
returns-in_default-clause-err c = λ mode kind time events few none.
    fails_bad mode c.args.bytes.now c.args.from (Events kind time events) c.args.from c.bad_at.result c.bad_at.ensures
    (event_without_name mode c.args.bytes.now c.args.from kind time events none (λ p end name s. c.in_default.ensures.none p end name s))

pub returns-in_default-behind_mark-clause-err : goal.returns-in_default-behind_mark-clause-err
returns-in_default-behind_mark-clause-err c = λ mode kind time events few none.
    fails_bad mode c.args.bytes.now c.args.from (Events kind time events) c.in-Some.next c.bad_at-in_default-behind_mark.result c.bad_at-in_default-behind_mark.ensures
    (event_without_open mode c.args.bytes.now c.args.from c.in-Some.next c.in-Some.name.now kind time events few c.in-Some.ensures.some c.in_default-behind_mark.ensures.none)

pub returns-in_err-next-clause-err : goal.returns-in_err-next-clause-err
returns-in_err-next-clause-err c =
    let p = err_from_is_err_and c.from_residual.result c.from_residual.ensures.1 in
    rw (p.1, p.2)
    (λ mode kind time events few none.
    event_with_bad_row mode c.args.bytes.now c.args.from c.in-Some.next c.in-Some-behind_mark.inside c.in-Some.name.now kind time events c.in_err-next.field-0.0 few c.in-Some.ensures.some
    c.in-Some-behind_mark.ensures.some
    (c.in_err-next.ensures.err mode kind time events c.args.from c.in-Some.name.now))

pub returns-in-Some-refusal_of-clause-ok : goal.returns-in-Some-refusal_of-clause-ok
returns-in-Some-refusal_of-clause-ok c =
    let row = c.read_row.new.row in
    let event : Event = record { name = c.in-Ok.event.now.name; args = row } in
    let put = (c.push_mut.follows.holds event (subst IsOk (sym c.in-Ok.is) refl)).0 in
    let later = c.keep_first-in-Some-refusal_of.ensures ∙ ap (option_or c.match-declared.refused) (sym c.in-Some-refusal_of.is) in
    elim c.match-declared.branch [
      | in-Some-declared w ↦
          let name = ap (λ (e : Event). e.name) c.in-Ok.ensures.value ∙ ap (λ (found : NameId × Bor (List Sort)). found.0) w.t-29-is in
          let sorts = ap (λ (found : NameId × Bor (List Sort)). found.1.now) w.t-29-is ∙ w.as_slice-in-Some-declared.ensures in
          event_placed c.args.signature.now c.args.bytes.now c.args.from c.in-Some.next c.in-Some-behind_mark.inside c.in_ok-next.next c.in-Some.name.now _ row c.read_row.new.clash
          c.in-Some.ensures.some c.in-Some-behind_mark.ensures.some c.in_ok-next.ensures.ok c.args.events.now.items _ c.args.refused.now c.match-declared.refused c.refusal_of.result _ later
          w.in-Some-declared.number w.in-Some-declared.entry.now w.in-Some-declared.ensures.entry w.in-Some-declared.ensures.number sorts
          (put ∙ ap (λ n. c.args.events.now.items ++ record { name = n; args = row } ∷ []) name) w.refused-is c.len.result c.len.ensures c.refusal_of.ensures
      | in-None w ↦
          unknown_placed c.args.signature.now c.args.bytes.now c.args.from c.in-Some.next c.in-Some-behind_mark.inside c.in_ok-next.next c.in-Some.name.now _ row c.read_row.new.clash
          c.in-Some.ensures.some c.in-Some-behind_mark.ensures.some c.in_ok-next.ensures.ok c.args.events.now.items _ c.args.refused.now c.match-declared.refused c.refusal_of.result _ later
          w.in-None.ensures.entry (w.refused-is ∙ w.keep_first.ensures)
    ]

pub returns-in_default-refusal_of-clause-ok : goal.returns-in_default-refusal_of-clause-ok
returns-in_default-refusal_of-clause-ok c =
    let row = c.read_row.new.row in
    let event : Event = record { name = c.in-Ok.event.now.name; args = row } in
    let put = (c.push_mut.follows.holds event (subst IsOk (sym c.in-Ok.is) refl)).0 in
    let later = still_refused c.match-declared.refused ∙ ap (option_or c.match-declared.refused) (sym c.in_default-refusal_of.is) in
    elim c.match-declared.branch [
      | in-Some-declared w ↦
          let name = ap (λ (e : Event). e.name) c.in-Ok.ensures.value ∙ ap (λ (found : NameId × Bor (List Sort)). found.0) w.t-29-is in
          let sorts = ap (λ (found : NameId × Bor (List Sort)). found.1.now) w.t-29-is ∙ w.as_slice-in-Some-declared.ensures in
          event_placed c.args.signature.now c.args.bytes.now c.args.from c.in-Some.next c.in-Some-behind_mark.inside c.in_ok-next.next c.in-Some.name.now _ row c.read_row.new.clash
          c.in-Some.ensures.some c.in-Some-behind_mark.ensures.some c.in_ok-next.ensures.ok c.args.events.now.items _ c.args.refused.now c.match-declared.refused c.refusal_of.result _ later
          w.in-Some-declared.number w.in-Some-declared.entry.now w.in-Some-declared.ensures.entry w.in-Some-declared.ensures.number sorts
          (put ∙ ap (λ n. c.args.events.now.items ++ record { name = n; args = row } ∷ []) name) w.refused-is c.len.result c.len.ensures c.refusal_of.ensures
      | in-None w ↦
          unknown_placed c.args.signature.now c.args.bytes.now c.args.from c.in-Some.next c.in-Some-behind_mark.inside c.in_ok-next.next c.in-Some.name.now _ row c.read_row.new.clash
          c.in-Some.ensures.some c.in-Some-behind_mark.ensures.some c.in_ok-next.ensures.ok c.args.events.now.items _ c.args.refused.now c.match-declared.refused c.refusal_of.result _ later
          w.in-None.ensures.entry (w.refused-is ∙ w.keep_first.ensures)
    ]
