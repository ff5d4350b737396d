-- Which line is the first that breaks the bounds.
use Rattle.save_codec.proofs.Vocabulary.{◌≡◌, ◌+◌, ◌∙◌, List, length, ap, sym, subst, rules, AreInstancesOf, AreDuesWithin, IsUnfit, IsUnfitLine, unfit_refusal, lines_in, DueLine}
use Rattle.save_codec.proofs.StateLemmas.{due_refusal, is_state, number_refusal, row_refusal}
use Rattle.save_codec.proofs.judging.Judge.state.Goals as goal

pub returns-in-Some-clause-err : goal.returns-in-Some-clause-err
returns-in-Some-clause-err c = λ s is.
    let p = c.args.parts in
    number_refusal s p.clock p.last p.position p.rows.items p.dues.items c.in-Some.line c.in-Some.ensures.some

pub returns-in-Err-clause-err : goal.returns-in-Err-clause-err
returns-in-Err-clause-err c = λ s is.
    let p = c.args.parts in
    subst (IsUnfitLine s (lines_in p)) (sym c.refusal_at.ensures)
    (row_refusal s p.clock p.last p.position p.rows.items p.dues.items c.in-Err.unfit c.in_default.ensures.none (c.in-Err.ensures.err s is))

pub returns-in-Err-instances-clause-err : goal.returns-in-Err-instances-clause-err
returns-in-Err-instances-clause-err c = λ s is.
    let p = c.args.parts in
    let unfit = c.in-Err-instances.unfit in
    let long : length p.rows.items ≡ c.len.result = search rules in
    let breaks = subst (λ (l : List DueLine). IsUnfit (AreDuesWithin s p.clock p.position) l unfit) c.as_slice.ensures.value (c.in-Err-instances.ensures.err s is) in
    subst (IsUnfitLine s (lines_in p)) (ap (λ n. unfit_refusal (4 + n) unfit) long ∙ sym c.refusal_at-in-Err-instances.ensures)
    (due_refusal s p.clock p.last p.position p.rows.items p.dues.items unfit c.in_default.ensures.none (c.in-Ok.ensures.ok s is).1 breaks)

pub returns-clause-ok : goal.returns-clause-ok
returns-clause-ok c = λ s is.
    let p = c.args.parts in
    let rows = c.in-Ok.ensures.ok s is in
    let instances = subst (λ (l : List DueLine). AreInstancesOf s p.clock p.position l c.in-Ok-instances.pending) c.as_slice.ensures.value (c.in-Ok-instances.ensures.ok s is) in
    is_state s p.clock p.last p.position p.rows.items p.dues.items c.in-Ok.kept c.in-Ok-instances.pending c.in_default.ensures.none rows.0 rows.1 instances
