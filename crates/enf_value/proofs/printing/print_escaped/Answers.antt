use Rattle.enf_value.proofs.Vocabulary.{ap, arith, subst, take, ◌∙◌, ◌++◌, flat_map, AppendsPart, escaped, on_err_from}
use Rattle.enf_value.proofs.Parts.{front_appended, part_behind}
use Rattle.enf_value.proofs.TextTokens.{slice_from}
use Rattle.enf_value.proofs.printing.print_escaped.Goals as goal

pub returns-in_err-at-clause-err : goal.returns-in_err-at-clause-err
returns-in_err-at-clause-err c =
    let bytes = c.args.bytes.now in
    let before = c.args.out.now.items in
    let middle = c.loop-at.out.items in
    let after = c.print_front.new.out.items in
    on_err_from _ (part_behind escaped bytes c.loop-at.at before middle after c.loop-at.invariant
    (subst (λ l. AppendsPart (flat_map escaped l) middle after) (slice_from bytes c.loop-at.at) c.in_err-at.ensures.err))

pub loop-at-preserved : goal.loop-at-preserved
loop-at-preserved c =
    let bytes = c.args.bytes.now in
    let middle = c.loop-at.out.items in
    let count = c.in_ok-at.field-0 in
    front_appended bytes c.loop-at.at count c.args.out.now.items middle c.print_front.new.out.items (omega (arith, c.loop-at-test.true)) c.loop-at.invariant
    (c.in_ok-at.ensures.ok ∙ ap (λ l. middle ++ flat_map escaped (take count l)) (slice_from bytes c.loop-at.at))
