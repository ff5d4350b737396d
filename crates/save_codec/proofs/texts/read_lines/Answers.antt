-- One more line was read, which may stand after those before it.
use Rattle.save_codec.proofs.Vocabulary.{◌≡◌, sym, true, ◌∙◌, ends_text, kind_may_follow}
use Rattle.save_codec.proofs.ReadLemmas.{nothing_read, read_on, all_read}
use Rattle.save_codec.proofs.texts.read_lines.Goals as goal

pub loop-alloc-init : goal.loop-alloc-init
loop-alloc-init c = nothing_read c.args.text.now c.nothing-parts.result c.nothing-parts.ensures.numbers c.nothing-parts.ensures.items

pub loop-alloc-preserved : goal.loop-alloc-preserved
loop-alloc-preserved c =
    let next : kind_may_follow c.loop-alloc.before c.kind-kind.result ≡ true = sym c.follows.ensures ∙ c.if-not-follows.false in
    read_on c.args.text.now c.loop-alloc.cursor.rest.now c.line.new.self.rest.now c.loop-alloc.before c.loop-alloc.count c.loop-alloc.parts c.put.new.self c.in-Some.line c.kind-kind.result
    c.loop-alloc.invariant
    (rw c.in-Some.is at c.in_ok-line.ensures.told) next c.kind-kind.ensures
    (record { clock = c.in_ok-put.ensures.clock; last = c.in_ok-put.ensures.last; position = c.in_ok-put.ensures.position; rows = c.in_ok-put.ensures.rows; dues = c.in_ok-put.ensures.dues })

pub returns-clause-ok : goal.returns-clause-ok
returns-clause-ok c =
    let end : ends_text c.loop-alloc.before ≡ true = sym c.is_end.ensures ∙ c.loop-alloc-test.false in
    let all = all_read c.args.text.now c.loop-alloc.cursor.rest.now c.loop-alloc.before c.loop-alloc.count c.loop-alloc.parts c.loop-alloc.invariant end
    (c.is_empty.ensures.0 c.if-not-is_empty.false) c.are_few.ensures in
    (all.0, all.1)

pub returns-clause-few : goal.returns-clause-few
returns-clause-few c =
    let end : ends_text c.loop-alloc.before ≡ true = sym c.is_end.ensures ∙ c.loop-alloc-test.false in
    (all_read c.args.text.now c.loop-alloc.cursor.rest.now c.loop-alloc.before c.loop-alloc.count c.loop-alloc.parts c.loop-alloc.invariant end
    (c.is_empty.ensures.0 c.if-not-is_empty.false) c.are_few.ensures).2
