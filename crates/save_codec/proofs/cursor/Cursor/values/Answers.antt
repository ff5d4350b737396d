-- One value after the other, up to what is no space.
use Rattle.save_codec.proofs.Vocabulary.{◌++◌, Some, ap, sym, ◌∙◌, values_text}
use Rattle.save_codec.proofs.ValueLists.{next_left, none_left, one_more, put_value, values_on}
use Rattle.save_codec.proofs.cursor.Cursor.values.Goals as goal

pub loop-alloc-preserved : goal.loop-alloc-preserved
loop-alloc-preserved c =
    let told = rw c.in-Some.is at c.in_ok-value.ensures.told in
    let space = c.take.ensures.taken c.loop-alloc-test.true in
    let put = c.in_ok-put-in-Some.ensures.ok in
    record {
      are_values = put_value c.loop-alloc.row c.put.new.self c.in-Some.value c.loop-alloc.invariant.are_values told.0 put;
      read = values_on c.args.self.now.rest.now c.loop-alloc.self.rest.now c.take.new.self.rest.now c.value.new.self.rest.now c.loop-alloc.row c.put.new.self c.in-Some.value
          c.loop-alloc.invariant.read space told.1 put;
      left = one_more c.args.self.now.rest.now c.loop-alloc.self.rest.now c.take.new.self.rest.now c.value.new.self.rest.now c.loop-alloc.row c.put.new.self c.in-Some.value
          c.loop-alloc.invariant.left space put
          (λ next rest fits ends e. let r = c.in_ok-value.ensures.again next rest fits ends e in (cc (r.0, c.in-Some.is), r.1));
    }

pub returns-in-None-clause-again : goal.returns-in-None-clause-again
returns-in-None-clause-again c = λ values rest fit ends e.
    let n = next_left c.args.self.now.rest.now c.loop-alloc.self.rest.now c.take.new.self.rest.now c.loop-alloc.row c.loop-alloc.invariant.left (c.take.ensures.taken c.loop-alloc-test.true)
    values rest fit ends e in
    let r = c.in_ok-value.ensures.again n.value (values_text n.others ++ rest) n.fits n.ends n.there in
    absurd (cc (r.0, c.in-None.is))

pub returns-clause-told : goal.returns-clause-told
returns-clause-told c =
    (c.loop-alloc.invariant.are_values, c.loop-alloc.invariant.read ∙ ap (λ l. values_text c.loop-alloc.row ++ l) (sym (c.take.ensures.stays c.loop-alloc-test.false)))

pub returns-clause-again : goal.returns-clause-again
returns-clause-again c = λ values rest fit ends e.
    let end = none_left c.args.self.now.rest.now c.loop-alloc.self.rest.now c.loop-alloc.row c.loop-alloc.invariant.left
    (λ behind space. absurd (cc ((c.take.ensures.again behind space).0, c.loop-alloc-test.false))) values rest fit ends e in
    (ap Some end.0, c.take.ensures.stays c.loop-alloc-test.false ∙ end.1)
