use Rattle.obligations.proofs.Vocabulary.{[], sym, subst, append-nil, nodes, plan_of, bound_in, guards_now, Begun}
use Rattle.obligations.proofs.ItemLemmas.{none_ahead}
use Rattle.obligations.proofs.TraceLemmas.{none_begun}
use Rattle.obligations.proofs.progress_one.begin_ahead.Goals as goal

pub returns-then-not-has_future : goal.returns-then-not-has_future
returns-then-not-has_future c =
    let plan = plan_of c.args.plan.now in
    let v = bound_in c.args.v.now in
    let now = none_ahead c.has_future.result (nodes plan) c.has_future.ensures c.if-not-has_future.true in
    record {
      adds = record {
        more = [];
        grown = sym (append-nil c.args.into.now.items);
        are = λ trace is.
            let begun = c.missing_exists.ensures.begun (guards_now c.args.now.now) trace c.args.rule plan v c.requires.asked in
            subst (Begun trace c.args.rule plan v) (none_begun trace c.args.rule plan now v begun.0 begun.1) begun.1;
      };
      asked = λ plans stands. tt;
      begun = tt;
    }

pub returns-then-is_asleep : goal.returns-then-is_asleep
returns-then-is_asleep c = record {
  adds = record {
    more = [];
    grown = sym (append-nil c.args.into.now.items);
    are = λ trace is. c.is_asleep.ensures c.if-is_asleep.true trace is c.args.rule (bound_in c.args.v.now);
  };
  asked = λ plans stands. tt;
  begun = tt;
}
