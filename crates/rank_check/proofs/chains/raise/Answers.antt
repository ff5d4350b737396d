use Rattle.rank_check.proofs.Vocabulary.{arith, NameId, HasEdge}
use Rattle.rank_check.proofs.RankLemmas.{raising_all, raising_ended, raising_more, raising_none, raising_same}
use Rattle.rank_check.proofs.chains.raise.Goals.{then-is_reached, else-is_reached}
use Rattle.rank_check.proofs.chains.raise.Goals as goal

pub loop-number-init : goal.loop-number-init
loop-number-init c = raising_none (HasEdge c.args.edges.now) c.args.most c.args.ranks.now c.requires.within

pub loop-number-preserved : goal.loop-number-preserved
loop-number-preserved c =
    let name : NameId = record { 0 = c.loop-number.number } in
    elim c.if-is_reached.branch [
      | then-is_reached w ↦
          let from = c.is_reached.ensures.0 w.if-is_reached.true in
          rw (w.ranks-is, w.is_longer-is) (raising_more (HasEdge c.args.edges.now) c.args.most name from.0 c.loop-number.ranks c.loop-number.is_longer c.loop-number.invariant (omega arith)
          from.1 from.2)
      | else-is_reached w ↦
          rw (w.ranks-is, w.is_longer-is) (raising_same (HasEdge c.args.edges.now) c.args.most name c.loop-number.ranks c.loop-number.is_longer c.loop-number.invariant
          (λ from high edge. let yes = c.is_reached.ensures.1 (from, high, edge) in let no = w.if-is_reached.false in absurd (cc)))
    ]

pub returns-clause-within : goal.returns-clause-within
returns-clause-within c = raising_all (HasEdge c.args.edges.now) c.args.edges.now.width (λ a b joins. (joins.0, joins.1)) c.args.most c.loop-number.number c.loop-number.ranks
    c.loop-number.is_longer (omega arith) c.loop-number.invariant

pub returns-clause-none : goal.returns-clause-none
returns-clause-none c = raising_ended (HasEdge c.args.edges.now) c.args.edges.now.width (λ a b joins. (joins.0, joins.1)) c.args.most c.loop-number.number c.loop-number.ranks
    c.loop-number.is_longer (omega arith) c.loop-number.invariant
