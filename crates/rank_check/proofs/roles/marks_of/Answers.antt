use Rattle.rank_check.proofs.Vocabulary.{List, subst, arith, ◌∙◌, Contains, length-set, take_all, Contains-get_or, NameId}
use Rattle.rank_check.proofs.RoleLemmas.{one_more, Tells}
use Rattle.rank_check.proofs.roles.marks_of.Goals as goal

pub index_mut-requires : goal.index_mut-requires
index_mut-requires c =
    omega (arith, c.requires _ (Contains-get_or c.args.listed.now c.loop-name.name-index (record { 0 = 0 }) c.loop-name-test.true), c.loop-name.invariant.count, c.loop-name.marks.ok.0)

pub loop-name-preserved : goal.loop-name-preserved
loop-name-preserved c = record {
  count = length-set c.loop-name.marks.items _ _ ∙ c.loop-name.invariant.count;
  marked = one_more c.loop-name.marks.items c.args.listed.now c.loop-name.name-index (record { 0 = 0 }) c.loop-name-test.true
      (omega (arith, c.requires _ (Contains-get_or c.args.listed.now c.loop-name.name-index (record { 0 = 0 }) c.loop-name-test.true), c.loop-name.invariant.count)) c.loop-name.invariant.marked;
}

pub returns-clause-marks : goal.returns-clause-marks
returns-clause-marks c =
    subst (λ (l : List NameId). Tells c.loop-name.marks.items (Contains l)) (take_all c.loop-name.name-index c.args.listed.now c.loop-name-test.false) c.loop-name.invariant.marked
