use Rattle.sleepers.proofs.Vocabulary.{take, IsNoted}
use Rattle.sleepers.proofs.LoopLemmas.{each_next}
use Rattle.sleepers.proofs.NotedGroupLemmas.{keeps_on, noted_each_on}
use Rattle.sleepers.proofs.wake_index.Index.note_each.Goals as goal

pub loop-pattern-preserved : goal.loop-pattern-preserved
loop-pattern-preserved c =
    let patterns = c.args.patterns.now in
    let i = c.loop-pattern.pattern-index in
    let old = c.loop-pattern.self in
    let new = c.note_pattern.new.self in
    let kept = c.in_ok-note_pattern.ensures.kept in
    record {
      each = each_next (IsNoted new c.args.group) patterns i c.pattern-item.result c.loop-pattern-test.true c.pattern-item.is
          (noted_each_on old new c.args.group (take i patterns) kept c.loop-pattern.invariant.each) c.in_ok-note_pattern.ensures.ok;
      kept = keeps_on c.args.self.now old new c.loop-pattern.invariant.kept kept;
    }
